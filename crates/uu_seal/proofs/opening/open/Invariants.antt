use Rattle.std.proofs.Common.{All, take}
use Rattle.uu_seal.specs.Opening.{BeginsOtherwise}
use Rattle.uu_seal.specs.Texts.{first_line}
use Rattle.uu_seal.proofs.opening.open.Given as goal

-- the text has the name of none of the first keys
abbrev pub invariant-loop-key : goal.invariant-loop-key
invariant-loop-key l = All (λ key. BeginsOtherwise (first_line key) l.text) (take l.key-index l.keys)
