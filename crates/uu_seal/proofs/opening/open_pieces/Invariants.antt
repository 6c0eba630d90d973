use Rattle.std.proofs.Common.{length}
use Rattle.uu_seal.proofs.Opened.{Progress}
use Rattle.uu_seal.proofs.opening.open_pieces.Given as goal

-- pieces come before what is left, and their bytes were kept
abbrev pub invariant-loop-piece : goal.invariant-loop-piece
invariant-loop-piece l = Progress l.fn.key l.fn.text l.before l.rest l.opened.items

abbrev pub decreases-loop-piece : goal.decreases-loop-piece
decreases-loop-piece l = length l.rest
