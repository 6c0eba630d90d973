use Rattle.std.proofs.Common.{◌≡◌, ◌++◌, length}
use Rattle.uu_seal.specs.Texts.{pieces_of, pieces_text, sealed}
use Rattle.uu_seal.proofs.sealing.seal.Given as goal

-- with the pieces of the rest, the text is what it has to become
abbrev pub invariant-loop-rest : goal.invariant-loop-rest
invariant-loop-rest l = l.whole.items ++ pieces_text l.key l.before (pieces_of l.rest) ≡ sealed l.fn.key l.fn.text

abbrev pub decreases-loop-rest : goal.decreases-loop-rest
decreases-loop-rest l = length l.rest
