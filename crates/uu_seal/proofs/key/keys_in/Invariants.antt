use Rattle.std.proofs.Common.{length}
use Rattle.uu_seal.proofs.KeyFiles.{Progress}
use Rattle.uu_seal.proofs.key.keys_in.Given as goal

-- the lines so far were those of the keys so far
abbrev pub invariant-loop-rest : goal.invariant-loop-rest
invariant-loop-rest l = Progress l.fn.text l.rest l.keys.items

abbrev pub decreases-loop-rest : goal.decreases-loop-rest
decreases-loop-rest l = length l.rest
