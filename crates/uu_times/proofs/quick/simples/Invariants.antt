use Rattle.std.proofs.Common.{All, length}
use Rattle.uu_times.specs.Internal.Union.{IsDaily}
use Rattle.uu_times.proofs.quick.simples.Given as goal

-- the hours so far end within the day
abbrev pub invariant-loop-simple : goal.invariant-loop-simple
invariant-loop-simple l = All IsDaily l.simples.items

abbrev pub decreases-loop-simple : goal.decreases-loop-simple
decreases-loop-simple l = length l.rest
