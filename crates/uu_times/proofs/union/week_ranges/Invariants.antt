use Rattle.std.proofs.Common.{◌≡◌, ◌++◌, drop}
use Rattle.uu_times.specs.Internal.Union.{week_ranges}
use Rattle.uu_times.proofs.union.week_ranges.Given as goal

-- the ranges so far, and those of the rest
abbrev pub invariant-loop-simple : goal.invariant-loop-simple
invariant-loop-simple l = l.ranges.items ++ week_ranges (drop l.simple-index l.simples) ≡ week_ranges l.simples
