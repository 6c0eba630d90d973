use Rattle.std.proofs.Common.{◌≡◌, ◌++◌}
use Rattle.uu_times.specs.Internal.Union.{days_ranges}
use Rattle.uu_times.proofs.union.push_simple.Given as goal

-- the ranges of the days so far are there
abbrev pub invariant-loop-day : goal.invariant-loop-day
invariant-loop-day l = l.ranges.items ≡ l.fn.ranges.items ++ days_ranges l.simple l.day
