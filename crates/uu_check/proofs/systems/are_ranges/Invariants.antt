use Rattle.std.proofs.Common.{◌≡◌, drop}
use Rattle.uu_check.specs.Tests.{are_ranges}
use Rattle.uu_check.proofs.systems.are_ranges.Given as goal

abbrev pub invariant-loop-range : goal.invariant-loop-range
invariant-loop-range l = are_ranges 0 l.ranges ≡ are_ranges l.start (drop l.range-index l.ranges)
