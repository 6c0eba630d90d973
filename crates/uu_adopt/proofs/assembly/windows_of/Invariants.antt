use Rattle.std.proofs.Common.{◌≡◌, ◌++◌, map, drop}
use Rattle.uu_adopt.specs.Assembly.{range_of}
use Rattle.uu_adopt.proofs.assembly.windows_of.Given as goal

abbrev pub invariant-loop-range : goal.invariant-loop-range
invariant-loop-range l = map range_of l.ranges ≡ l.runs.items ++ map range_of (drop l.range-index l.ranges)
