use Rattle.std.proofs.Common.{◌≡◌, ◌++◌, drop}
use Rattle.uu_times.specs.Internal.Union.{merged, merged_from}
use Rattle.uu_times.proofs.union.merged.Given as goal

-- the runs so far, and those of the rest
abbrev pub invariant-loop-range : goal.invariant-loop-range
invariant-loop-range l = l.runs.items ++ merged_from l.run (drop l.range-index l.rest) ≡ merged l.sorted
