use Rattle.std.proofs.Common.{◌↔◌, ◌≤◌, drop}
use Rattle.uu_times.specs.Ranges.{AreRunsFrom}
use Rattle.uu_times.proofs.windows.are_runs.Given as goal

abbrev pub invariant-loop-low : goal.invariant-loop-low
invariant-loop-low l = (AreRunsFrom 0 l.ranges ↔ AreRunsFrom l.start (drop l.low-index l.ranges)) × (l.start ≤ 10081)
