use Rattle.std.proofs.Common.{◌≡◌, ◌≤◌, length}
use Rattle.std.specs.List.{filter_map}
use Rattle.uu_times.specs.Printed.{on_day}
use Rattle.uu_times.proofs.printed.next_part.Given as goal

-- the ranges so far have no part on the day
abbrev pub invariant-loop-range : goal.invariant-loop-range
invariant-loop-range l = (filter_map (on_day l.day) l.rest ≡ filter_map (on_day l.day) l.ranges) × (length l.rest ≤ length l.ranges)

abbrev pub decreases-loop-range : goal.decreases-loop-range
decreases-loop-range l = length l.rest
