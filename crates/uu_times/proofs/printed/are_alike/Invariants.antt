use Rattle.std.proofs.Common.{◌≡◌, length}
use Rattle.std.specs.List.{filter_map}
use Rattle.uu_times.specs.Printed.{on_day, same_ranges}
use Rattle.uu_times.proofs.printed.are_alike.Given as goal

-- the rest tells it
abbrev pub invariant-loop-part : goal.invariant-loop-part
invariant-loop-part l =
    same_ranges (filter_map (on_day l.day) l.left) (filter_map (on_day l.other) l.right)
    ≡ same_ranges (filter_map (on_day l.day) l.ranges) (filter_map (on_day l.other) l.ranges)

abbrev pub decreases-loop-part : goal.decreases-loop-part
decreases-loop-part l = length l.left
