use Rattle.std.proofs.Common.{◌≡◌, ◌++◌, take}
use Rattle.std.specs.List.{flat_map}
use Rattle.uu_times.specs.Printed.{on_day, part_text}
use Rattle.uu_times.proofs.printed.push_day.Given as goal

-- what the ranges so far have on the day
abbrev pub invariant-loop-range : goal.invariant-loop-range
invariant-loop-range l = l.text.items ≡ l.fn.text.items ++ flat_map (λ range. part_text l.word (on_day l.day range)) (take l.range-index l.ranges)
