use Rattle.std.proofs.Common.{◌≡◌, ◌≤◌, true, drop, take}
use Rattle.std.specs.Char.{is_ascii_digit}
use Rattle.std.specs.List.{list_all}
use Rattle.uu_times.specs.Directives.{value_behind}
use Rattle.uu_times.proofs.directive.number_of.Given as goal

-- digits so far, whose value goes on to that of all
abbrev pub invariant-loop-digit : goal.invariant-loop-digit
invariant-loop-digit l =
    (value_behind l.value (drop l.digit-index l.text) ≡ value_behind 0 l.text)
    × (list_all is_ascii_digit (take l.digit-index l.text) ≡ true)
    × (l.value ≤ l.limit)
