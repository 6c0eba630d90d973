use Rattle.std.proofs.Common.{◌≡◌, ◌+◌, ◌≤◌, ◌∷◌, ℕ, length}
use Rattle.std.specs.Str.Lines.{lines}
use Rattle.uu_times.specs.Lines.{joined, joined_onto}
use Rattle.uu_times.proofs.lines.joined_line.Given as goal

-- what is joined so far, and what the next line and the rest go on with
abbrev pub invariant-loop-line : goal.invariant-loop-line
invariant-loop-line l =
    ((number : ℕ) → joined_onto number l.line.items (joined (number + l.before) (l.next ∷ lines l.rest)) ≡ joined number (lines l.text))
    × (l.before + 1 + length l.rest ≤ length l.text)

abbrev pub decreases-loop-line : goal.decreases-loop-line
decreases-loop-line l = length l.rest
