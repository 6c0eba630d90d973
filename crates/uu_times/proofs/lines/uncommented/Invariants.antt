use Rattle.std.proofs.Common.{◌≡◌, ◌++◌, ◌-◌, ◌≤◌, drop, length}
use Rattle.uu_times.specs.Lines.{uncommented}
use Rattle.uu_times.proofs.lines.uncommented.Given as goal

-- what is kept so far, and what is kept of the rest
abbrev pub invariant-loop-at : goal.invariant-loop-at
invariant-loop-at l = (l.clean.items ++ uncommented (drop l.at l.line) ≡ uncommented l.line) × (l.at ≤ length l.line)

abbrev pub decreases-loop-at : goal.decreases-loop-at
decreases-loop-at l = length l.initial.line - l.at
