use Rattle.std.proofs.Common.{◌≡◌, take}
use Rattle.std.specs.List.{flat_map}
use Rattle.uu_report.specs.Logs.{part_lines}
use Rattle.uu_report.proofs.logged.parts_lines.Given as goal

-- the lines of the parts before this one
abbrev pub invariant-loop-line : goal.invariant-loop-line
invariant-loop-line l = l.text.items ≡ flat_map (λ line. part_lines l.moment l.change l.change.form line.now) (take l.line-index l.lines)
