use Rattle.std.proofs.Common.{◌≡◌, take}
use Rattle.std.specs.List.{flat_map}
use Rattle.uu_report.specs.Reports.{due_text}
use Rattle.uu_report.proofs.due.due_report.Given as goal

-- the report so far has a line for each before this one
abbrev pub invariant-loop-due : goal.invariant-loop-due
invariant-loop-due l = l.report.items ≡ flat_map due_text (take l.due-index l.dues)
