use Rattle.std.proofs.Common.{take}
use Rattle.uu_report.specs.Reports.{IsStatusReport}
use Rattle.uu_report.proofs.status.status_report.Given as goal

-- the report so far is that of the systems before this one
abbrev pub invariant-loop-system : goal.invariant-loop-system
invariant-loop-system l = IsStatusReport l.zone (take l.system-index l.systems) l.report.items
