use Rattle.std.proofs.Common.{take}
use Rattle.uu_report.specs.Reports.{IsNextCallsReport}
use Rattle.uu_report.proofs.next_calls.next_calls_report.Given as goal

-- the report so far is that of the calls before this one
abbrev pub invariant-loop-call : goal.invariant-loop-call
invariant-loop-call l = IsNextCallsReport l.zone l.now (take l.call-index l.calls) l.report.items
