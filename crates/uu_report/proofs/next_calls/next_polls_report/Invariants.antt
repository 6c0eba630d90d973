use Rattle.std.proofs.Common.{take}
use Rattle.uu_report.specs.Reports.{IsNextPollsReport}
use Rattle.uu_report.proofs.next_calls.next_polls_report.Given as goal

-- the report so far is that of the polls before this one
abbrev pub invariant-loop-poll : goal.invariant-loop-poll
invariant-loop-poll l = IsNextPollsReport l.zone l.now (take l.poll-index l.polls) l.report.items
