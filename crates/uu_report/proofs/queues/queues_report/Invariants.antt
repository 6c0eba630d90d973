use Rattle.std.proofs.Common.{take}
use Rattle.uu_report.specs.Reports.{IsQueuesReport}
use Rattle.uu_report.proofs.queues.queues_report.Given as goal

-- the report so far is that of the queues before this one
abbrev pub invariant-loop-queue : goal.invariant-loop-queue
invariant-loop-queue l = IsQueuesReport l.zone (take l.queue-index l.queues) l.report.items
