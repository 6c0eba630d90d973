use Rattle.std.proofs.Common.{rules, ◌≡◌, ◌++◌, ◌<◌, length, take}
use Rattle.uu_report.proofs.ReportLemmas.{lines_grow}
use Rattle.uu_report.specs.Reports.{AreLines, IsQueueLine}
use Rattle.uu_report.proofs.queues.queues_report.Goals as goal

pub loop-queue-preserved : goal.loop-queue-preserved
loop-queue-preserved c =
    let grown : c.extend_from_slice.new.self.items ≡ c.loop-queue.report.items ++ c.as_bytes.result.now = search rules in
    let line : IsQueueLine c.args.zone.now c.queue-item.result c.as_bytes.result.now =
    rw c.as_bytes.ensures.value (c.in_ok-line.ensures) in
    let inside : c.loop-queue.queue-index < length c.args.queues.now = search rules in
    let before : AreLines (IsQueueLine c.args.zone.now) (take c.loop-queue.queue-index c.args.queues.now) c.loop-queue.report.items =
    c.loop-queue.invariant in
    simp (grown) (lines_grow (IsQueueLine c.args.zone.now) c.args.queues.now c.loop-queue.queue-index c.queue-item.result
    c.loop-queue.report.items c.as_bytes.result.now inside c.queue-item.is before line)
