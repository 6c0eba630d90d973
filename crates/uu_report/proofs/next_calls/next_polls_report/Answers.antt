use Rattle.std.proofs.Common.{rules, ◌≡◌, ◌++◌, ◌<◌, length, take}
use Rattle.uu_report.proofs.ReportLemmas.{lines_grow}
use Rattle.uu_report.specs.Reports.{AreLines, IsNextPollLine}
use Rattle.uu_report.proofs.next_calls.next_polls_report.Goals as goal

pub loop-poll-preserved : goal.loop-poll-preserved
loop-poll-preserved c =
    let grown : c.extend_from_slice.new.self.items ≡ c.loop-poll.report.items ++ c.as_bytes.result.now = search rules in
    let line : IsNextPollLine c.args.zone.now c.args.now c.poll-item.result c.as_bytes.result.now =
    rw c.as_bytes.ensures.value (c.in_ok-line.ensures) in
    let inside : c.loop-poll.poll-index < length c.args.polls.now = search rules in
    let before : AreLines (IsNextPollLine c.args.zone.now c.args.now) (take c.loop-poll.poll-index c.args.polls.now) c.loop-poll.report.items =
    c.loop-poll.invariant in
    simp (grown) (lines_grow (IsNextPollLine c.args.zone.now c.args.now) c.args.polls.now c.loop-poll.poll-index c.poll-item.result
    c.loop-poll.report.items c.as_bytes.result.now inside c.poll-item.is before line)
