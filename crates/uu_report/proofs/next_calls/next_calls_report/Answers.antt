use Rattle.std.proofs.Common.{rules, ◌≡◌, ◌++◌, ◌<◌, length, take}
use Rattle.uu_report.proofs.ReportLemmas.{lines_grow}
use Rattle.uu_report.specs.Reports.{AreLines, IsNextCallLine}
use Rattle.uu_report.proofs.next_calls.next_calls_report.Goals as goal

pub loop-call-preserved : goal.loop-call-preserved
loop-call-preserved c =
    let grown : c.extend_from_slice.new.self.items ≡ c.loop-call.report.items ++ c.as_bytes.result.now = search rules in
    let line : IsNextCallLine c.args.zone.now c.args.now c.call-item.result c.as_bytes.result.now =
    rw c.as_bytes.ensures.value (c.in_ok-line.ensures) in
    let inside : c.loop-call.call-index < length c.args.calls.now = search rules in
    let before : AreLines (IsNextCallLine c.args.zone.now c.args.now) (take c.loop-call.call-index c.args.calls.now) c.loop-call.report.items =
    c.loop-call.invariant in
    simp (grown) (lines_grow (IsNextCallLine c.args.zone.now c.args.now) c.args.calls.now c.loop-call.call-index c.call-item.result
    c.loop-call.report.items c.as_bytes.result.now inside c.call-item.is before line)
