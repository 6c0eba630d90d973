use Rattle.std.proofs.Common.{rules, ◌<◌, ◌∙◌, [], length}
use Rattle.uu_report.proofs.ReportLemmas.{texts_grow}
use Rattle.uu_report.specs.Reports.{due_text}
use Rattle.uu_report.proofs.due.due_report.Goals as goal

pub loop-due-preserved : goal.loop-due-preserved
loop-due-preserved c =
    let inside : c.loop-due.due-index < length c.args.dues.now = search rules in
    texts_grow due_text c.args.dues.now c.loop-due.due-index c.due-item.result [] c.loop-due.report.items c.as_bytes.result.now
    c.extend_from_slice.new.self.items inside c.due-item.is c.loop-due.invariant (c.as_bytes.ensures.value ∙ c.in_ok-line.ensures) c.in_ok-extend_from_slice.ensures.items
