use Rattle.std.proofs.Common.{rules, ◌<◌, ◌∙◌, get_or, length}
use Rattle.std.proofs.lemmas.List.{get_or_default}
use Rattle.uu_report.proofs.ReportLemmas.{texts_grow}
use Rattle.uu_report.specs.Reports.{skipped_text}
use Rattle.uu_report.proofs.links.append_skipped.Goals as goal

pub loop-number-preserved : goal.loop-number-preserved
loop-number-preserved c =
    let inside : c.loop-number.number-index < length c.args.skipped.now = search rules in
    let number = get_or c.args.skipped.now c.loop-number.number-index 0 in
    texts_grow skipped_text c.args.skipped.now c.loop-number.number-index number c.args.report.now.items c.loop-number.report.items
    c.as_bytes.result.now c.extend_from_slice.new.self.items inside (get_or_default c.args.skipped.now c.loop-number.number-index 0 number inside)
    c.loop-number.invariant (c.as_bytes.ensures.value ∙ c.in_ok-line.ensures) c.in_ok-extend_from_slice.ensures.items
