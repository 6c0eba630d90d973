use Rattle.std.proofs.Common.{rules, ◌<◌, ◌∙◌, length}
use Rattle.uu_report.proofs.ReportLemmas.{texts_grow}
use Rattle.uu_report.specs.Reports.{link_text}
use Rattle.uu_report.proofs.links.append_links.Goals as goal

pub loop-link-preserved : goal.loop-link-preserved
loop-link-preserved c =
    let inside : c.loop-link.link-index < length c.args.links.now = search rules in
    texts_grow link_text c.args.links.now c.loop-link.link-index c.link-item.result c.args.report.now.items c.loop-link.report.items c.as_bytes.result.now
    c.extend_from_slice.new.self.items inside c.link-item.is c.loop-link.invariant (c.as_bytes.ensures.value ∙ c.in_ok-line.ensures) c.in_ok-extend_from_slice.ensures.items
