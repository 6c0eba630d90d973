use Rattle.std.proofs.Common.{rules, ◌<◌, ◌∙◌, length}
use Rattle.uu_report.proofs.ReportLemmas.{texts_grow}
use Rattle.uu_report.specs.Reports.{alias_text}
use Rattle.uu_report.proofs.links.append_aliases.Goals as goal

pub loop-alias-preserved : goal.loop-alias-preserved
loop-alias-preserved c =
    let inside : c.loop-alias.alias-index < length c.args.aliases.now = search rules in
    texts_grow alias_text c.args.aliases.now c.loop-alias.alias-index c.alias-item.result c.args.report.now.items c.loop-alias.report.items c.as_bytes.result.now
    c.extend_from_slice.new.self.items inside c.alias-item.is c.loop-alias.invariant (c.as_bytes.ensures.value ∙ c.in_ok-line.ensures) c.in_ok-extend_from_slice.ensures.items
