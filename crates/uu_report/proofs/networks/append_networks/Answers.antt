use Rattle.std.proofs.Common.{rules, ◌<◌, ◌∙◌, length}
use Rattle.uu_report.proofs.ReportLemmas.{texts_grow}
use Rattle.uu_report.specs.Reports.{network_text}
use Rattle.uu_report.proofs.networks.append_networks.Goals as goal

pub loop-network-preserved : goal.loop-network-preserved
loop-network-preserved c =
    let inside : c.loop-network.network-index < length c.args.networks.now = search rules in
    texts_grow network_text c.args.networks.now c.loop-network.network-index c.network-item.result c.args.report.now.items c.loop-network.report.items c.as_bytes.result.now
    c.extend_from_slice.new.self.items inside c.network-item.is c.loop-network.invariant (c.as_bytes.ensures.value ∙ c.in_ok-line.ensures) c.in_ok-extend_from_slice.ensures.items
