use Rattle.std.proofs.Common.{rules, ◌<◌, ◌∙◌, [], length}
use Rattle.uu_report.proofs.ReportLemmas.{texts_grow}
use Rattle.uu_report.specs.Reports.{route_text}
use Rattle.uu_report.proofs.routes.routes_report.Goals as goal

pub loop-route-preserved : goal.loop-route-preserved
loop-route-preserved c =
    let inside : c.loop-route.route-index < length c.args.routes.now = search rules in
    texts_grow (route_text c.args.costs) c.args.routes.now c.loop-route.route-index c.route-item.result [] c.loop-route.report.items c.as_bytes.result.now
    c.extend_from_slice.new.self.items inside c.route-item.is c.loop-route.invariant (c.as_bytes.ensures.value ∙ c.in_ok-line.ensures) c.in_ok-extend_from_slice.ensures.items
