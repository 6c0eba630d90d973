use Rattle.std.proofs.Common.{[], arith}
use Rattle.uu_routes.specs.Site.{site_route}
use Rattle.uu_routes.proofs.Filtering.{filter_map_step}
use Rattle.uu_routes.proofs.site.printed.Goals as goal

pub loop-destination-preserved : goal.loop-destination-preserved
loop-destination-preserved c =
    filter_map_step (site_route c.args.neighbours.now c.args.own.now) c.args.all.now c.loop-destination.destination-index c.destination-item.result [] c.loop-destination.list.items c.push_if.new.found.items c.in_ok-route.route
    (omega arith) c.destination-item.is c.loop-destination.invariant c.in_ok-push_if.ensures c.in_ok-route.ensures
