use Rattle.std.proofs.Common.{[], arith}
use Rattle.uu_routes.specs.Map.{first_hop}
use Rattle.uu_routes.proofs.Filtering.{filter_map_step}
use Rattle.uu_routes.proofs.first.first_hops.Goals as goal

pub loop-system-preserved : goal.loop-system-preserved
loop-system-preserved c = record {
  links = c.loop-system.invariant.links;
  found =
      filter_map_step (first_hop c.args.entries.now c.args.own.now c.own_links-links.result.now) c.args.systems.now c.loop-system.system-index c.system-item.result [] c.loop-system.found.items c.push_if.new.found.items c.in_ok-hop.hop
      (omega arith) c.system-item.is c.loop-system.invariant.found c.in_ok-push_if.ensures c.in_ok-hop.ensures;
}
