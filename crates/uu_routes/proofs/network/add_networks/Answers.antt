use Rattle.std.proofs.Common.{length, get_or, ap, ◌∙◌, arith}
use Rattle.uu_routes.specs.Map.{network_if}
use Rattle.uu_routes.proofs.Filtering.{filter_map_step}
use Rattle.uu_routes.proofs.network.add_networks.Goals as goal

pub loop-network-preserved : goal.loop-network-preserved
loop-network-preserved c =
    filter_map_step (network_if c.args.entries.now) c.args.entry.now.networks c.loop-network.network-index c.network-item.result c.args.found.now.items c.loop-network.found.items c.push_if.new.found.items c.in_ok-network.network
    (omega (arith, ap length c.as_slice-network-items.ensures)) (c.network-item.is ∙ ap (λ xs. get_or xs c.loop-network.network-index c.network-item.result) c.as_slice-network-items.ensures) c.loop-network.invariant c.in_ok-push_if.ensures c.in_ok-network.ensures
