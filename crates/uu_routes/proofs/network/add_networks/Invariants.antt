use Rattle.std.proofs.Common.{◌≡◌, ◌++◌, take}
use Rattle.std.specs.List.{filter_map}
use Rattle.uu_routes.specs.Map.{network_if}
use Rattle.uu_routes.proofs.network.add_networks.Given as goal

abbrev pub invariant-loop-network : goal.invariant-loop-network
invariant-loop-network l = l.found.items ≡ l.initial.found.items ++ filter_map (network_if l.entries) (take l.network-index l.entry.networks)
