use Rattle.std.proofs.Common.{◌≡◌, map, take}
use Rattle.uu_routes.specs.Map.{without}
use Rattle.uu_routes.proofs.network.map_networks.Given as goal

abbrev pub invariant-loop-network : goal.invariant-loop-network
invariant-loop-network l = l.found.items ≡ map (without l.own) (take l.network-index l.networks)
