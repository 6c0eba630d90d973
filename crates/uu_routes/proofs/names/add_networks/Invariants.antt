use Rattle.std.proofs.Common.{◌≡◌, ◌++◌, take}
use Rattle.std.specs.Prelude.{flat_map}
use Rattle.uu_routes.specs.Internal.Numbers.{network_sites}
use Rattle.uu_routes.proofs.names.add_networks.Given as goal

abbrev pub invariant-loop-network : goal.invariant-loop-network
invariant-loop-network l = l.names.items ≡ l.initial.names.items ++ flat_map network_sites (take l.network-index l.networks)
