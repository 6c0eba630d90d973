use Rattle.std.proofs.Common.{◌≡◌, map, take}
use Rattle.uu_routes.specs.Internal.Tables.{network_edges}
use Rattle.uu_routes.proofs.net.network_edges.Given as goal

abbrev pub invariant-loop-network : goal.invariant-loop-network
invariant-loop-network l = l.table.items ≡ map (network_edges l.names) (take l.network-index l.networks)
