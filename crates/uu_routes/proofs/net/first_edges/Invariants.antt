use Rattle.std.proofs.Common.{◌≡◌, map, take}
use Rattle.uu_routes.specs.Internal.Tables.{hop_edge}
use Rattle.uu_routes.proofs.net.first_edges.Given as goal

abbrev pub invariant-loop-hop : goal.invariant-loop-hop
invariant-loop-hop l = l.edges.items ≡ map (hop_edge l.names) (take l.hop-index l.first)
