use Rattle.std.proofs.Common.{◌≡◌, ◌++◌, map, take}
use Rattle.uu_routes.specs.Internal.Numbers.{hop_to, link_from}
use Rattle.uu_routes.proofs.names.starts.Given as goal

abbrev pub invariant-loop-hop : goal.invariant-loop-hop
invariant-loop-hop l = l.names.items ≡ map hop_to (take l.hop-index l.first)

abbrev pub invariant-loop-link : goal.invariant-loop-link
invariant-loop-link l = l.names.items ≡ map hop_to l.first ++ map link_from (take l.link-index l.links)
