use Rattle.std.proofs.Common.{◌≡◌, map, take}
use Rattle.uu_routes.specs.Internal.Tables.{site_edge}
use Rattle.uu_routes.proofs.net.edges_of.Given as goal

abbrev pub invariant-loop-site : goal.invariant-loop-site
invariant-loop-site l = l.edges ≡ map (site_edge l.names l.network.cost) (take l.site-index l.network.sites)
