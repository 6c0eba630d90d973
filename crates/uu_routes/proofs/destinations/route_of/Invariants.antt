use Rattle.std.proofs.Common.{◌≡◌, map, take}
use Rattle.uu_routes.specs.Internal.Routing.{name_at}
use Rattle.uu_routes.proofs.destinations.route_of.Given as goal

abbrev pub invariant-loop-at : goal.invariant-loop-at
invariant-loop-at l = l.sites.items ≡ map (name_at l.names) (take l.at-index l.path)
