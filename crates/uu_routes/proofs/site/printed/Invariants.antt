use Rattle.std.proofs.Common.{◌≡◌, take}
use Rattle.std.specs.List.{filter_map}
use Rattle.uu_routes.specs.Site.{site_route}
use Rattle.uu_routes.proofs.site.printed.Given as goal

abbrev pub invariant-loop-destination : goal.invariant-loop-destination
invariant-loop-destination l = l.list.items ≡ filter_map (site_route l.neighbours l.own) (take l.destination-index l.all)
