use Rattle.std.proofs.Common.{◌≡◌, map, take}
use Rattle.uu_routes.specs.Site.{neighbour}
use Rattle.uu_routes.proofs.site.neighbours_of.Given as goal

abbrev pub invariant-loop-name : goal.invariant-loop-name
invariant-loop-name l = l.neighbours.items ≡ map (neighbour l.entries) (take l.name-index l.systems)
