use Rattle.std.proofs.Common.{◌≡◌, map, take}
use Rattle.uu_routes.specs.Internal.Labels.{way_of}
use Rattle.uu_routes.proofs.search.ways_of.Given as goal

abbrev pub invariant-loop-label : goal.invariant-loop-label
invariant-loop-label l = l.ways.items ≡ map (way_of l.hops) (take l.label-index l.known)
