use Rattle.std.proofs.Common.{◌≡◌, ◌++◌, drop}
use Rattle.uu_routes.specs.Internal.Routing.{destinations}
use Rattle.uu_routes.proofs.destinations.destinations.Given as goal

abbrev pub invariant-loop-at : goal.invariant-loop-at
invariant-loop-at l = l.list.items ++ destinations l.names (drop l.at l.names) (drop l.at l.labels) ≡ destinations l.names l.names l.labels
