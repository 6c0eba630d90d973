use Rattle.std.proofs.Common.{◌≡◌, ◌++◌, map, take}
use Rattle.uu_routes.specs.Internal.Numbers.{link_to}
use Rattle.uu_routes.proofs.names.add_ends.Given as goal

abbrev pub invariant-loop-link : goal.invariant-loop-link
invariant-loop-link l = l.names.items ≡ l.initial.names.items ++ map link_to (take l.link-index l.links)
