use Rattle.std.proofs.Common.{◌≡◌, take}
use Rattle.std.specs.List.{filter_map}
use Rattle.uu_routes.specs.Map.{first_hop, own_links}
use Rattle.uu_routes.proofs.first.first_hops.Given as goal

abbrev pub invariant-loop-system : goal.invariant-loop-system
invariant-loop-system l = record {
  links : l.links ≡ own_links l.entries l.own;
  found : l.found.items ≡ filter_map (first_hop l.entries l.own l.links) (take l.system-index l.systems);
}
