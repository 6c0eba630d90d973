use Rattle.std.proofs.Common.{◌≡◌, ◌++◌, take}
use Rattle.std.specs.List.{filter_map}
use Rattle.uu_routes.specs.Map.{link_if}
use Rattle.uu_routes.proofs.map.add_links.Given as goal

abbrev pub invariant-loop-link : goal.invariant-loop-link
invariant-loop-link l = l.found.items ≡ l.initial.found.items ++ filter_map (link_if l.entries l.entry.host) (take l.link-index l.entry.links)
