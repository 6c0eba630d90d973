use Rattle.std.proofs.Common.{◌≡◌, take, not}
use Rattle.std.specs.Prelude.{flat_map, filter}
use Rattle.std.specs.Str.{bytes_eq}
use Rattle.uu_routes.specs.Map.{links_in}
use Rattle.uu_routes.proofs.map.map_links.Given as goal

abbrev pub invariant-loop-entry : goal.invariant-loop-entry
invariant-loop-entry l = l.found.items ≡ flat_map (links_in l.entries) (filter (λ entry. not (bytes_eq entry.host l.own)) (take l.entry-index l.entries))
