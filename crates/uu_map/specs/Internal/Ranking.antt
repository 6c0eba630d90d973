-- How the code lists links: by two sorts.
use Rattle.std.specs.Prelude.{Bool, false, List, [], ◌∷◌, Option, Some, None, if◌then◌else◌}
use Rattle.std.specs.declared.cmp.Ordering.{Ordering}
use Rattle.std.specs.Ordering.{nat_cmp, ordering_then}
use Rattle.std.specs.Cmp.Lexicographic.{slice_cmp}
use Rattle.std.specs.Str.{bytes_eq}
use Rattle.uu_map.specs.declared.entry.Link.{Link}
use Rattle.uu_map.specs.declared.least.Ranked.{Ranked}
use Rattle.uu_map.specs.Listing.{cost_cmp}

-- links in order of their names, and then of their costs
abbrev pub by_name_cmp : Link → Link → Ordering
by_name_cmp a b = ordering_then (slice_cmp nat_cmp a.to b.to) (cost_cmp a.cost b.cost)

abbrev pub ranked_cmp : Ranked → Ranked → Ordering
ranked_cmp a b = ordering_then (cost_cmp a.cost b.cost) (slice_cmp nat_cmp a.to b.to)

-- a ranked link as a link
abbrev pub as_link : Ranked → Link
as_link r = record { to = r.to; cost = r.cost }

abbrev pub has_name_of : Option Link → Link → Bool
has_name_of None link = false
has_name_of (Some before) link = bytes_eq link.to before.to

-- the links whose name isn't that of the link before them
abbrev pub firsts_after : Option Link → List Link → List Link
firsts_after before [] = []
firsts_after before (link ∷ links) = if has_name_of before link then firsts_after (Some link) links else link ∷ firsts_after (Some link) links
