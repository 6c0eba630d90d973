-- How the links of an entry are listed (this project's choice).
use Rattle.std.specs.Prelude.{◌≡◌, ◌↔◌, ⊤, ◌≤◌, List, Contains}
use Rattle.std.specs.declared.cmp.Ordering.{Ordering}
use Rattle.std.specs.declared.cmp.Ordering.TheVariants.{Less, Equal, Greater}
use Rattle.std.specs.Ordering.{nat_cmp, ordering_then}
use Rattle.std.specs.Cmp.Lexicographic.{slice_cmp}
use Rattle.std.specs.List.Sorted.{IsStrictlySortedBy}
use Rattle.uu_map.specs.declared.entry.Cost.{Cost}
use Rattle.uu_map.specs.declared.entry.Cost.TheVariants.{Value, Dead}
use Rattle.uu_map.specs.declared.entry.Link.{Link}

-- one cost is at most another: Dead is above every value
abbrev pub CostsAtMost : Cost → Cost → Type 0
CostsAtMost (Value a) (Value b) = a ≤ b
CostsAtMost (Value a) Dead = ⊤
CostsAtMost Dead (Value b) = ⊥
CostsAtMost Dead Dead = ⊤

-- the link is among these links, and no other link to the same name costs less
abbrev pub IsLeast : List Link → Link → Type 0
IsLeast links link = Contains links link × ((other : Link) → Contains links other → other.to ≡ link.to → CostsAtMost link.cost other.cost)

-- costs in order, Dead last
abbrev pub cost_cmp : Cost → Cost → Ordering
cost_cmp (Value a) (Value b) = nat_cmp a b
cost_cmp (Value a) Dead = Less
cost_cmp Dead (Value b) = Greater
cost_cmp Dead Dead = Equal

-- links in order of their costs, and then of the bytes of their names
abbrev pub listing_cmp : Link → Link → Ordering
listing_cmp a b = ordering_then (cost_cmp a.cost b.cost) (slice_cmp nat_cmp a.to b.to)

-- The listed links are those that cost least for their name, each once, in this order.
pub record IsListing (links listed : List Link) : Type 0 where
  pub least : (link : Link) → Contains listed link ↔ IsLeast links link
  pub in_order : IsStrictlySortedBy listing_cmp listed
