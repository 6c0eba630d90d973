-- Ways from a site, their costs and their order (that ways of one cost go by their number of hosts, and
-- then by the hosts, is this project's choice).
use Rattle.std.specs.Prelude.{◌≡◌, ℕ, ◌+◌, List, [], ◌∷◌, length}
use Rattle.std.specs.declared.cmp.Ordering.{Ordering}
use Rattle.std.specs.Ordering.{nat_cmp, ordering_then}
use Rattle.std.specs.Cmp.Lexicographic.{slice_cmp}

-- A way is a list of hosts, here from the last one back to the first hop. `goes us v d` says that who
-- came by `us` may go on to `v` at the cost `d`. The cost of a way is the sum of these.
abbrev pub IsWay : {V : Type 0} → (List V → V → ℕ → Type 0) → List V → ℕ → Type 0
IsWay goes [] c = c ≡ 0
IsWay goes (v ∷ us) c = (b : ℕ) × ((d : ℕ) × (goes us v d × IsWay goes us b × (c ≡ b + d)))

-- ways, from the first hop on, in order of their costs, their numbers of hosts and their hosts
abbrev pub way_cmp : {V : Type 0} → (V → V → Ordering) → ℕ → List V → ℕ → List V → Ordering
way_cmp cmp c p d q = ordering_then (ordering_then (nat_cmp c d) (nat_cmp (length p) (length q))) (slice_cmp cmp p q)
