-- How the code finds ways: by labels, in rounds.
use Rattle.std.specs.Prelude.{ℕ, ◌+◌, ◌==◌, Bool, true, List, [], ◌∷◌, ◌++◌, length, Option, Some, None, if◌then◌else◌, slice_set, get_or}
use Rattle.std.specs.declared.cmp.Ordering.{Ordering}
use Rattle.std.specs.Ordering.{nat_cmp, is_lt}
use Rattle.uu_routes.specs.Way.{way_cmp}
use Rattle.uu_routes.specs.declared.net.Edge.{Edge}
use Rattle.uu_routes.specs.declared.label.Label.{Label}

abbrev pub start : Label
start = record { cost = 0; path = [] }

abbrev pub onward : Label → Edge → Label
onward base e = record { cost = base.cost + e.cost; path = base.path ++ e.to ∷ [] }

-- labels in order of cost, number of hops and hosts
abbrev pub label_cmp : Label → Label → Ordering
label_cmp a b = way_cmp nat_cmp a.cost a.path b.cost b.path

unfoldable pub is_below : Label → Label → Bool
is_below a b = is_lt (label_cmp a b)

abbrev pub better : Label → Option Label → Bool
better way None = true
better way (Some label) = is_below way label

abbrev pub improved : Label → Option Label → Option Label
improved way known = if better way known then Some way else known

-- what is known of a host
abbrev pub label_at : List (Option Label) → ℕ → Option Label
label_at ls i = get_or ls i None

-- one link after the other
abbrev pub relaxed : Label → List Edge → List (Option Label) → List (Option Label)
relaxed base [] ls = ls
relaxed base (e ∷ es) ls = relaxed base es (slice_set ls e.to (improved (onward base e) (label_at ls e.to)))

-- the links of one host
abbrev pub followed : Option Label → List Edge → List (Option Label) → List (Option Label)
followed None es ls = ls
followed (Some base) es ls = relaxed base es ls

-- what is known of a host, if that way has so many hosts
abbrev pub way_of : ℕ → Option Label → Option Label
way_of hops None = None
way_of hops (Some l) = if length l.path == hops then Some l else None

-- the links of all hosts, each after a way to it
abbrev pub rounded : List (List Edge) → List (Option Label) → List (Option Label) → List (Option Label)
rounded [] known ls = ls
rounded (es ∷ links) [] ls = ls
rounded (es ∷ links) (o ∷ known) ls = rounded links known (followed o es ls)

-- the one that comes first, if it is known
abbrev pub lesser : Option Label → Option Label → Option Label
lesser None least = least
lesser (Some l) least = improved l least

-- the least of these ways to the hosts of a network
abbrev pub least_among : List (Option Label) → List Edge → Option Label → Option Label
least_among ways [] least = least
least_among ways (e ∷ es) least = least_among ways es (lesser (label_at ways e.to) least)

-- the links of all networks, each after the least of these ways to its hosts
abbrev pub joined : List (List Edge) → List (Option Label) → List (Option Label) → List (Option Label)
joined [] ways ls = ls
joined (es ∷ networks) ways ls = joined networks ways (followed (least_among ways es None) es ls)
