-- How the code turns numbers back into names.
use Rattle.std.specs.Prelude.{ℕ, ◌<◌, ⊤, List, [], ◌∷◌, map, get_or, All, Option, Some, None}
use Rattle.uu_routes.specs.declared.label.Label.{Label}
use Rattle.uu_routes.specs.declared.link.Route.{Route}
use Rattle.uu_routes.specs.declared.link.Destination.{Destination}

abbrev pub name_at : List (List ℕ) → ℕ → List ℕ
name_at names i = get_or names i []

abbrev pub route_of : List (List ℕ) → Label → Route
route_of names l = record { cost = l.cost; sites = map (name_at names) l.path }

abbrev pub route_if : List (List ℕ) → Option Label → Option Route
route_if names None = None
route_if names (Some l) = Some (route_of names l)

-- each host of the label is one of so many
abbrev pub IsNumbered : ℕ → Option Label → Type 0
IsNumbered hosts None = ⊤
IsNumbered hosts (Some l) = All (λ i. i < hosts) l.path

-- each name with the route to its host
abbrev pub destinations : List (List ℕ) → List (List ℕ) → List (Option Label) → List Destination
destinations names [] ls = []
destinations names (n ∷ ns) [] = []
destinations names (n ∷ ns) (l ∷ ls) = record { site = n; route = route_if names l } ∷ destinations names ns ls
