-- The least route to a site over links between sites, and over networks of sites.
use Rattle.std.specs.Prelude.{◌≡◌, ℕ, ◌<◌, ◌⊎◌, List, [], ◌∷◌, length, reverse, Contains, false, Option, Some, None}
use Rattle.std.specs.declared.cmp.Ordering.{Ordering}
use Rattle.std.specs.Ordering.{nat_cmp, is_gt}
use Rattle.std.specs.Cmp.Lexicographic.{slice_cmp}
use Rattle.uu_routes.specs.declared.link.FirstHop.{FirstHop}
use Rattle.uu_routes.specs.declared.link.SiteLink.{SiteLink}
use Rattle.uu_routes.specs.declared.link.SiteNetwork.{SiteNetwork}
use Rattle.uu_routes.specs.declared.link.Route.{Route}
use Rattle.uu_routes.specs.Way.{IsWay, way_cmp}

-- names in order of their bytes
abbrev pub name_cmp : List ℕ → List ℕ → Ordering
name_cmp = slice_cmp nat_cmp

-- both sites are in a network whose links have this cost
abbrev pub AreJoined : List SiteNetwork → List ℕ → List ℕ → ℕ → Type 0
AreJoined networks from to cost =
    (network : SiteNetwork) × (Contains networks network × (Contains network.sites from × (Contains network.sites to × (network.cost ≡ cost))))

-- From a way, listed from its last site back, one goes on by a link of the last site or by a network that
-- has it, and at the start by a first hop. (That a network then leads from a site to itself makes no way
-- less.)
abbrev pub Leads : List FirstHop → List SiteLink → List SiteNetwork → List (List ℕ) → List ℕ → ℕ → Type 0
Leads first links networks [] to cost = Contains first (record { to = to; cost = cost })
Leads first links networks (from ∷ before) to cost = Contains links (record { from = from; to = to; cost = cost }) ⊎ AreJoined networks from to cost

-- A route has at most so many sites: an address of more has more than 255 bytes, and is none.
abbrev pub most_hops : ℕ
most_hops = 127

-- a way that ends at this site
abbrev pub IsRouteTo : (List (List ℕ) → List ℕ → ℕ → Type 0) → List ℕ → Route → Type 0
IsRouteTo leads to route =
    (before : List (List ℕ)) × ((route.sites ≡ reverse (to ∷ before)) × IsWay leads (to ∷ before) route.cost × (length before < most_hops))

-- routes in order of cost, number of sites and names
abbrev pub IsUpToRoute : Route → Route → Type 0
IsUpToRoute a b = is_gt (way_cmp name_cmp a.cost a.sites b.cost b.sites) ≡ false

-- a way to the site, and no other comes before it
pub record IsLeastRoute (leads : List (List ℕ) → List ℕ → ℕ → Type 0) (to : List ℕ) (route : Route) : Type 0 where
  pub way : IsRouteTo leads to route
  pub least : (other : Route) → IsRouteTo leads to other → IsUpToRoute route other

-- the least route to the site, or none if no way leads there
abbrev pub IsRouteOrNone : (List (List ℕ) → List ℕ → ℕ → Type 0) → List ℕ → Option Route → Type 0
IsRouteOrNone leads to (Some route) = IsLeastRoute leads to route
IsRouteOrNone leads to None = (route : Route) → IsRouteTo leads to route → ⊥
