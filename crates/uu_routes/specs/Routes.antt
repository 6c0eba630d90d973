-- What `routes` answers.
use Rattle.std.specs.Prelude.{◌↔◌, ℕ, ◌≤◌, ⊤, ◌^◌, List, map, flat_map, ◌++◌, Contains, All, Result, Ok, Err, None}
use Rattle.std.specs.List.Sorted.{IsStrictlySortedBy}
use Rattle.uu_routes.specs.declared.fault.RouteFault.{RouteFault}
use Rattle.uu_routes.specs.declared.fault.RouteFault.TheVariants.{TooCostly, Memory}
use Rattle.uu_routes.specs.declared.link.Destination.{Destination}
use Rattle.uu_routes.specs.declared.link.FirstHop.{FirstHop}
use Rattle.uu_routes.specs.declared.link.SiteLink.{SiteLink}
use Rattle.uu_routes.specs.declared.link.SiteNetwork.{SiteNetwork}
use Rattle.uu_routes.specs.Links.{name_cmp, Leads, IsRouteOrNone}

-- the names that first hops, links and networks mention, with repeats
abbrev pub mentioned : List FirstHop → List SiteLink → List SiteNetwork → List (List ℕ)
mentioned first links networks = ((map (λ h. h.to) first ++ map (λ l. l.from) links) ++ map (λ l. l.to) links) ++ flat_map (λ n. n.sites) networks

-- the most that a link may cost; no link of an entry that was read costs more
abbrev pub most_cost : ℕ
most_cost = 10 ^ 12

-- Each site that is named, once and in order, with the least route to it or none. No way leads to
-- another site.
pub record AreRoutes (first : List FirstHop) (links : List SiteLink) (networks : List SiteNetwork) (list : List Destination) : Type 0 where
  pub order : IsStrictlySortedBy name_cmp (map (λ d. d.site) list)
  pub named : (name : List ℕ) → Contains (map (λ d. d.site) list) name ↔ Contains (mentioned first links networks) name
  pub each : (d : Destination) → Contains list d → IsRouteOrNone (Leads first links networks) d.site d.route
  pub elsewhere : (name : List ℕ) → (Contains (map (λ d. d.site) list) name → ⊥) → IsRouteOrNone (Leads first links networks) name None

-- every link is within the limit
pub record AreCheap (first : List FirstHop) (links : List SiteLink) (networks : List SiteNetwork) : Type 0 where
  pub hops : All (λ h. h.cost ≤ most_cost) first
  pub others : All (λ l. l.cost ≤ most_cost) links
  pub shared : All (λ n. n.cost ≤ most_cost) networks

-- The routes; a fault if a limit is exceeded; or out of memory.
abbrev pub IsAnswer : List FirstHop → List SiteLink → List SiteNetwork → Result (List Destination) RouteFault → Type 0
IsAnswer first links networks (Ok list) = AreRoutes first links networks list
IsAnswer first links networks (Err TooCostly) = AreCheap first links networks → ⊥
IsAnswer first links networks (Err Memory) = ⊤
