-- What is printed of the routes by the map, and the status. All of it is this project's choice.
use Rattle.std.specs.Prelude.{◌≡◌, ℕ, Bool, List, [], ◌∷◌, ◌++◌, Option, Some, None, Result, Ok, Err, codes, filter}
use Rattle.std.specs.List.{flat_map}
use Rattle.std.specs.Str.{bytes_eq}
use Rattle.uu_map.specs.declared.entry.Entry.{Entry}
use Rattle.uu_report.specs.Reports.{route_text}
use Rattle.uu_routes.specs.Map.{host_for}
use Rattle.uu_routes.specs.Site.{IsSiteAnswer}
use Rattle.uu_routes.specs.declared.fault.RouteFault.{RouteFault}
use Rattle.uu_routes.specs.declared.fault.RouteFault.TheVariants.{Memory, TooCostly}
use Rattle.uu_routes.specs.declared.site.SiteRoute.{SiteRoute}

abbrev pub no_route : List ℕ
no_route = codes "no route" ++ 10 ∷ []

abbrev pub too_costly : List ℕ
too_costly = codes "too costly" ++ 10 ∷ []

abbrev pub leads_to : List ℕ → SiteRoute → Bool
leads_to host route = bytes_eq route.host host

-- the line of the only route, or that there is none
abbrev pub IsRouteShown : Bool → List SiteRoute → List ℕ → ℕ → Type 0
IsRouteShown costs [] output status = (output ≡ no_route) × (status ≡ 1)
IsRouteShown costs (route ∷ routes) output status = (output ≡ flat_map (route_text costs) (route ∷ routes)) × (status ≡ 0)

-- all routes, or that to the host which a name means
abbrev pub AreRoutesShown : List Entry → Option (List ℕ) → Bool → List SiteRoute → List ℕ → ℕ → Type 0
AreRoutesShown entries None costs routes output status = (output ≡ flat_map (route_text costs) routes) × (status ≡ 0)
AreRoutesShown entries (Some name) costs routes output status = IsRouteShown costs (filter (leads_to (host_for entries name)) routes) output status

-- the routes, or the limit that they exceed
abbrev pub IsRoutingShown : List Entry → Option (List ℕ) → Bool → Result (List SiteRoute) RouteFault → List ℕ → ℕ → Type 0
IsRoutingShown entries name costs (Ok routes) output status = AreRoutesShown entries name costs routes output status
IsRoutingShown entries name costs (Err TooCostly) output status = (output ≡ too_costly) × (status ≡ 1)
IsRoutingShown entries name costs (Err Memory) output status = ⊥

-- what the routes of a site of this name with these systems print
pub record IsRouted (entries : List Entry) (own : List ℕ) (systems : List (List ℕ)) (name : Option (List ℕ)) (costs : Bool) (output : List ℕ) (status : ℕ) : Type 0 where
  pub found : Result (List SiteRoute) RouteFault
  pub routes : IsSiteAnswer entries own systems found
  pub shown : IsRoutingShown entries name costs found output status
