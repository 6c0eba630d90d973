-- The routes of a site over its map, as they are printed (pathalias's output leaves out the site itself;
-- that a route begins with the name under which the system is defined is this project's choice).
use Rattle.std.specs.Prelude.{◌≡◌, ℕ, List, [], ◌∷◌, map, Option, Some, None, Result, Ok, Err, if◌then◌else◌}
use Rattle.std.specs.List.{filter_map}
use Rattle.std.specs.Str.{bytes_eq}
use Rattle.uu_map.specs.declared.entry.Entry.{Entry}
use Rattle.uu_routes.specs.declared.fault.RouteFault.{RouteFault}
use Rattle.uu_routes.specs.declared.link.Destination.{Destination}
use Rattle.uu_routes.specs.declared.link.Route.{Route}
use Rattle.uu_routes.specs.declared.site.Neighbour.{Neighbour}
use Rattle.uu_routes.specs.declared.site.SiteRoute.{SiteRoute}
use Rattle.uu_routes.specs.Map.{first_hops, host_for, map_links, map_networks}
use Rattle.uu_routes.specs.Routes.{AreRoutes, IsAnswer}

-- a system with the host that its name means
abbrev pub neighbour : List Entry → List ℕ → Neighbour
neighbour entries system = record { system = system; host = host_for entries system }

-- the first of these systems that is the host
abbrev pub system_for : List Neighbour → List ℕ → List ℕ
system_for [] host = host
system_for (n ∷ ns) host = if bytes_eq n.host host then n.system else system_for ns host

-- a way, its first host by the name of the system
abbrev pub by_system : List Neighbour → List (List ℕ) → List (List ℕ)
by_system ns [] = []
by_system ns (host ∷ more) = system_for ns host ∷ more

-- the route to a host, if there is one
abbrev pub route_to : List Neighbour → List ℕ → Option Route → Option SiteRoute
route_to ns host None = None
route_to ns host (Some route) = Some (record { host = host; cost = route.cost; sites = by_system ns route.sites })

-- and none to the site itself
abbrev pub site_route : List Neighbour → List ℕ → Destination → Option SiteRoute
site_route ns own d = if bytes_eq d.site own then None else route_to ns d.site d.route

-- The routes of the site of this name, which has these systems: to each host but itself to which a way
-- leads, in order of their names.
abbrev pub AreSiteRoutes : List Entry → List ℕ → List (List ℕ) → List SiteRoute → Type 0
AreSiteRoutes entries name systems list =
    (all : List Destination)
    × AreRoutes (first_hops entries (host_for entries name) systems) (map_links entries (host_for entries name)) (map_networks entries (host_for entries name)) all
    × (list ≡ filter_map (site_route (map (neighbour entries) systems) (host_for entries name)) all)

-- The routes; a fault if a limit is exceeded; or out of memory.
abbrev pub IsSiteAnswer : List Entry → List ℕ → List (List ℕ) → Result (List SiteRoute) RouteFault → Type 0
IsSiteAnswer entries name systems (Ok list) = AreSiteRoutes entries name systems list
IsSiteAnswer entries name systems (Err fault) =
    let answer : Result (List Destination) RouteFault = Err fault in
    IsAnswer (first_hops entries (host_for entries name) systems) (map_links entries (host_for entries name)) (map_networks entries (host_for entries name)) answer
