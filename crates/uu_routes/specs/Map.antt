-- What the entries of a map say about ways from a site (UUCP Mapping Project README, on links, dead
-- links, networks and aliases; what several entries say of one name, and the cost of a first hop, are
-- this project's choice).
use Rattle.std.specs.Prelude.{ℕ, Bool, ◌||◌, ◌&&◌, not, min, List, [], ◌∷◌, map, filter, flat_map, Option, Some, None, option_map, if◌then◌else◌}
use Rattle.std.specs.List.{list_any, filter_map, reduce}
use Rattle.std.specs.Option.{unwrap_or}
use Rattle.std.specs.Str.{bytes_eq}
use Rattle.uu_map.specs.declared.entry.Cost.{Cost}
use Rattle.uu_map.specs.declared.entry.Cost.TheVariants.{Value, Dead}
use Rattle.uu_map.specs.declared.entry.Entry.{Entry}
use Rattle.uu_map.specs.declared.entry.Link.{Link}
use Rattle.uu_map.specs.declared.entry.Network.{Network}
use Rattle.uu_routes.specs.declared.link.FirstHop.{FirstHop}
use Rattle.uu_routes.specs.declared.link.SiteLink.{SiteLink}
use Rattle.uu_routes.specs.declared.link.SiteNetwork.{SiteNetwork}

-- the entry is about a site of this name: it is its host or one of its aliases
abbrev pub claims : List ℕ → Entry → Bool
claims name entry = bytes_eq entry.host name || list_any (λ other. bytes_eq other name) entry.aliases

-- the hosts of the entries that claim a name
abbrev pub claimants : List Entry → List ℕ → List (List ℕ)
claimants entries name = map (λ entry. entry.host) (filter (claims name) entries)

-- the only one, or else the name itself
abbrev pub only_or : List ℕ → List (List ℕ) → List ℕ
only_or name [] = name
only_or name (host ∷ []) = host
only_or name (host ∷ other ∷ more) = name

-- The host that a name means: that of the only entry that claims it. A name that no entry claims, or
-- more than one, means itself.
abbrev pub host_for : List Entry → List ℕ → List ℕ
host_for entries name = only_or name (claimants entries name)

-- a dead link is none
abbrev pub price : Cost → Option ℕ
price (Value cost) = Some cost
price Dead = None

abbrev pub link_if : List Entry → List ℕ → Link → Option SiteLink
link_if entries from link = option_map (λ cost. record { from = from; to = host_for entries link.to; cost = cost }) (price link.cost)

-- the links of an entry
abbrev pub links_in : List Entry → Entry → List SiteLink
links_in entries entry = filter_map (link_if entries entry.host) entry.links

-- the links of all entries but the site's own, from which no way comes back
abbrev pub map_links : List Entry → List ℕ → List SiteLink
map_links entries own = flat_map (links_in entries) (filter (λ entry. not (bytes_eq entry.host own)) entries)

-- ---- networks

-- a network by its sites' hosts; a dead one is none
abbrev pub network_if : List Entry → Network → Option SiteNetwork
network_if entries network = option_map (λ cost. record { sites = map (host_for entries) network.sites; cost = cost }) (price network.cost)

-- the networks of an entry
abbrev pub networks_in : List Entry → Entry → List SiteNetwork
networks_in entries entry = filter_map (network_if entries) entry.networks

-- the networks of all entries
abbrev pub all_networks : List Entry → List SiteNetwork
all_networks entries = flat_map (networks_in entries) entries

-- what is left of a network without the site itself
abbrev pub without : List ℕ → SiteNetwork → SiteNetwork
without own network = record { sites = filter (λ site. not (bytes_eq site own)) network.sites; cost = network.cost }

-- the networks of all entries; no way comes back to the site itself
abbrev pub map_networks : List Entry → List ℕ → List SiteNetwork
map_networks entries own = map (without own) (all_networks entries)

-- ---- first hops

-- the links of the site's own entry, as they are listed: by cost
abbrev pub own_links : List Entry → List ℕ → List Link
own_links [] own = []
own_links (entry ∷ more) own = if bytes_eq entry.host own then entry.links else own_links more own

abbrev pub is_in : SiteNetwork → List ℕ → Bool
is_in network host = list_any (λ site. bytes_eq site host) network.sites

-- the least cost of the networks that have both hosts
abbrev pub shared_cost : List SiteNetwork → List ℕ → List ℕ → Option ℕ
shared_cost networks own host = reduce min (map (λ n. n.cost) (filter (λ n. is_in n own && is_in n host) networks))

abbrev pub usual_cost : ℕ
usual_cost = 4000

-- A first hop costs what the least of the site's own links to that host says, without one what the least
-- of their networks says, and without these 4000. A dead link makes no first hop.
abbrev pub first_cost : List Entry → List ℕ → List ℕ → List Link → Option ℕ
first_cost entries own host [] = Some (unwrap_or (shared_cost (all_networks entries) own host) usual_cost)
first_cost entries own host (link ∷ links) = if bytes_eq (host_for entries link.to) host then price link.cost else first_cost entries own host links

abbrev pub first_hop : List Entry → List ℕ → List Link → List ℕ → Option FirstHop
first_hop entries own links system = option_map (λ cost. record { to = host_for entries system; cost = cost }) (first_cost entries own (host_for entries system) links)

-- the first hops to the site's own systems
abbrev pub first_hops : List Entry → List ℕ → List (List ℕ) → List FirstHop
first_hops entries own systems = filter_map (first_hop entries own (own_links entries own)) systems
