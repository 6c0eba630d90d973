-- How the code makes a net of links.
use Rattle.std.specs.Prelude.{ℕ, List, [], ◌∷◌, ◌++◌, slice_set, get_or, map, replicate, length}
use Rattle.uu_routes.specs.declared.link.FirstHop.{FirstHop}
use Rattle.uu_routes.specs.declared.link.SiteLink.{SiteLink}
use Rattle.uu_routes.specs.declared.link.SiteNetwork.{SiteNetwork}
use Rattle.uu_routes.specs.declared.net.Edge.{Edge}
use Rattle.uu_routes.specs.declared.net.Net.{Net}
use Rattle.uu_routes.specs.Internal.Numbers.{number_of}

abbrev pub hop_edge : List (List ℕ) → FirstHop → Edge
hop_edge names h = record { to = number_of names h.to; cost = h.cost }

abbrev pub link_edge : List (List ℕ) → SiteLink → Edge
link_edge names l = record { to = number_of names l.to; cost = l.cost }

abbrev pub added : List (List Edge) → ℕ → Edge → List (List Edge)
added table from e = slice_set table from (get_or table from [] ++ e ∷ [])

abbrev pub linked : List (List ℕ) → List SiteLink → List (List Edge) → List (List Edge)
linked names [] table = table
linked names (l ∷ ls) table = linked names ls (added table (number_of names l.from) (link_edge names l))

abbrev pub site_edge : List (List ℕ) → ℕ → List ℕ → Edge
site_edge names cost site = record { to = number_of names site; cost = cost }

-- the links to the sites of a network
abbrev pub network_edges : List (List ℕ) → SiteNetwork → List Edge
network_edges names n = map (site_edge names n.cost) n.sites

abbrev pub net_of : List (List ℕ) → List FirstHop → List SiteLink → List SiteNetwork → Net
net_of names first links networks = record { first = map (hop_edge names) first; links = linked names links (replicate (length names) []); networks = map (network_edges names) networks }
