-- How the code numbers names.
use Rattle.std.specs.Prelude.{ℕ, suc, List, [], ◌∷◌, if◌then◌else◌}
use Rattle.std.specs.Str.{bytes_eq}
use Rattle.uu_routes.specs.declared.link.FirstHop.{FirstHop}
use Rattle.uu_routes.specs.declared.link.SiteLink.{SiteLink}
use Rattle.uu_routes.specs.declared.link.SiteNetwork.{SiteNetwork}

-- the place of a name, or the length of the list
abbrev pub number_of : List (List ℕ) → List ℕ → ℕ
number_of [] name = 0
number_of (n ∷ ns) name = if bytes_eq n name then 0 else suc (number_of ns name)

abbrev pub hop_to : FirstHop → List ℕ
hop_to h = h.to

abbrev pub link_from : SiteLink → List ℕ
link_from l = l.from

abbrev pub link_to : SiteLink → List ℕ
link_to l = l.to

abbrev pub network_sites : SiteNetwork → List (List ℕ)
network_sites n = n.sites
