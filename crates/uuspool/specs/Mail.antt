-- By which way mail goes: to its system or, if the site doesn't have that, by the map. (`rmail` and
-- paths with `!`: RFC 976. That mail goes by the least route to its host: pathalias. That it isn't
-- sent by a route with which an address would be too long is this project's choice.)
use Rattle.std.specs.Prelude.{◌≡◌, ℕ, Bool, true, false, List, [], ◌∷◌, ◌++◌, map, filter, Option, Some, Result, Ok, Err, if◌then◌else◌}
use Rattle.std.specs.List.{AllZip, flat_map, list_all}
use Rattle.uu_names.specs.Name.{is_word}
use Rattle.uu_map.specs.Entry.{IsEntry}
use Rattle.uu_map.specs.declared.entry.Entry.{Entry}
use Rattle.uu_core.specs.State.{State}
use Rattle.uu_core.specs.Verdict.{verdict}
use Rattle.uu_core.specs.declared.command.Command.TheVariants.{Queue}
use Rattle.uu_core.specs.declared.job.Kind.{Kind}
use Rattle.uu_core.specs.declared.job.Kind.TheVariants as kind
use Rattle.uu_core.specs.declared.job.NewJob.{NewJob}
use Rattle.uu_core.specs.declared.refusal.Refusal.{Refusal}
use Rattle.uu_core.specs.declared.refusal.Refusal.TheVariants.{NoSystem}
use Rattle.uu_report.specs.Reports.{site_text}
use Rattle.uu_routes.specs.Map.{host_for}
use Rattle.uu_routes.specs.Site.{IsSiteAnswer}
use Rattle.uu_routes.specs.declared.fault.RouteFault.{RouteFault}
use Rattle.uu_routes.specs.declared.fault.RouteFault.TheVariants.{Memory, TooCostly}
use Rattle.uu_routes.specs.declared.site.SiteRoute.{SiteRoute}
use Rattle.uuspool.specs.Routes.{leads_to}

-- ---- mail by way of sites

-- an address with sites before it: `unc!phs!user`
abbrev pub address_by : List (List ℕ) → List ℕ → List ℕ
address_by sites address = flat_map site_text sites ++ address

abbrev pub kind_by : List (List ℕ) → Kind → Kind
kind_by sites (kind.Execute command addresses) = kind.Execute command (map (address_by sites) addresses)
kind_by sites other = other

-- The mail by way of these sites: it is for the first, with the others before each address. Without
-- any it is as it was.
abbrev pub mail_by : List (List ℕ) → NewJob → NewJob
mail_by [] mail = mail
mail_by (system ∷ sites) mail = record mail { system = system; kind = kind_by sites mail.kind }

-- each address is a word
abbrev pub has_words : Kind → Bool
has_words (kind.Execute command addresses) = list_all is_word addresses
has_words other = false

-- ---- the way of a route

-- the way of the first of these routes, if each address is still a word by it
abbrev pub way_by : List SiteRoute → NewJob → List (List ℕ)
way_by [] mail = []
way_by (route ∷ routes) mail = if has_words (mail_by route.sites mail).kind then route.sites else []

-- That of the only route to the host that the name of the mail's system means. If the routes exceed
-- their limit, there is none.
abbrev pub IsWayFound : List Entry → NewJob → Result (List SiteRoute) RouteFault → List (List ℕ) → Type 0
IsWayFound entries mail (Ok routes) way = way ≡ way_by (filter (leads_to (host_for entries mail.system)) routes) mail
IsWayFound entries mail (Err TooCostly) way = way ≡ []
IsWayFound entries mail (Err Memory) way = ⊥

-- the way of mail by the map, from the site of this name with these systems
pub record IsRoutedWay (entries : List Entry) (own : List ℕ) (systems : List (List ℕ)) (mail : NewJob) (way : List (List ℕ)) : Type 0 where
  pub found : Result (List SiteRoute) RouteFault
  pub routes : IsSiteAnswer entries own systems found
  pub way_is : IsWayFound entries mail found way

-- ---- the way of mail

-- the way of mail by the map of a state
abbrev pub IsWayByMap : List ℕ → State → NewJob → List (List ℕ) → Type 0
IsWayByMap own s mail way =
    (entries : List Entry) × AllZip IsEntry (map (λ kept. kept.bytes) s.entries) entries
    × IsRoutedWay entries own (map (λ row. row.def.name) s.systems) mail way

-- that is why a command is refused: the site doesn't have its system
abbrev pub is_for_no_system : Option Refusal → Bool
is_for_no_system (Some NoSystem) = true
is_for_no_system other = false

-- the way by the map, or none
abbrev pub IsWayIf : Bool → (List (List ℕ) → Type 0) → List (List ℕ) → Type 0
IsWayIf true IsByMap way = IsByMap way
IsWayIf false IsByMap way = way ≡ []

-- The way of mail in a state: by the map if, as it is, it would be refused because the site doesn't
-- have its system. Without a way it is queued, or refused, as it is.
abbrev pub IsWay : List ℕ → State → NewJob → List (List ℕ) → Type 0
IsWay own s mail way = IsWayIf (is_for_no_system (verdict s (Queue mail))) (IsWayByMap own s mail) way
