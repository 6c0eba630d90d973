-- The routes to all names.
use Rattle.std.proofs.Common.{◌≡◌, ◌↔◌, ℕ, zero, suc, ◌<◌, List, [], ◌∷◌, ◌++◌, length, get_or, map, flat_map, Option, Some, None, refl, sym, ap, ◌∙◌, subst, inl, inr, arith}
use Rattle.std.specs.Prelude.{All, Contains}
use Rattle.std.specs.List.Sorted.{IsStrictlySortedBy}
use Rattle.std.proofs.lemmas.List.Elements.{Contains-get_or, All-from_recursion}
use Rattle.std.specs.List.{AllByRecursion}
use Rattle.uu_routes.specs.declared.link.FirstHop.{FirstHop}
use Rattle.uu_routes.specs.declared.link.SiteLink.{SiteLink}
use Rattle.uu_routes.specs.declared.link.SiteNetwork.{SiteNetwork}
use Rattle.uu_routes.specs.declared.link.Destination.{Destination}
use Rattle.uu_routes.specs.declared.link.Route.{Route}
use Rattle.uu_routes.specs.declared.label.Label.{Label}
use Rattle.uu_routes.specs.Links.{name_cmp, most_hops, Leads, IsRouteOrNone}
use Rattle.uu_routes.specs.Routes.{mentioned, AreCheap, AreRoutes}
use Rattle.uu_routes.specs.Internal.Labels.{label_at}
use Rattle.uu_routes.specs.Internal.Nets.{IsFound, AreFound, IsFitNet}
use Rattle.uu_routes.specs.Internal.Routing.{name_at, route_if, IsNumbered, destinations}
use Rattle.uu_routes.specs.Internal.Tables.{net_of}
use Rattle.uu_routes.proofs.Easing.{In}
use Rattle.uu_routes.proofs.Rounds.{contains_in, in_contains}
use Rattle.uu_routes.proofs.Naming.{AreNamed, IsNetOf, by_name, found_by_name, none_elsewhere}
use Rattle.uu_routes.proofs.Linking.{AreMentioned, in_left, in_right, in_map, is_net_of, is_fit_net, size_of}

abbrev pub AreSame : List (List ℕ) → List FirstHop → List SiteLink → List SiteNetwork → Type 0
AreSame names first links networks = (name : List ℕ) → Contains names name ↔ Contains (mentioned first links networks) name

abbrev hop_names : List FirstHop → List (List ℕ)
hop_names first = map (λ (h : FirstHop). h.to) first

abbrev start_names : List FirstHop → List SiteLink → List (List ℕ)
start_names first links = hop_names first ++ map (λ (l : SiteLink). l.from) links

abbrev link_names : List FirstHop → List SiteLink → List (List ℕ)
link_names first links = start_names first links ++ map (λ (l : SiteLink). l.to) links

-- the names of the sites of a network are among those of all
in_sites : (networks : List SiteNetwork) (n : SiteNetwork) (site : List ℕ) → In networks n → In n.sites site → In (flat_map (λ (x : SiteNetwork). x.sites) networks) site
in_sites [] n site i j = absurd i
in_sites (m ∷ networks) n site (inl e) j = in_left m.sites (flat_map (λ (x : SiteNetwork). x.sites) networks) site (subst (λ (x : SiteNetwork). In x.sites site) (sym e) j)
in_sites (m ∷ networks) n site (inr i) j = in_right m.sites (flat_map (λ (x : SiteNetwork). x.sites) networks) site (in_sites networks n site i j)

pub all_mentioned : (names : List (List ℕ)) (first : List FirstHop) (links : List SiteLink) (networks : List SiteNetwork) → IsStrictlySortedBy name_cmp names → AreSame names first links networks → AreMentioned names first links networks
all_mentioned names first links networks order same = record {
  order = order;
  hops = λ h i. by_link h.to (in_left (start_names first links) (map (λ (x : SiteLink). x.to) links) h.to (in_left (hop_names first) (map (λ (x : SiteLink). x.from) links) h.to (in_map (λ (x : FirstHop). x.to) first h i)));
  froms = λ l i. by_link l.from (in_left (start_names first links) (map (λ (x : SiteLink). x.to) links) l.from (in_right (hop_names first) (map (λ (x : SiteLink). x.from) links) l.from (in_map (λ (x : SiteLink). x.from) links l i)));
  tos = λ l i. by_link l.to (in_right (start_names first links) (map (λ (x : SiteLink). x.to) links) l.to (in_map (λ (x : SiteLink). x.to) links l i));
  members = λ n i site j. there site (in_right (link_names first links) (flat_map (λ (x : SiteNetwork). x.sites) networks) site (in_sites networks n site i j));
}
  where
    there : (name : List ℕ) → In (mentioned first links networks) name → Contains names name
    there name i = (same name).1 (in_contains (mentioned first links networks) name i)

    by_link : (name : List ℕ) → In (link_names first links) name → Contains names name
    by_link name i = there name (in_left (link_names first links) (flat_map (λ (x : SiteNetwork). x.sites) networks) name i)

pub fit : (names : List (List ℕ)) (first : List FirstHop) (links : List SiteLink) (networks : List SiteNetwork) → IsStrictlySortedBy name_cmp names → AreSame names first links networks → AreCheap first links networks → IsFitNet (net_of names first links networks)
fit names first links networks order same cheap = is_fit_net names first links networks (all_mentioned names first links networks order same) cheap.hops cheap.others cheap.shared

pub sizes : (names : List (List ℕ)) (first : List FirstHop) (links : List SiteLink) (networks : List SiteNetwork) (ps : List (Option Label)) → AreFound (net_of names first links networks) most_hops ps → length ps ≡ length names
sizes names first links networks ps found = found.size ∙ size_of names links

-- ---- numbered labels

named_all : (names : List (List ℕ)) (us : List ℕ) → AreNamed names us → AllByRecursion (λ i. i < length names) us
named_all names [] h = tt
named_all names (u ∷ us) h = (h.0, named_all names us h.1)

place_default : (ps : List (Option Label)) (k : ℕ) (d : Option Label) → k < length ps → get_or ps k d ≡ label_at ps k
place_default [] k d h = absurd (omega arith)
place_default (p ∷ ps) zero d h = refl
place_default (p ∷ ps) (suc k) d h = place_default ps k d (omega arith)

pub numbered : (names : List (List ℕ)) (first : List FirstHop) (links : List SiteLink) (networks : List SiteNetwork) (ps : List (Option Label)) → IsStrictlySortedBy name_cmp names → AreSame names first links networks → AreFound (net_of names first links networks) most_hops ps → All (IsNumbered (length names)) ps
numbered names first links networks ps order same found k d h = subst (λ (o : Option Label). IsNumbered (length names) o) (sym (place_default ps k d h)) (go (label_at ps k) (found.each k))
  where
    go : (o : Option Label) → IsFound (net_of names first links networks) most_hops k o → IsNumbered (length names) o
    go None f = tt
    go (Some l) f = All-from_recursion (λ i. i < length names) l.path (named_all names l.path (by_name (net_of names first links networks) names (Leads first links networks) (is_net_of names first links networks (all_mentioned names first links networks order same)) k l f.way).1)

-- ---- destinations

sites_are : (all ns : List (List ℕ)) (ps : List (Option Label)) → length ps ≡ length ns → map (λ (d : Destination). d.site) (destinations all ns ps) ≡ ns
sites_are all [] ps e = refl
sites_are all (n ∷ ns) [] e = absurd (omega arith)
sites_are all (n ∷ ns) (p ∷ ps) e = ap (λ xs. n ∷ xs) (sites_are all ns ps (omega arith))

destination_at : (all ns : List (List ℕ)) (ps : List (Option Label)) (d : Destination) → In (destinations all ns ps) d → (k : ℕ) × ((k < length ns) × (d.site ≡ name_at ns k) × (d.route ≡ route_if all (label_at ps k)))
destination_at all [] ps d i = absurd i
destination_at all (n ∷ ns) [] d i = absurd i
destination_at all (n ∷ ns) (p ∷ ps) d (inl e) = (0, (omega arith, ap (λ (x : Destination). x.site) (sym e), ap (λ (x : Destination). x.route) (sym e)))
destination_at all (n ∷ ns) (p ∷ ps) d (inr i) = let (k, (h, s, r)) = destination_at all ns ps d i in (suc k, (omega arith, s, r))

pub are_routes : (names : List (List ℕ)) (first : List FirstHop) (links : List SiteLink) (networks : List SiteNetwork) (ps : List (Option Label)) → IsStrictlySortedBy name_cmp names → AreSame names first links networks → AreFound (net_of names first links networks) most_hops ps → AreRoutes first links networks (destinations names names ps)
are_routes names first links networks ps order same found = record {
  order = subst (λ (xs : List (List ℕ)). IsStrictlySortedBy name_cmp xs) (sym sites) order;
  named = λ name. (λ c. (same name).0 (subst (λ (xs : List (List ℕ)). Contains xs name) sites c), λ c. subst (λ (xs : List (List ℕ)). Contains xs name) (sym sites) ((same name).1 c));
  each = λ d c. each d (destination_at names names ps d (contains_in (destinations names names ps) d c));
  elsewhere = λ name no route w. none_elsewhere (net_of names first links networks) names (Leads first links networks) net name (λ i h e. no (subst (λ (xs : List (List ℕ)). Contains xs name) (sym sites) (subst (λ (n : List ℕ). Contains names n) e (Contains-get_or names i [] h)))) route w;
}
  where
    sites : map (λ (d : Destination). d.site) (destinations names names ps) ≡ names
    sites = sites_are names names ps (sizes names first links networks ps found)

    net : IsNetOf (net_of names first links networks) names (Leads first links networks)
    net = is_net_of names first links networks (all_mentioned names first links networks order same)

    each : (d : Destination) → (k : ℕ) × ((k < length names) × (d.site ≡ name_at names k) × (d.route ≡ route_if names (label_at ps k))) → IsRouteOrNone (Leads first links networks) d.site d.route
    each d (k, (h, s, r)) =
        subst (λ (o : Option Route). IsRouteOrNone (Leads first links networks) d.site o) (sym r)
        (subst (λ (n : List ℕ). IsRouteOrNone (Leads first links networks) n (route_if names (label_at ps k))) (sym s)
        (found_by_name (net_of names first links networks) names (Leads first links networks) net k h (label_at ps k) (found.each k)))
