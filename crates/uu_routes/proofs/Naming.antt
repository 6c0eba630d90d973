-- Ways over numbers are ways over names.
use Rattle.std.proofs.Common.{◌≡◌, ℕ, ◌<◌, List, [], ◌∷◌, ◌++◌, length, map, reverse, Option, Some, None, refl, sym, ap, ◌∙◌, inl, inr, subst, arith}
use Rattle.std.specs.declared.cmp.Ordering.TheVariants.{Less, Equal, Greater}
use Rattle.std.specs.Ordering.{nat_cmp, ordering_then, ordering_reverse, is_gt}
use Rattle.std.specs.Cmp.Lexicographic.{slice_cmp}
use Rattle.std.proofs.lemmas.Bool.{cases_order}
use Rattle.std.proofs.lemmas.Bool.Decides.{nat_tests}
use Rattle.std.proofs.lemmas.Cmp.{nat_cmp_total, nat_list_cmp_total, tied_itself}
use Rattle.std.proofs.lemmas.List.{length-map, map-append, reverse-append}
use Rattle.uu_routes.specs.declared.net.Net.{Net}
use Rattle.uu_routes.specs.declared.label.Label.{Label}
use Rattle.uu_routes.specs.declared.link.Route.{Route}
use Rattle.uu_routes.specs.Way.{IsWay}
use Rattle.uu_routes.specs.Links.{name_cmp, most_hops, IsRouteTo, IsUpToRoute, IsRouteOrNone}
pub use Rattle.uu_routes.specs.Internal.Routing.{name_at, route_of, route_if}
use Rattle.uu_routes.specs.Internal.Nets.{Goes, IsWayTo, IsUpTo, IsFound}

abbrev pub Rise : List (List ℕ) → Type 0
Rise names = (i j : ℕ) → i < j → j < length names → name_cmp (name_at names i) (name_at names j) ≡ Less

-- each host has a name
abbrev pub AreNamed : List (List ℕ) → List ℕ → Type 0
AreNamed names [] = Unit {0}
AreNamed names (u ∷ us) = (u < length names) × AreNamed names us

-- the links of the net are those between names
pub record IsNetOf (net : Net) (names : List (List ℕ)) (leads : List (List ℕ) → List ℕ → ℕ → Type 0) : Type 0 where
  pub rise : Rise names
  pub there : (us : List ℕ) (v d : ℕ) → AreNamed names us → Goes net us v d → (v < length names) × leads (map (name_at names) us) (name_at names v) d
  pub back : (us : List ℕ) (b : List ℕ) (d : ℕ) → AreNamed names us → leads (map (name_at names) us) b d → (v : ℕ) × ((v < length names) × (name_at names v ≡ b) × Goes net us v d)

-- ---- the order of names

abbrev Leading : Type 1
Leading = List (List ℕ) → List ℕ → ℕ → Type 0

name_order : (names : List (List ℕ)) → Rise names → (i j : ℕ) → i < length names → j < length names → name_cmp (name_at names i) (name_at names j) ≡ nat_cmp i j
name_order names up i j h k = elim (cases_order i j) [
  | inl e ↦ ap (λ n. name_cmp (name_at names n) (name_at names j)) e ∙ (tied_itself nat_list_cmp_total (name_at names j) ∙ sym (ap (λ n. nat_cmp n j) e ∙ tied_itself nat_cmp_total j))
  | inr o ↦ elim o [
    | inl less ↦ up i j less k ∙ sym (below i j less)
    | inr more ↦ nat_list_cmp_total.antisymm (name_at names i) (name_at names j) ∙ (ap ordering_reverse (up j i more h) ∙ sym (above i j more))
  ]
]
  where
    below : (i j : ℕ) → i < j → nat_cmp i j ≡ Less
    below i j h = grind (arith, nat_tests)

    above : (i j : ℕ) → j < i → nat_cmp i j ≡ Greater
    above i j h = grind (arith, nat_tests)

lists_order : (names : List (List ℕ)) → Rise names → (p q : List ℕ) → AreNamed names p → AreNamed names q → slice_cmp name_cmp (map (name_at names) p) (map (name_at names) q) ≡ slice_cmp nat_cmp p q
lists_order names up [] [] h k = refl
lists_order names up [] (y ∷ q) h k = refl
lists_order names up (x ∷ p) [] h k = refl
lists_order names up (x ∷ p) (y ∷ q) h k = ap (λ o. ordering_then o (slice_cmp name_cmp (map (name_at names) p) (map (name_at names) q))) (name_order names up x y h.0 k.0) ∙ ap (ordering_then (nat_cmp x y)) (lists_order names up p q h.1 k.1)

pub same_place : (names : List (List ℕ)) → Rise names → (i j : ℕ) → i < length names → j < length names → name_at names i ≡ name_at names j → i ≡ j
same_place names up i j h k e =
    let f : nat_cmp i j ≡ Equal = sym (name_order names up i j h k) ∙ (ap (λ n. name_cmp n (name_at names j)) e ∙ tied_itself nat_list_cmp_total (name_at names j)) in
    tied i j f
  where
    tied : (i j : ℕ) → nat_cmp i j ≡ Equal → i ≡ j
    tied i j e = grind (arith, nat_tests)

-- ---- named paths

named_append : (names : List (List ℕ)) (p q : List ℕ) → AreNamed names p → AreNamed names q → AreNamed names (p ++ q)
named_append names [] q h k = k
named_append names (x ∷ p) q h k = (h.0, named_append names p q h.1 k)

-- ---- ways

way_there : (net : Net) (names : List (List ℕ)) (leads : List (List ℕ) → List ℕ → ℕ → Type 0) → IsNetOf net names leads → (us : List ℕ) (c : ℕ) → IsWay (Goes net) us c → AreNamed names us × IsWay leads (map (name_at names) us) c
way_there net names leads n [] c w = (tt, w)
way_there net names leads n (v ∷ us) c (b, (d, (g, w, e))) =
    let (named, way) = way_there net names leads n us b w in
    let (h, lead) = n.there us v d named g in
    ((h, named), (b, (d, (lead, way, e))))

way_back : (net : Net) (names : List (List ℕ)) (leads : List (List ℕ) → List ℕ → ℕ → Type 0) → IsNetOf net names leads → (bs : List (List ℕ)) (c : ℕ) → IsWay leads bs c → (us : List ℕ) × (AreNamed names us × (map (name_at names) us ≡ bs) × IsWay (Goes net) us c)
way_back net names leads n [] c w = ([], (tt, refl, w))
way_back net names leads n (b ∷ bs) c (a, (d, (g, w, e))) =
    let (us, (named, same, way)) = way_back net names leads n bs a w in
    let (v, (h, is, goes)) = n.back us b d named (subst (λ (xs : List (List ℕ)). leads xs b d) (sym same) g) in
    (v ∷ us, ((h, named), two (name_at names v) b (map (name_at names) us) bs is same, (a, (d, (goes, way, e)))))
  where
    two : (x y : List ℕ) (xs ys : List (List ℕ)) → x ≡ y → xs ≡ ys → (x ∷ xs) ≡ (y ∷ ys)
    two x y xs ys e f = cc

map_reverse : (names : List (List ℕ)) (us : List ℕ) → map (name_at names) (reverse us) ≡ reverse (map (name_at names) us)
map_reverse names [] = refl
map_reverse names (u ∷ us) =
    ap (map (name_at names)) (reverse-append (u ∷ []) us)
    ∙ (map-append (name_at names) (reverse us) (u ∷ [])
    ∙ (ap (λ xs. xs ++ name_at names u ∷ []) (map_reverse names us)
    ∙ sym (reverse-append (name_at names u ∷ []) (map (name_at names) us))))

named_reverse : (names : List (List ℕ)) (us : List ℕ) → AreNamed names us → AreNamed names (reverse us)
named_reverse names [] h = tt
named_reverse names (u ∷ us) h = subst (λ (xs : List ℕ). AreNamed names xs) (sym (reverse-append (u ∷ []) us)) (named_append names (reverse us) (u ∷ []) (named_reverse names us h.1) (h.0, tt))

-- ---- routes

-- a route by names is one by numbers
record ByNumber (net : Net) (names : List (List ℕ)) (to : List ℕ) (route : Route) : Type 0 where
  place : ℕ
  within : place < length names
  here : name_at names place ≡ to
  label : Label
  way : IsWayTo net most_hops place label
  named : AreNamed names label.path
  same : route ≡ route_of names label

first_two : (x y : List ℕ) (xs ys : List (List ℕ)) → (x ∷ xs) ≡ (y ∷ ys) → x ≡ y
first_two x y xs ys e = cc

rest_two : (x y : List ℕ) (xs ys : List (List ℕ)) → (x ∷ xs) ≡ (y ∷ ys) → xs ≡ ys
rest_two x y xs ys e = cc

same_route : (a b : Route) → a.cost ≡ b.cost → a.sites ≡ b.sites → a ≡ b
same_route a b e f = ap (λ (c : ℕ). let r : Route = record { cost = c; sites = a.sites } in r) e ∙ ap (λ (s : List (List ℕ)). let r : Route = record { cost = b.cost; sites = s } in r) f

by_number : (net : Net) (names : List (List ℕ)) (leads : List (List ℕ) → List ℕ → ℕ → Type 0) → IsNetOf net names leads → (to : List ℕ) (route : Route) → IsRouteTo leads to route → ByNumber net names to route
by_number net names leads n to route (before, (is, w, few)) = go (way_back net names leads n (to ∷ before) route.cost w)
  where
    go : (us : List ℕ) × (AreNamed names us × (map (name_at names) us ≡ to ∷ before) × IsWay (Goes net) us route.cost) → ByNumber net names to route
    go ([], (named, same, way)) = absurd cc
    go (v ∷ us, (named, same, way)) = record {
      place = v;
      within = named.0;
      here = first_two (name_at names v) to (map (name_at names) us) before same;
      label = record { cost = route.cost; path = reverse (v ∷ us) };
      way = (us, (refl, way, subst (λ (m : ℕ). m < most_hops) (ap length (sym (rest_two (name_at names v) to (map (name_at names) us) before same)) ∙ length-map us (name_at names)) few));
      named = named_reverse names (v ∷ us) named;
      same = same_route route (record { cost = route.cost; sites = map (name_at names) (reverse (v ∷ us)) }) refl (is ∙ (ap reverse (sym same) ∙ sym (map_reverse names (v ∷ us))));
    }

pub by_name : (net : Net) (names : List (List ℕ)) (leads : List (List ℕ) → List ℕ → ℕ → Type 0) → IsNetOf net names leads → (i : ℕ) (l : Label) → IsWayTo net most_hops i l → IsRouteTo leads (name_at names i) (route_of names l) × AreNamed names l.path
by_name net names leads n i l (us, (is, w, few)) =
    let (named, way) = way_there net names leads n (i ∷ us) l.cost w in (
      (map (name_at names) us, (ap (map (name_at names)) is ∙ map_reverse names (i ∷ us), way, subst (λ (m : ℕ). m < most_hops) (sym (length-map us (name_at names))) few)),
      subst (λ (p : List ℕ). AreNamed names p) (sym is) (named_reverse names (i ∷ us) named),
    )

routes_order : (names : List (List ℕ)) → Rise names → (a b : Label) → AreNamed names a.path → AreNamed names b.path → IsUpTo a b → IsUpToRoute (route_of names a) (route_of names b)
routes_order names up a b h k u =
    ap (λ n. is_gt (ordering_then (ordering_then (nat_cmp a.cost b.cost) (nat_cmp n (length (map (name_at names) b.path)))) (slice_cmp name_cmp (map (name_at names) a.path) (map (name_at names) b.path)))) (length-map a.path (name_at names))
    ∙ (ap (λ n. is_gt (ordering_then (ordering_then (nat_cmp a.cost b.cost) (nat_cmp (length a.path) n)) (slice_cmp name_cmp (map (name_at names) a.path) (map (name_at names) b.path)))) (length-map b.path (name_at names))
    ∙ (ap (λ o. is_gt (ordering_then (ordering_then (nat_cmp a.cost b.cost) (nat_cmp (length a.path) (length b.path))) o)) (lists_order names up a.path b.path h k) ∙ u))

-- what is found by number is found by name
pub found_by_name : (net : Net) (names : List (List ℕ)) (leads : List (List ℕ) → List ℕ → ℕ → Type 0) → IsNetOf net names leads → (i : ℕ) → i < length names → (o : Option Label) → IsFound net most_hops i o → IsRouteOrNone leads (name_at names i) (route_if names o)
found_by_name net names leads n i h None found = λ route w. none route (by_number net names leads n (name_at names i) route w)
  where
    none : (route : Route) → ByNumber net names (name_at names i) route → ⊥
    none route b = found b.label (subst (λ (j : ℕ). IsWayTo net most_hops j b.label) (same_place names n.rise b.place i b.within h b.here) b.way)
found_by_name net names leads n i h (Some l) found = record {
  way = (by_name net names leads n i l found.way).0;
  least = λ route w. up route (by_number net names leads n (name_at names i) route w);
}
  where
    up : (route : Route) → ByNumber net names (name_at names i) route → IsUpToRoute (route_of names l) route
    up route b =
        let way : IsWayTo net most_hops i b.label = subst (λ (j : ℕ). IsWayTo net most_hops j b.label) (same_place names n.rise b.place i b.within h b.here) b.way in
        subst (λ (r : Route). IsUpToRoute (route_of names l) r) (sym b.same) (routes_order names n.rise l b.label (by_name net names leads n i l found.way).1 b.named (found.least b.label way))

-- no way leads to another name
pub none_elsewhere : (net : Net) (names : List (List ℕ)) (leads : List (List ℕ) → List ℕ → ℕ → Type 0) → IsNetOf net names leads → (to : List ℕ) → ((i : ℕ) → i < length names → name_at names i ≡ to → ⊥) → (route : Route) → IsRouteTo leads to route → ⊥
none_elsewhere net names leads n to other route w = let b = by_number net names leads n to route w in other b.place b.within b.here
