-- The net of the named links and networks has these links and no other.
use Rattle.std.proofs.Common.{◌≡◌, ◌↔◌, ℕ, zero, suc, ◌<◌, ◌≤◌, ◌⊎◌, List, [], ◌∷◌, ◌++◌, length, get_or, map, refl, sym, ap, ◌∙◌, subst, inl, inr, arith}
use Rattle.std.specs.Prelude.{replicate, All, Contains}
use Rattle.std.specs.List.Sorted.{IsStrictlySortedBy}
use Rattle.std.proofs.lemmas.Bool.{cases_eq, cases_lt}
use Rattle.std.proofs.lemmas.List.{length-set, length-replicate, get_or-set_same, get_or-set_other, set_past}
use Rattle.std.proofs.lemmas.List.Elements.{All-contains}
use Rattle.uu_names.proofs.Basics.{all_from}
use Rattle.uu_routes.specs.declared.link.FirstHop.{FirstHop}
use Rattle.uu_routes.specs.declared.link.SiteLink.{SiteLink}
use Rattle.uu_routes.specs.declared.link.SiteNetwork.{SiteNetwork}
use Rattle.uu_routes.specs.declared.net.Edge.{Edge}
use Rattle.uu_routes.specs.Links.{name_cmp, Leads}
use Rattle.uu_routes.specs.Internal.Nets.{edge_to, Joins, Goes, IsFit, IsFitNet, most_cost}
use Rattle.uu_routes.specs.Internal.Numbers.{number_of}
use Rattle.uu_routes.specs.Internal.Tables.{hop_edge, link_edge, site_edge, network_edges, added, linked, net_of}
use Rattle.uu_routes.proofs.Easing.{In}
use Rattle.uu_routes.proofs.Rounds.{contains_in, in_contains}
use Rattle.uu_routes.proofs.Naming.{name_at, AreNamed, IsNetOf, same_place}
use Rattle.uu_routes.proofs.Numbering.{number_is, rises}

in_map_back : {X Y : Type 0} → (f : X → Y) (xs : List X) (y : Y) → In (map f xs) y → (x : X) × (In xs x × (f x ≡ y))
in_map_back f [] y i = absurd i
in_map_back f (x ∷ xs) y (inl e) = (x, (inl refl, e))
in_map_back f (x ∷ xs) y (inr i) = let (z, (j, e)) = in_map_back f xs y i in (z, (inr j, e))

pub in_map : {X Y : Type 0} → (f : X → Y) (xs : List X) (x : X) → In xs x → In (map f xs) (f x)
in_map f [] x i = absurd i
in_map f (z ∷ xs) x (inl e) = inl (ap f e)
in_map f (z ∷ xs) x (inr i) = inr (in_map f xs x i)

pub in_left : {X : Type 0} → (xs ys : List X) (x : X) → In xs x → In (xs ++ ys) x
in_left [] ys x i = absurd i
in_left (z ∷ xs) ys x (inl e) = inl e
in_left (z ∷ xs) ys x (inr i) = inr (in_left xs ys x i)

pub in_right : {X : Type 0} → (xs ys : List X) (x : X) → In ys x → In (xs ++ ys) x
in_right [] ys x i = i
in_right (z ∷ xs) ys x i = inr (in_right xs ys x i)

in_either : {X : Type 0} → (xs ys : List X) (x : X) → In (xs ++ ys) x → In xs x ⊎ In ys x
in_either [] ys x i = inr i
in_either (z ∷ xs) ys x (inl e) = inl (inl e)
in_either (z ∷ xs) ys x (inr i) = elim (in_either xs ys x i) [ inl j ↦ inl (inr j) | inr j ↦ inr j ]

-- what is added to lists that have the same names
pub append_same : (xs ys zs : List (List ℕ)) → ((name : List ℕ) → Contains xs name ↔ Contains ys name) → (name : List ℕ) → Contains (xs ++ zs) name ↔ Contains (ys ++ zs) name
append_same xs ys zs same name = (go xs ys (λ other. (same other).0), go ys xs (λ other. (same other).1))
  where
    go : (ps qs : List (List ℕ)) → ((other : List ℕ) → Contains ps other → Contains qs other) → Contains (ps ++ zs) name → Contains (qs ++ zs) name
    go ps qs there c = elim (in_either ps zs name (contains_in (ps ++ zs) name c)) [
      | inl i ↦ in_contains (qs ++ zs) name (in_left qs zs name (contains_in qs name (there name (in_contains ps name i))))
      | inr i ↦ in_contains (qs ++ zs) name (in_right qs zs name i)
    ]

-- ---- tables

added_at : (t : List (List Edge)) (f : ℕ) (x : Edge) → f < length t → get_or (added t f x) f [] ≡ get_or t f [] ++ x ∷ []
added_at t f x h = get_or-set_same t f (get_or t f [] ++ x ∷ []) [] h

added_beside : (t : List (List Edge)) (f u : ℕ) (x : Edge) → (u ≡ f → ⊥) → get_or (added t f x) u [] ≡ get_or t u []
added_beside t f u x n = get_or-set_other t f u (get_or t f [] ++ x ∷ []) [] n

added_past : (t : List (List Edge)) (f : ℕ) (x : Edge) → length t ≤ f → added t f x ≡ t
added_past t f x h = set_past t f (get_or t f [] ++ x ∷ []) h

added_keeps : (t : List (List Edge)) (f u : ℕ) (x e : Edge) → In (get_or t u []) e → In (get_or (added t f x) u []) e
added_keeps t f u x e i = elim (cases_eq u f) [
  | inl s ↦ elim (cases_lt f (length t)) [
    | inl h ↦ subst (λ (n : ℕ). In (get_or (added t f x) n []) e) (sym s) (subst (λ (es : List Edge). In es e) (sym (added_at t f x h)) (in_left (get_or t f []) (x ∷ []) e (subst (λ (n : ℕ). In (get_or t n []) e) s i)))
    | inr h ↦ subst (λ (v : List (List Edge)). In (get_or v u []) e) (sym (added_past t f x h)) i
  ]
  | inr n ↦ subst (λ (es : List Edge). In es e) (sym (added_beside t f u x n)) i
]

added_from : (t : List (List Edge)) (f u : ℕ) (x e : Edge) → In (get_or (added t f x) u []) e → In (get_or t u []) e ⊎ ((f ≡ u) × (x ≡ e))
added_from t f u x e i = elim (cases_eq u f) [
  | inl s ↦ elim (cases_lt f (length t)) [
    | inl h ↦ elim (in_either (get_or t f []) (x ∷ []) e (subst (λ (es : List Edge). In es e) (added_at t f x h) (subst (λ (n : ℕ). In (get_or (added t f x) n []) e) s i))) [
      | inl j ↦ inl (subst (λ (n : ℕ). In (get_or t n []) e) (sym s) j)
      | inr j ↦ elim j [ inl k ↦ inr (sym s, k) | inr k ↦ absurd k ]
    ]
    | inr h ↦ inl (subst (λ (v : List (List Edge)). In (get_or v u []) e) (added_past t f x h) i)
  ]
  | inr n ↦ inl (subst (λ (es : List Edge). In es e) (added_beside t f u x n) i)
]

linked_keeps : (names : List (List ℕ)) (ls : List SiteLink) (t : List (List Edge)) (u : ℕ) (e : Edge) → In (get_or t u []) e → In (get_or (linked names ls t) u []) e
linked_keeps names [] t u e i = i
linked_keeps names (l ∷ ls) t u e i = linked_keeps names ls (added t (number_of names l.from) (link_edge names l)) u e (added_keeps t (number_of names l.from) u (link_edge names l) e i)

length_linked : (names : List (List ℕ)) (ls : List SiteLink) (t : List (List Edge)) → length (linked names ls t) ≡ length t
length_linked names [] t = refl
length_linked names (l ∷ ls) t = length_linked names ls (added t (number_of names l.from) (link_edge names l)) ∙ length-set t (number_of names l.from) (get_or t (number_of names l.from) [] ++ link_edge names l ∷ [])

linked_to : (names : List (List ℕ)) (ls : List SiteLink) (t : List (List Edge)) (l : SiteLink) → In ls l → number_of names l.from < length t → In (get_or (linked names ls t) (number_of names l.from) []) (link_edge names l)
linked_to names [] t l i h = absurd i
linked_to names (m ∷ ls) t l (inl e) h =
    subst (λ (x : SiteLink). In (get_or (linked names (m ∷ ls) t) (number_of names x.from) []) (link_edge names x)) e
    (linked_keeps names ls (added t (number_of names m.from) (link_edge names m)) (number_of names m.from) (link_edge names m)
    (subst (λ (es : List Edge). In es (link_edge names m)) (sym (added_at t (number_of names m.from) (link_edge names m) (omega (arith, ap (λ (x : SiteLink). number_of names x.from) e)))) (in_right (get_or t (number_of names m.from) []) (link_edge names m ∷ []) (link_edge names m) (inl refl))))
linked_to names (m ∷ ls) t l (inr i) h = linked_to names ls (added t (number_of names m.from) (link_edge names m)) l i (omega (arith, length-set t (number_of names m.from) (get_or t (number_of names m.from) [] ++ link_edge names m ∷ [])))

linked_from : (names : List (List ℕ)) (ls : List SiteLink) (t : List (List Edge)) (u : ℕ) (e : Edge) → In (get_or (linked names ls t) u []) e → In (get_or t u []) e ⊎ ((l : SiteLink) × (In ls l × ((number_of names l.from ≡ u) × (link_edge names l ≡ e))))
linked_from names [] t u e i = inl i
linked_from names (l ∷ ls) t u e i = elim (linked_from names ls (added t (number_of names l.from) (link_edge names l)) u e i) [
  | inl j ↦ elim (added_from t (number_of names l.from) u (link_edge names l) e j) [ inl k ↦ inl k | inr k ↦ inr (l, (inl refl, k)) ]
  | inr (m, (j, k)) ↦ inr (m, (inr j, k))
]

abbrev no_edges : List Edge
no_edges = []

abbrev blank_table : ℕ → List (List Edge)
blank_table n = replicate n []

blank_row : (n u : ℕ) → get_or (blank_table n) u [] ≡ []
blank_row zero u = refl
blank_row (suc n) zero = refl
blank_row (suc n) (suc u) = blank_row n u

none_at_first : (n u : ℕ) (e : Edge) → In (get_or (blank_table n) u []) e → ⊥
none_at_first n u e i = subst (λ (es : List Edge). In es e) (blank_row n u) i

-- ---- the net

-- each name is one of these
pub record AreMentioned (names : List (List ℕ)) (first : List FirstHop) (links : List SiteLink) (networks : List SiteNetwork) : Type 0 where
  pub order : IsStrictlySortedBy name_cmp names
  pub hops : (h : FirstHop) → In first h → Contains names h.to
  pub froms : (l : SiteLink) → In links l → Contains names l.from
  pub tos : (l : SiteLink) → In links l → Contains names l.to
  pub members : (n : SiteNetwork) → In networks n → (site : List ℕ) → In n.sites site → Contains names site

same_hop : (a b : FirstHop) → a.to ≡ b.to → a.cost ≡ b.cost → a ≡ b
same_hop a b e f = ap (λ (t : List ℕ). let r : FirstHop = record { to = t; cost = a.cost } in r) e ∙ ap (λ (c : ℕ). let r : FirstHop = record { to = b.to; cost = c } in r) f

same_link : (a b : SiteLink) → a.from ≡ b.from → a.to ≡ b.to → a.cost ≡ b.cost → a ≡ b
same_link a b d e f = ap (λ (t : List ℕ). let r : SiteLink = record { from = t; to = a.to; cost = a.cost } in r) d ∙ (ap (λ (t : List ℕ). let r : SiteLink = record { from = b.from; to = t; cost = a.cost } in r) e ∙ ap (λ (c : ℕ). let r : SiteLink = record { from = b.from; to = b.to; cost = c } in r) f)

pub size_of : (names : List (List ℕ)) (links : List SiteLink) → length (linked names links (replicate (length names) [])) ≡ length names
size_of names links = length_linked names links (replicate (length names) []) ∙ length-replicate (length names) []

-- a site of a network whose number this is
site_with : (names : List (List ℕ)) (n : SiteNetwork) (es : List Edge) (u : ℕ) → network_edges names n ≡ es → Contains (map edge_to es) u → (site : List ℕ) × (In n.sites site × (number_of names site ≡ u))
site_with names n es u same c =
    let (e, (i, at)) = in_map_back edge_to es u (contains_in (map edge_to es) u c) in
    let (site, (j, is)) = in_map_back (site_edge names n.cost) n.sites e (subst (λ (xs : List Edge). In xs e) (sym same) i) in
    (site, (j, ap edge_to is ∙ at))

pub is_net_of : (names : List (List ℕ)) (first : List FirstHop) (links : List SiteLink) (networks : List SiteNetwork) → AreMentioned names first links networks → IsNetOf (net_of names first links networks) names (Leads first links networks)
is_net_of names first links networks m = record {
  rise = rises names m.order;
  there = there;
  back = back;
}
  where
    there : (us : List ℕ) (v d : ℕ) → AreNamed names us → Goes (net_of names first links networks) us v d → (v < length names) × Leads first links networks (map (name_at names) us) (name_at names v) d
    there [] v d n g =
        let (h, (i, e)) = in_map_back (hop_edge names) first (record { to = v; cost = d }) (contains_in (map (hop_edge names) first) (record { to = v; cost = d }) g) in
        let (low, is) = number_is names h.to (m.hops h i) in
        let at : number_of names h.to ≡ v = ap (λ (x : Edge). x.to) e in
        let here : FirstHop = record { to = name_at names v; cost = d } in
        (omega arith, subst (λ (x : FirstHop). Contains first x) (same_hop h here (sym is ∙ ap (name_at names) at) (ap (λ (x : Edge). x.cost) e)) (in_contains first h i))
    there (u ∷ us) v d n (inr (es, (c, (has, k)))) =
        let edge : Edge = record { to = v; cost = d } in
        let (network, (i, same)) = in_map_back (network_edges names) networks es (contains_in (map (network_edges names) networks) es c) in
        let (from, (j, at_from)) = site_with names network es u same has in
        let (to, (l, e)) = in_map_back (site_edge names network.cost) network.sites edge (subst (λ (xs : List Edge). In xs edge) (sym same) (contains_in es edge k)) in
        let (low_from, is_from) = number_is names from (m.members network i from j) in
        let (low, is) = number_is names to (m.members network i to l) in
        let at : number_of names to ≡ v = ap edge_to e in (
          omega arith,
          inr (
            network,
            (
              in_contains networks network i,
              (
                subst (λ (site : List ℕ). Contains network.sites site) (sym is_from ∙ ap (name_at names) at_from) (in_contains network.sites from j),
                (subst (λ (site : List ℕ). Contains network.sites site) (sym is ∙ ap (name_at names) at) (in_contains network.sites to l), ap (λ (x : Edge). x.cost) e),
              ),
            ),
          ),
        )
    there (u ∷ us) v d n (inl g) =
        let edge : Edge = record { to = v; cost = d } in
        elim (linked_from names links (replicate (length names) []) u edge (contains_in (get_or (linked names links (replicate (length names) [])) u []) edge g)) [
          | inl j ↦ absurd (none_at_first (length names) u edge j)
          | inr (l, (i, (s, e))) ↦
              let (low, is) = number_is names l.to (m.tos l i) in
              let (low_from, is_from) = number_is names l.from (m.froms l i) in
              let at : number_of names l.to ≡ v = ap (λ (x : Edge). x.to) e in
              let here : SiteLink = record { from = name_at names u; to = name_at names v; cost = d } in
              (omega arith, inl (subst (λ (x : SiteLink). Contains links x) (same_link l here (sym is_from ∙ ap (name_at names) s) (sym is ∙ ap (name_at names) at) (ap (λ (x : Edge). x.cost) e)) (in_contains links l i)))
        ]

    back : (us : List ℕ) (b : List ℕ) (d : ℕ) → AreNamed names us → Leads first links networks (map (name_at names) us) b d → (v : ℕ) × ((v < length names) × (name_at names v ≡ b) × Goes (net_of names first links networks) us v d)
    back [] b d n g =
        let h : FirstHop = record { to = b; cost = d } in
        let i = contains_in first h g in
        let (low, is) = number_is names b (m.hops h i) in
        (number_of names b, (low, is, in_contains (map (hop_edge names) first) (hop_edge names h) (in_map (hop_edge names) first h i)))
    back (u ∷ us) b d n (inr (network, (c, (from, (to, cost))))) =
        let i = contains_in networks network c in
        let (low, is) = number_is names b (m.members network i b (contains_in network.sites b to)) in
        (number_of names b, (low, is, inr (joins u b d network i (contains_in network.sites (name_at names u) from) (contains_in network.sites b to) cost n.0)))
      where
        joins : (u : ℕ) (b : List ℕ) (d : ℕ) (network : SiteNetwork) → In networks network → In network.sites (name_at names u) → In network.sites b → network.cost ≡ d → u < length names → Joins (map (network_edges names) networks) u (record { to = number_of names b; cost = d })
        joins u b d network i from to cost h =
            let edges : List Edge = network_edges names network in
            let (low, is) = number_is names (name_at names u) (m.members network i (name_at names u) from) in
            let place : number_of names (name_at names u) ≡ u = same_place names (rises names m.order) (number_of names (name_at names u)) u low h is in
            let has : In (map edge_to edges) (number_of names (name_at names u)) = in_map edge_to edges (site_edge names network.cost (name_at names u)) (in_map (site_edge names network.cost) network.sites (name_at names u) from) in (
              edges,
              (
                in_contains (map (network_edges names) networks) edges (in_map (network_edges names) networks network i),
                (
                  in_contains (map edge_to edges) u (subst (λ (n : ℕ). In (map edge_to edges) n) place has),
                  in_contains edges (record { to = number_of names b; cost = d }) (subst (λ (n : ℕ). In edges (record { to = number_of names b; cost = n })) cost (in_map (site_edge names network.cost) network.sites b to)),
                ),
              ),
            )
    back (u ∷ us) b d n (inl g) =
        let l : SiteLink = record { from = name_at names u; to = b; cost = d } in
        let i = contains_in links l g in
        let (low, is) = number_is names b (m.tos l i) in
        let (low_from, is_from) = number_is names l.from (m.froms l i) in
        (number_of names b, (low, is, inl (back_by u l (link_edge names l) i low_from is_from n.0)))
      where
        back_by : (u : ℕ) (l : SiteLink) (e : Edge) → In links l → number_of names l.from < length names → name_at names (number_of names l.from) ≡ name_at names u → u < length names → Contains (get_or (linked names links (replicate (length names) [])) u []) (link_edge names l)
        back_by u l e i low is h =
            let t : List (List Edge) = replicate (length names) [] in
            let place : number_of names l.from ≡ u = same_place names (rises names m.order) (number_of names l.from) u low h is in
            in_contains (get_or (linked names links t) u []) (link_edge names l)
            (subst (λ (n : ℕ). In (get_or (linked names links t) n []) (link_edge names l)) place (linked_to names links t l i (omega (arith, length-replicate (length names) no_edges))))

-- ---- its limits

fit_hop : (names : List (List ℕ)) (first : List FirstHop) (links : List SiteLink) (networks : List SiteNetwork) → AreMentioned names first links networks → All (λ h. h.cost ≤ most_cost) first → (e : Edge) → In (map (hop_edge names) first) e → IsFit (length names) e
fit_hop names first links networks m low e i =
    let (h, (j, same)) = in_map_back (hop_edge names) first e i in
    let (within, is) = number_is names h.to (m.hops h j) in
    subst (λ (x : Edge). IsFit (length names) x) same (record { within = within; cost = All-contains (λ (x : FirstHop). x.cost ≤ most_cost) first h low (in_contains first h j) })

fit_out : (names : List (List ℕ)) (first : List FirstHop) (links : List SiteLink) (networks : List SiteNetwork) → AreMentioned names first links networks → All (λ l. l.cost ≤ most_cost) links → (u : ℕ) (e : Edge) → In (get_or (linked names links (blank_table (length names))) u []) e → IsFit (length names) e
fit_out names first links networks m low u e i = elim (linked_from names links (blank_table (length names)) u e i) [
  | inl j ↦ absurd (none_at_first (length names) u e j)
  | inr (l, (j, (s, same))) ↦
      let (within, is) = number_is names l.to (m.tos l j) in
      subst (λ (x : Edge). IsFit (length names) x) same (record { within = within; cost = All-contains (λ (x : SiteLink). x.cost ≤ most_cost) links l low (in_contains links l j) })
]

fit_network : (names : List (List ℕ)) (first : List FirstHop) (links : List SiteLink) (networks : List SiteNetwork) → AreMentioned names first links networks → All (λ n. n.cost ≤ most_cost) networks → (es : List Edge) (e : Edge) → In (map (network_edges names) networks) es → In es e → IsFit (length names) e
fit_network names first links networks m low es e i k =
    let (network, (j, same)) = in_map_back (network_edges names) networks es i in
    let (site, (l, is)) = in_map_back (site_edge names network.cost) network.sites e (subst (λ (xs : List Edge). In xs e) (sym same) k) in
    let (within, at) = number_is names site (m.members network j site l) in
    subst (λ (x : Edge). IsFit (length names) x) is (record { within = within; cost = All-contains (λ (n : SiteNetwork). n.cost ≤ most_cost) networks network low (in_contains networks network j) })

row_default : (t : List (List Edge)) (u : ℕ) (d : List Edge) → u < length t → get_or t u d ≡ get_or t u []
row_default [] u d h = absurd (omega arith)
row_default (x ∷ t) zero d h = refl
row_default (x ∷ t) (suc u) d h = row_default t u d (omega arith)

pub is_fit_net : (names : List (List ℕ)) (first : List FirstHop) (links : List SiteLink) (networks : List SiteNetwork) → AreMentioned names first links networks → All (λ h. h.cost ≤ most_cost) first → All (λ l. l.cost ≤ most_cost) links → All (λ n. n.cost ≤ most_cost) networks → IsFitNet (net_of names first links networks)
is_fit_net names first links networks m low_first low low_shared = record {
  first = subst (λ (n : ℕ). All (IsFit n) (map (hop_edge names) first)) (sym size) (all_from (IsFit (length names)) (map (hop_edge names) first) (λ e c. fit_hop names first links networks m low_first e (contains_in (map (hop_edge names) first) e c)));
  links = λ u d h. subst (λ (n : ℕ). All (IsFit n) (get_or (linked names links (blank_table (length names))) u d)) (sym size)
      (subst (λ (es : List Edge). All (IsFit (length names)) es) (sym (row_default (linked names links (blank_table (length names))) u d h))
      (all_from (IsFit (length names)) (get_or (linked names links (blank_table (length names))) u []) (λ e c. fit_out names first links networks m low u e (contains_in (get_or (linked names links (blank_table (length names))) u []) e c))));
  networks = subst (λ (n : ℕ). All (λ es. All (IsFit n) es) table) (sym size) (all_from (λ es. All (IsFit (length names)) es) table (λ es c. all_from (IsFit (length names)) es (λ e k. fit_network names first links networks m low_shared es e (contains_in table es c) (contains_in es e k))));
}
  where
    size : length (linked names links (blank_table (length names))) ≡ length names
    size = size_of names links

    table : List (List Edge)
    table = map (network_edges names) networks
