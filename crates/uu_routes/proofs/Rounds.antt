-- After each round, the least ways of one host more are known.
use Rattle.std.proofs.Common.{◌≡◌, ℕ, zero, suc, ◌+◌, ◌*◌, ◌<◌, ◌≤◌, ◌==◌, ◌⊎◌, Bool, true, false, cond, List, [], ◌∷◌, ◌++◌, length, get_or, drop, map, reverse, Option, Some, None, refl, sym, ap, ◌∙◌, inl, inr, subst, arith, All, replicate}
use Rattle.std.specs.Prelude.{Contains, slice_set}
use Rattle.std.specs.List.{AllByRecursion}
use Rattle.std.proofs.lemmas.Bool.{cases_eq, cases_lt}
use Rattle.std.proofs.lemmas.Bool.Decides.{nat_tests}
use Rattle.std.proofs.lemmas.List.{length-map, length-replicate, length-reverse, length-set, get_or-map, get_or-replicate, reverse-append}
use Rattle.std.proofs.lemmas.List.Elements.{All-contains, recursion_from_All}
use Rattle.uu_routes.specs.declared.net.Edge.{Edge}
use Rattle.uu_routes.specs.declared.net.Net.{Net}
use Rattle.uu_routes.specs.declared.label.Label.{Label}
use Rattle.uu_routes.specs.Way.{IsWay}
use Rattle.uu_routes.specs.Links.{most_hops}
use Rattle.uu_routes.specs.Internal.Labels.{start, label_at, improved, onward, relaxed, followed, lesser, least_among, rounded, joined, way_of}
use Rattle.uu_routes.specs.Internal.Nets.{edge_to, Joins, Follows, Goes, IsWayTo, IsFound, AreFound, IsFit, IsFitNet, AreSound, AreSoundNetworks, most_cost}
use Rattle.uu_routes.proofs.Order.{onward_up_to}
use Rattle.uu_routes.proofs.Easing.{Reaches, reaches_more, In, IsEased, eased, better_by, some_same}

pub contains_in : {X : Type 0} → (xs : List X) (x : X) → Contains xs x → In xs x
contains_in {X = X} xs x (k, h, e) = go xs k h e
  where
    go : (xs : List X) (k : ℕ) → k < length xs → get_or xs k x ≡ x → In xs x
    go [] k h e = absurd (omega arith)
    go (y ∷ ys) zero h e = inl e
    go (y ∷ ys) (suc k) h e = inr (go ys k (omega arith) e)

pub in_contains : {X : Type 0} → (xs : List X) (x : X) → In xs x → Contains xs x
in_contains [] x i = absurd i
in_contains (y ∷ ys) x (inl e) = (0, omega arith, e)
in_contains (y ∷ ys) x (inr i) = let (k, h, e) = in_contains ys x i in (suc k, omega arith, e)

same_label : (a b : Label) → a.cost ≡ b.cost → a.path ≡ b.path → a ≡ b
same_label a b e f = ap (λ (c : ℕ). let l : Label = record { cost = c; path = a.path } in l) e ∙ ap (λ (p : List ℕ). let l : Label = record { cost = b.cost; path = p } in l) f

-- ---- the links of one host

record IsFollowed (o : Option Label) (es : List Edge) (old new : List (Option Label)) : Type 0 where
  size : length new ≡ length old
  from : (i : ℕ) (l : Label) → label_at new i ≡ Some l → (label_at old i ≡ Some l) ⊎ ((base : Label) × ((e : Edge) × ((o ≡ Some base) × (In es e × ((e.to ≡ i) × (l ≡ onward base e))))))
  lower : (i : ℕ) (m : Label) → Reaches (label_at old i) m → Reaches (label_at new i) m
  met : (base : Label) (e : Edge) → o ≡ Some base → In es e → Reaches (label_at new e.to) (onward base e)

followed_is : (o : Option Label) (es : List Edge) (ls : List (Option Label)) → AllByRecursion (λ e. e.to < length ls) es → IsFollowed o es ls (followed o es ls)
followed_is None es ls h = record { size = refl; from = λ i l f. inl f; lower = λ i m r. r; met = λ base e f i. absurd cc }
followed_is (Some base) es ls h = let it = eased base es ls h in record {
  size = it.size;
  from = λ i l f. elim (it.from i l f) [ inl g ↦ inl g | inr (e, (j, (to, is))) ↦ inr (base, (e, (refl, (j, (to, is))))) ];
  lower = it.lower;
  met = λ other e f i. subst (λ (b : Label). Reaches (label_at (relaxed base es ls) e.to) (onward b e)) (some_same base other f) (it.met e i);
}

-- ---- a round

-- the known ways go on by these links
pub record IsRounded (next : ℕ → Edge → Type 0) (known old new : List (Option Label)) : Type 0 where
  pub size : length new ≡ length old
  pub from : (i : ℕ) (l : Label) → label_at new i ≡ Some l → (label_at old i ≡ Some l) ⊎ ((u : ℕ) × ((base : Label) × ((e : Edge) × ((label_at known u ≡ Some base) × (next u e × ((e.to ≡ i) × (l ≡ onward base e)))))))
  pub lower : (i : ℕ) (m : Label) → Reaches (label_at old i) m → Reaches (label_at new i) m
  pub met : (u : ℕ) (base : Label) (e : Edge) → label_at known u ≡ Some base → next u e → Reaches (label_at new e.to) (onward base e)

abbrev ByLinks : List (List Edge) → ℕ → Edge → Type 0
ByLinks links u e = In (get_or links u []) e

rounded_is : (links : List (List Edge)) (known ls : List (Option Label)) → AllByRecursion (λ es. AllByRecursion (λ e. e.to < length ls) es) links → IsRounded (ByLinks links) known ls (rounded links known ls)
rounded_is [] known ls h = record { size = refl; from = λ i l f. inl f; lower = λ i m r. r; met = λ u base e f i. absurd i }
rounded_is (es ∷ links) [] ls h = record { size = refl; from = λ i l f. inl f; lower = λ i m r. r; met = λ u base e f i. absurd cc }
rounded_is (es ∷ links) (o ∷ known) ls h =
    let one = followed_is o es ls h.0 in
    let rest = rounded_is links known (followed o es ls) (subst (λ (n : ℕ). AllByRecursion (λ es. AllByRecursion (λ (e : Edge). e.to < n) es) links) (sym one.size) h.1) in
    record {
      size = rest.size ∙ one.size;
      from = λ i l f. elim (rest.from i l f) [
        | inl g ↦ elim (one.from i l g) [ inl k ↦ inl k | inr (base, (e, (is, r))) ↦ inr (0, (base, (e, (is, r)))) ]
        | inr (u, r) ↦ inr (suc u, r)
      ];
      lower = λ i m r. rest.lower i m (one.lower i m r);
      met = λ u. elim u as (λ u. (base : Label) (e : Edge) → label_at (o ∷ known) u ≡ Some base → In (get_or (es ∷ links) u []) e → Reaches (label_at (rounded links known (followed o es ls)) e.to) (onward base e)) [
        | zero ↦ λ base e f i. rest.lower e.to (onward base e) (one.met base e f i)
        | suc v ↦ λ base e f i. rest.met v base e f i
      ];
    }

-- ---- the networks of a round

record IsLesser (o least new : Option Label) : Type 0 where
  from : (l : Label) → new ≡ Some l → (least ≡ Some l) ⊎ (o ≡ Some l)
  lower : (m : Label) → Reaches least m → Reaches new m
  met : (l : Label) → o ≡ Some l → Reaches new l

lesser_is : (o least : Option Label) → IsLesser o least (lesser o least)
lesser_is None least = record { from = λ l f. inl f; lower = λ m r. r; met = λ l f. absurd cc }
lesser_is (Some w) least = let b = better_by w least in record {
  from = λ l f. elim (b.from l f) [ inl g ↦ inl g | inr g ↦ inr (ap Some (sym g)) ];
  lower = b.lower;
  met = λ l f. subst (λ (x : Label). Reaches (improved w least) x) (some_same w l f) b.met;
}

record IsLeastAmong (ways : List (Option Label)) (es : List Edge) (least new : Option Label) : Type 0 where
  from : (l : Label) → new ≡ Some l → (least ≡ Some l) ⊎ ((u : ℕ) × (In (map edge_to es) u × (label_at ways u ≡ Some l)))
  lower : (m : Label) → Reaches least m → Reaches new m
  met : (u : ℕ) (l : Label) → In (map edge_to es) u → label_at ways u ≡ Some l → Reaches new l

least_is : (ways : List (Option Label)) (es : List Edge) (least : Option Label) → IsLeastAmong ways es least (least_among ways es least)
least_is ways [] least = record { from = λ l f. inl f; lower = λ m r. r; met = λ u l i. absurd i }
least_is ways (e ∷ es) least =
    let one = lesser_is (label_at ways e.to) least in
    let rest = least_is ways es (lesser (label_at ways e.to) least) in
    record {
      from = λ l f. elim (rest.from l f) [
        | inl g ↦ elim (one.from l g) [ inl k ↦ inl k | inr at ↦ inr (e.to, (inl refl, at)) ]
        | inr (u, (i, at)) ↦ inr (u, (inr i, at))
      ];
      lower = λ m r. rest.lower m (one.lower m r);
      met = λ u l i at. elim i [
        | inl s ↦ rest.lower l (one.met l (ap (λ n. label_at ways n) s ∙ at))
        | inr j ↦ rest.met u l j at
      ];
    }

-- one of the networks has the host and the link
abbrev ByNetworks : List (List Edge) → ℕ → Edge → Type 0
ByNetworks [] u e = ⊥
ByNetworks (es ∷ networks) u e = (In (map edge_to es) u × In es e) ⊎ ByNetworks networks u e

-- what goes on from the least of the ways is no more than what goes on from another
from_least : (o : Option Label) (es : List Edge) (ls new : List (Option Label)) (base : Label) (e : Edge) → IsFollowed o es ls new → Reaches o base → In es e → Reaches (label_at new e.to) (onward base e)
from_least None es ls new base e it r j = absurd r
from_least (Some w) es ls new base e it r j = reaches_more (label_at new e.to) (onward w e) (onward base e) (it.met w e refl j) (onward_up_to w base e r)

joined_is : (networks : List (List Edge)) (ways ls : List (Option Label)) → AllByRecursion (λ es. AllByRecursion (λ e. e.to < length ls) es) networks → IsRounded (ByNetworks networks) ways ls (joined networks ways ls)
joined_is [] ways ls h = record { size = refl; from = λ i l f. inl f; lower = λ i m r. r; met = λ u base e f i. absurd i }
joined_is (es ∷ networks) ways ls h =
    let o = least_among ways es None in
    let least = least_is ways es None in
    let one = followed_is o es ls h.0 in
    let rest = joined_is networks ways (followed o es ls) (subst (λ (n : ℕ). AllByRecursion (λ es. AllByRecursion (λ (e : Edge). e.to < n) es) networks) (sym one.size) h.1) in
    record {
      size = rest.size ∙ one.size;
      from = λ i l f. elim (rest.from i l f) [
        | inl g ↦ elim (one.from i l g) [
          | inl k ↦ inl k
          | inr (base, (e, (is, (j, r)))) ↦ elim (least.from base is) [ inl none ↦ absurd cc | inr (u, (m, at)) ↦ inr (u, (base, (e, (at, (inl (m, j), r))))) ]
        ]
        | inr (u, (base, (e, (at, (n, r))))) ↦ inr (u, (base, (e, (at, (inr n, r)))))
      ];
      lower = λ i m r. rest.lower i m (one.lower i m r);
      met = λ u base e at n. elim n [
        | inl (m, j) ↦ rest.lower e.to (onward base e) (from_least o es ls (followed o es ls) base e one (least.met u base m at) j)
        | inr k ↦ rest.met u base e at k
      ];
    }

both_rounds : (A B : ℕ → Edge → Type 0) (known old mid new : List (Option Label)) → IsRounded A known old mid → IsRounded B known mid new → IsRounded (λ u e. A u e ⊎ B u e) known old new
both_rounds A B known old mid new p q = record {
  size = q.size ∙ p.size;
  from = λ i l f. elim (q.from i l f) [
    | inl g ↦ elim (p.from i l g) [ inl k ↦ inl k | inr (u, (base, (e, (at, (n, r))))) ↦ inr (u, (base, (e, (at, (inl n, r))))) ]
    | inr (u, (base, (e, (at, (n, r))))) ↦ inr (u, (base, (e, (at, (inr n, r)))))
  ];
  lower = λ i m r. q.lower i m (p.lower i m r);
  met = λ u base e at n. elim n [
    | inl a ↦ q.lower e.to (onward base e) (p.met u base e at a)
    | inr b ↦ q.met u base e at b
  ];
}

-- ---- the ways of so many hosts

way_at : (n : ℕ) (known : List (Option Label)) (u : ℕ) → label_at (map (way_of n) known) u ≡ way_of n (label_at known u)
way_at n [] u = refl
way_at n (o ∷ known) zero = refl
way_at n (o ∷ known) (suc u) = way_at n known u

way_if : (n : ℕ) (l : Label) → length l.path ≡ n → way_of n (Some l) ≡ Some l
way_if n l e = let same : (length l.path == n) ≡ true = grind (arith, nat_tests, e) in ap (λ t. cond t (Some l) None) same

none_if : (n : ℕ) (l : Label) → (length l.path ≡ n → ⊥) → way_of n (Some l) ≡ None
none_if n l other = go (length l.path == n) refl
  where
    go : (t : Bool) → (length l.path == n) ≡ t → cond t (Some l) None ≡ None
    go true e = absurd (other (let same : length l.path ≡ n = grind (arith, nat_tests, e) in same))
    go false e = refl

way_known : (n : ℕ) (o : Option Label) (base : Label) → way_of n o ≡ Some base → o ≡ Some base
way_known n None base e = e
way_known n (Some l) base e = go (length l.path == n) e
  where
    go : (t : Bool) → cond t (Some l) None ≡ Some base → Some l ≡ Some base
    go true e = e
    go false e = absurd cc

known_from : (n : ℕ) (known : List (Option Label)) (u : ℕ) (base : Label) → label_at (map (way_of n) known) u ≡ Some base → label_at known u ≡ Some base
known_from n known u base at = way_known n (label_at known u) base (sym (way_at n known u) ∙ at)

none_follow : (links : List (List Edge)) (ways ls : List (Option Label)) → AllByRecursion (λ way. way ≡ None) ways → rounded links ways ls ≡ ls
none_follow [] ways ls h = refl
none_follow (es ∷ links) [] ls h = refl
none_follow (es ∷ links) (o ∷ ways) ls h = ap (λ (p : Option Label). rounded links ways (followed p es ls)) h.0 ∙ none_follow links ways ls h.1

none_at : (ways : List (Option Label)) (u : ℕ) → AllByRecursion (λ way. way ≡ None) ways → label_at ways u ≡ None
none_at [] u h = refl
none_at (o ∷ ways) zero h = h.0
none_at (o ∷ ways) (suc u) h = none_at ways u h.1

none_among : (ways : List (Option Label)) (es : List Edge) → AllByRecursion (λ way. way ≡ None) ways → least_among ways es None ≡ None
none_among ways [] h = refl
none_among ways (e ∷ es) h = ap (λ (o : Option Label). least_among ways es (lesser o None)) (none_at ways e.to h) ∙ none_among ways es h

none_join : (networks : List (List Edge)) (ways ls : List (Option Label)) → AllByRecursion (λ way. way ≡ None) ways → joined networks ways ls ≡ ls
none_join [] ways ls h = refl
none_join (es ∷ networks) ways ls h = ap (λ (o : Option Label). joined networks ways (followed o es ls)) (none_among ways es h) ∙ none_join networks ways ls h

-- ---- ways

module _ (net : Net) where
  found_from : (most i : ℕ) (o : Option Label) → ((l : Label) → o ≡ Some l → IsWayTo net most i l) → ((m : Label) → IsWayTo net most i m → Reaches o m) → IsFound net most i o
  found_from most i None sound reached = reached
  found_from most i (Some l) sound reached = record { way = sound l refl; least = reached }

  sound_of : (most i : ℕ) (o : Option Label) (l : Label) → IsFound net most i o → o ≡ Some l → IsWayTo net most i l
  sound_of most i None l f e = absurd cc
  sound_of most i (Some k) l f e = subst (λ (x : Label). IsWayTo net most i x) (some_same k l e) f.way

  reached_of : (most i : ℕ) (o : Option Label) → IsFound net most i o → (m : Label) → IsWayTo net most i m → Reaches o m
  reached_of most i None f m w = f m w
  reached_of most i (Some l) f m w = f.least m w

  wider : (most i : ℕ) (l : Label) → IsWayTo net most i l → IsWayTo net (suc most) i l
  wider most i l (us, (path, way, h)) = (us, (path, way, omega arith))

  -- ---- the first hops

  at_blank : (n i : ℕ) → label_at (replicate n None) i ≡ None
  at_blank n i = elim (cases_lt i n) [ inl h ↦ get_or-replicate n i None None h | inr h ↦ past n i h ]
    where
      past : (n i : ℕ) → n ≤ i → label_at (replicate n None) i ≡ None
      past zero i h = refl
      past (suc n) zero h = absurd (omega arith)
      past (suc n) (suc i) h = past n i (omega arith)

  pub found_at_start : (ls : List (Option Label)) → IsEased start net.first (replicate (length net.links) None) ls → AreFound net 1 ls
  found_at_start ls it = record {
    size = it.size ∙ length-replicate (length net.links) None;
    each = λ i. found_from 1 i (label_at ls i) (sound i) (reached i);
  }
    where
      one_hop : (i : ℕ) (l : Label) (x : Edge) → In net.first x → x.to ≡ i → l ≡ onward start x → IsWayTo net 1 i l
      one_hop i l x j to is = subst (λ (n : ℕ). IsWayTo net 1 n l) to (subst (λ (m : Label). IsWayTo net 1 x.to m) (sym is) ([], (refl, (0, (x.cost, (in_contains net.first x j, refl, refl))), omega arith)))

      sound : (i : ℕ) (l : Label) → label_at ls i ≡ Some l → IsWayTo net 1 i l
      sound i l e = elim (it.from i l e) [
        | inl f ↦ let g = at_blank (length net.links) i in absurd cc
        | inr (x, (j, (to, is))) ↦ one_hop i l x j to is
      ]

      reached : (i : ℕ) (m : Label) → IsWayTo net 1 i m → Reaches (label_at ls i) m
      reached i m ([], (path, (b, (d, (goes, none, sum))), h)) =
          let e : Edge = record { to = i; cost = d } in
          let same : onward start e ≡ m = same_label (onward start e) m (omega arith) (sym path) in
          subst (λ (x : Label). Reaches (label_at ls i) x) same (it.met e (contains_in net.first e goes))
      reached i m (u ∷ us, (path, way, h)) = absurd (omega arith)

  -- ---- one round more

  abbrev Next : ℕ → Edge → Type 0
  Next u e = ByLinks net.links u e ⊎ ByNetworks net.networks u e

  follows_next : (u : ℕ) (us : List ℕ) (e : Edge) → Next u e → Follows net (u ∷ us) e
  follows_next u us e n = elim n [ inl i ↦ inl (in_contains (get_or net.links u []) e i) | inr b ↦ inr (go net.networks b) ]
    where
      go : (networks : List (List Edge)) → ByNetworks networks u e → Joins networks u e
      go [] b = absurd b
      go (es ∷ networks) (inl (i, j)) = (es, (in_contains (es ∷ networks) es (inl refl), (in_contains (map edge_to es) u i, in_contains es e j)))
      go (es ∷ networks) (inr b) = let (fs, (c, r)) = go networks b in (fs, (in_contains (es ∷ networks) fs (inr (contains_in networks fs c)), r))

  next_follows : (u : ℕ) (us : List ℕ) (e : Edge) → Follows net (u ∷ us) e → Next u e
  next_follows u us e f = elim f [
    | inl c ↦ inl (contains_in (get_or net.links u []) e c)
    | inr (es, (c, (d, k))) ↦ inr (go net.networks es (contains_in net.networks es c) (contains_in (map edge_to es) u d) (contains_in es e k))
  ]
    where
      go : (networks : List (List Edge)) (es : List Edge) → In networks es → In (map edge_to es) u → In es e → ByNetworks networks u e
      go [] es i d k = absurd i
      go (fs ∷ networks) es (inl s) d k = inl (subst (λ (xs : List Edge). In (map edge_to xs) u) (sym s) d, subst (λ (xs : List Edge). In xs e) (sym s) k)
      go (fs ∷ networks) es (inr i) d k = inr (go networks es i d k)

  longer : (most u : ℕ) (us : List ℕ) (base : Label) (e : Edge) → base.path ≡ reverse (u ∷ us) → IsWay (Goes net) (u ∷ us) base.cost → Next u e → suc (length us) < most → IsWayTo net most e.to (onward base e)
  longer most u us base e path way n few = (u ∷ us, (ap (λ p. p ++ e.to ∷ []) path ∙ sym (reverse-append (e.to ∷ []) (u ∷ us)), (base.cost, (e.cost, (follows_next u us e n, way, refl))), few))

  found_more : (most : ℕ) (known new : List (Option Label)) → 1 ≤ most → AreFound net most known → IsRounded Next known known new → AreFound net (suc most) new
  found_more most known new some found it = record {
    size = it.size ∙ found.size;
    each = λ i. found_from (suc most) i (label_at new i) (sound i) (reached i);
  }
    where
      onto : (u i : ℕ) (base : Label) (e : Edge) → IsWayTo net most u base → Next u e → e.to ≡ i → IsWayTo net (suc most) i (onward base e)
      onto u i base e (us, (path, way, h)) j to = subst (λ (n : ℕ). IsWayTo net (suc most) n (onward base e)) to (longer (suc most) u us base e path way j (omega arith))

      sound : (i : ℕ) (l : Label) → label_at new i ≡ Some l → IsWayTo net (suc most) i l
      sound i l f = elim (it.from i l f) [
        | inl g ↦ wider most i l (sound_of most i (label_at known i) l (found.each i) g)
        | inr (u, (base, (e, (at, (j, (to, is)))))) ↦
            subst (λ (x : Label). IsWayTo net (suc most) i x) (sym is) (onto u i base e (sound_of most u (label_at known u) base (found.each u) at) j to)
      ]

      by_label : (u i : ℕ) (w m : Label) (d : ℕ) (o : Option Label) → label_at known u ≡ o → Reaches o w → (let e : Edge = record { to = i; cost = d } in Next u e × (onward w e ≡ m)) → Reaches (label_at new i) m
      by_label u i w m d None at r it_is = absurd r
      by_label u i w m d (Some l) at r (j, same) =
          let e : Edge = record { to = i; cost = d } in
          subst (λ (x : Label). Reaches (label_at new i) x) same
          (reaches_more (label_at new i) (onward l e) (onward w e) (it.met u l e at j) (onward_up_to l w e r))

      reached : (i : ℕ) (m : Label) → IsWayTo net (suc most) i m → Reaches (label_at new i) m
      reached i m ([], (path, way, h)) = it.lower i m (reached_of most i (label_at known i) (found.each i) m ([], (path, way, omega arith)))
      reached i m (u ∷ us, (path, (b, (d, (goes, way, sum))), h)) =
          let e : Edge = record { to = i; cost = d } in
          let w : Label = record { cost = b; path = reverse (u ∷ us) } in
          let same : onward w e ≡ m = same_label (onward w e) m (sym sum) (sym (reverse-append (i ∷ []) (u ∷ us)) ∙ sym path) in
          by_label u i w m d (label_at known u) refl
          (reached_of most u (label_at known u) (found.each u) w (us, (refl, way, omega arith)))
          (next_follows u us e goes, same)

  -- ---- within the limits

  all_of : {X : Type 0} (P : X → Type 0) (xs : List X) (x : X) → All P xs → Contains xs x → P x
  all_of P xs x all c = All-contains P xs x all c

  edge_cost : IsFitNet net → (us : List ℕ) (e : Edge) → Follows net us e → e.cost ≤ most_cost
  edge_cost fit [] e c = (All-contains (IsFit (length net.links)) net.first e fit.first c).cost
  edge_cost fit (u ∷ us) e (inr (es, (c, (d, k)))) = (All-contains (IsFit (length net.links)) es e (All-contains (λ xs. All (IsFit (length net.links)) xs) net.networks es fit.networks c) k).cost
  edge_cost fit (u ∷ us) e (inl c) = elim (cases_lt u (length net.links)) [
    | inl h ↦ (All-contains (IsFit (length net.links)) (get_or net.links u []) e (fit.links u [] h) c).cost
    | inr h ↦ absurd (none (get_or net.links u []) (beyond net.links u h) c)
  ]
    where
      beyond : (xs : List (List Edge)) (u : ℕ) → length xs ≤ u → get_or xs u [] ≡ []
      beyond [] u h = refl
      beyond (x ∷ xs) zero h = absurd (omega arith)
      beyond (x ∷ xs) (suc u) h = beyond xs u (omega arith)

      none : (es : List Edge) → es ≡ [] → Contains es e → ⊥
      none es is (k, h, same) = let f : length es ≡ 0 = ap length is in absurd (omega arith)

  way_cost : IsFitNet net → (us : List ℕ) (c : ℕ) → IsWay (Goes net) us c → c ≤ most_cost * length us
  way_cost fit [] c w = omega (arith, w)
  way_cost fit (u ∷ us) c (b, (d, (goes, way, sum))) =
      let e : Edge = record { to = u; cost = d } in
      let f : d ≤ most_cost = edge_cost fit us e goes in
      let g : b ≤ most_cost * length us = way_cost fit us b way in
      omega arith

  label_cost : IsFitNet net → (most i : ℕ) (l : Label) → most ≤ most_hops → IsWayTo net most i l → l.cost ≤ most_cost * most_hops
  label_cost fit most i l few (us, (path, way, h)) = let f : l.cost ≤ most_cost * length (i ∷ us) = way_cost fit (i ∷ us) l.cost way in omega arith

  links_fit : IsFitNet net → (n : ℕ) → n ≡ length net.links → All (λ es. All (λ e. e.to < n) es) net.links
  links_fit fit n same k d h = λ j x i. subst (λ m. (get_or (get_or net.links k d) j x).to < m) (sym same) (fit.links k d h j x i).within

  are_sound : IsFitNet net → (most : ℕ) (known : List (Option Label)) → most ≤ most_hops → AreFound net most known → AreSound net.links known
  are_sound fit most known few found = record {
    size = found.size;
    within = links_fit fit (length known) found.size;
    sums = λ u base at j x i. elim (cases_lt u (length net.links)) [
      | inl h ↦
          let f : base.cost ≤ most_cost * most_hops = label_cost fit most u base few (sound_of most u (label_at known u) base (found.each u) at) in
          let g : (get_or (get_or net.links u []) j x).cost ≤ most_cost = (fit.links u [] h j x i).cost in
          omega arith
      | inr h ↦ let none : length (get_or net.links u []) ≡ 0 = ap length (beyond net.links u h) in absurd (omega (arith, none, i))
    ];
  }
    where
      beyond : (xs : List (List Edge)) (u : ℕ) → length xs ≤ u → get_or xs u [] ≡ []
      beyond [] u h = refl
      beyond (x ∷ xs) zero h = absurd (omega arith)
      beyond (x ∷ xs) (suc u) h = beyond xs u (omega arith)

  -- what the code has done
  pub first_found : IsFitNet net → (old ls : List (Option Label)) (base : Label) (es : List Edge) → old ≡ replicate (length net.links) None → base ≡ start → es ≡ net.first → ls ≡ relaxed base es old → AreFound net 1 ls
  first_found fit old ls base es was b e is =
      let blank = replicate (length net.links) None in
      let same : ls ≡ relaxed start net.first blank = is ∙ (ap (λ x. relaxed x es old) b ∙ (ap (λ x. relaxed start x old) e ∙ ap (relaxed start net.first) was)) in
      found_at_start ls (subst (λ (new : List (Option Label)). IsEased start net.first blank new) (sym same)
      (eased start net.first blank (recursion_from_All _ net.first (λ k d h. subst (λ m. (get_or net.first k d).to < m) (sym (length-replicate (length net.links) None)) (fit.first k d h).within))))

  networks_fit : IsFitNet net → (n : ℕ) → n ≡ length net.links → All (λ es. All (λ e. e.to < n) es) net.networks
  networks_fit fit n same k d h = λ j x i. subst (λ m. (get_or (get_or net.networks k d) j x).to < m) (sym same) (fit.networks k d h j x i).within

  by_recursion : (n : ℕ) (table : List (List Edge)) → All (λ es. All (λ e. e.to < n) es) table → AllByRecursion (λ es. AllByRecursion (λ (e : Edge). e.to < n) es) table
  by_recursion n table all = recursion_from_All _ table (λ k d h. recursion_from_All _ (get_or table k d) (all k d h))

  -- what the ways leave, over links and over networks
  rounds_are : IsFitNet net → (ways known new : List (Option Label)) → length known ≡ length net.links → new ≡ joined net.networks ways (rounded net.links ways known) → IsRounded Next ways known new
  rounds_are fit ways known new size is =
      let one = rounded_is net.links ways known (by_recursion (length known) net.links (links_fit fit (length known) size)) in
      let mid = rounded net.links ways known in
      let two = joined_is net.networks ways mid (by_recursion (length mid) net.networks (networks_fit fit (length mid) (one.size ∙ size))) in
      subst (λ (ls : List (Option Label)). IsRounded Next ways known ls) (sym is) (both_rounds (ByLinks net.links) (ByNetworks net.networks) ways known mid (joined net.networks ways mid) one two)

  -- only the ways of so many hosts go on: the others went on in earlier rounds
  pub next_found : IsFitNet net → (most : ℕ) (known new : List (Option Label)) → 1 ≤ most → AreFound net most known → new ≡ joined net.networks (map (way_of most) known) (rounded net.links (map (way_of most) known) known) → AreFound net (suc most) new
  next_found fit most known new some found is = found_more most known new some found (record {
    size = it.size;
    from = λ i l f. elim (it.from i l f) [
      | inl g ↦ inl g
      | inr (u, (base, (e, (at, r)))) ↦ inr (u, (base, (e, (known_from most known u base at, r))))
    ];
    lower = it.lower;
    met = met;
  })
    where
      it : IsRounded Next (map (way_of most) known) known new
      it = rounds_are fit (map (way_of most) known) known new found.size is

      shorter : (u : ℕ) (base : Label) (e : Edge) → IsWayTo net most u base → (length base.path ≡ most → ⊥) → Next u e → IsWayTo net most e.to (onward base e)
      shorter u base e (us, (path, way, h)) other j =
          let size : length base.path ≡ suc (length us) = ap length path ∙ length-reverse (u ∷ us) in
          elim (cases_lt (suc (length us)) most) [
            | inl few ↦ longer most u us base e path way j few
            | inr many ↦ absurd (other (let same : length base.path ≡ most = omega arith in same))
          ]

      met : (u : ℕ) (base : Label) (e : Edge) → label_at known u ≡ Some base → Next u e → Reaches (label_at new e.to) (onward base e)
      met u base e at j = elim (cases_eq (length base.path) most) [
        | inl s ↦ it.met u base e (way_at most known u ∙ (ap (way_of most) at ∙ way_if most base s)) j
        | inr n ↦ it.lower e.to (onward base e) (reached_of most e.to (label_at known e.to) (found.each e.to) (onward base e) (shorter u base e (sound_of most u (label_at known u) base (found.each u) at) n j))
      ]

  pub are_sound_ways : IsFitNet net → (most : ℕ) (known ways : List (Option Label)) → most ≤ most_hops → AreFound net most known → ways ≡ map (way_of most) known → AreSound net.links ways
  are_sound_ways fit most known ways few found is = record {
    size = size;
    within = links_fit fit (length ways) size;
    sums = λ u base at. (are_sound fit most known few found).sums u base (known_from most known u base (ap (λ (ls : List (Option Label)). label_at ls u) (sym is) ∙ at));
  }
    where
      size : length ways ≡ length net.links
      size = ap length is ∙ (length-map known (way_of most) ∙ found.size)

  pub are_sound_networks : IsFitNet net → (most : ℕ) (known ways : List (Option Label)) → most ≤ most_hops → AreFound net most known → ways ≡ map (way_of most) known → AreSoundNetworks net.networks ways
  are_sound_networks fit most known ways few found is = record {
    within = networks_fit fit (length ways) (ap length is ∙ (length-map known (way_of most) ∙ found.size));
    sums = λ u base at k d h j x i.
        let before : label_at known u ≡ Some base = known_from most known u base (ap (λ (ls : List (Option Label)). label_at ls u) (sym is) ∙ at) in
        let f : base.cost ≤ most_cost * most_hops = label_cost fit most u base few (sound_of most u (label_at known u) base (found.each u) before) in
        let g : (get_or (get_or net.networks k d) j x).cost ≤ most_cost = (fit.networks k d h j x i).cost in
        omega arith;
  }

  -- if no way has so many hosts, none has more
  none_longer : (most k : ℕ) (o : Option Label) → IsFound net most k o → way_of (suc most) o ≡ None
  none_longer most k None found = refl
  none_longer most k (Some l) found = none_if (suc most) l (λ same. too_long found.way same)
    where
      too_long : IsWayTo net most k l → length l.path ≡ suc most → ⊥
      too_long (us, (path, way, h)) same = let size : length l.path ≡ suc (length us) = ap length path ∙ length-reverse (k ∷ us) in absurd (omega arith)

  pub steady : IsFitNet net → (most : ℕ) (known : List (Option Label)) → 1 ≤ most → AreFound net most known → All (λ way. way ≡ None) (map (way_of most) known) → (more : ℕ) → AreFound net (most + more) known
  steady fit most known some found none zero = subst (λ n. AreFound net n known) (let e : most ≡ most + zero = omega arith in e) found
  steady fit most known some found none (suc more) =
      subst (λ n. AreFound net n known) (let e : suc most + more ≡ most + suc more = omega arith in e)
      (steady fit (suc most) known (omega arith) next_too none_too more)
    where
      next_too : AreFound net (suc most) known
      next_too =
          let ways = map (way_of most) known in
          let all = recursion_from_All _ ways none in
          next_found fit most known known some found (sym (ap (joined net.networks ways) (none_follow net.links ways known all) ∙ none_join net.networks ways known all))

      none_too : All (λ way. way ≡ None) (map (way_of (suc most)) known)
      none_too k d h = get_or-map (way_of (suc most)) known k None d (let low : k < length known = omega (arith, h, length-map known (way_of (suc most))) in low) ∙ none_longer most k (label_at known k) (found.each k)

-- ---- one host of a round

relaxed_size : (base : Label) (es : List Edge) (ls : List (Option Label)) → length (relaxed base es ls) ≡ length ls
relaxed_size base [] ls = refl
relaxed_size base (e ∷ es) ls = relaxed_size base es (slice_set ls e.to (improved (onward base e) (label_at ls e.to))) ∙ length-set ls e.to (improved (onward base e) (label_at ls e.to))

pub followed_size : (o : Option Label) (es : List Edge) (ls : List (Option Label)) → length (followed o es ls) ≡ length ls
followed_size None es ls = refl
followed_size (Some base) es ls = relaxed_size base es ls

pub rounded_size : (links : List (List Edge)) (ways ls : List (Option Label)) → length (rounded links ways ls) ≡ length ls
rounded_size [] ways ls = refl
rounded_size (es ∷ links) [] ls = refl
rounded_size (es ∷ links) (o ∷ ways) ls = rounded_size links ways (followed o es ls) ∙ followed_size o es ls

pub round_step : (links : List (List Edge)) (known : List (Option Label)) (i : ℕ) (o : Option Label) (es : List Edge) (ls new : List (Option Label)) → length known ≡ length links → i < length known → o ≡ get_or known i o → es ≡ get_or links i es
    → new ≡ followed o es ls → rounded (drop (i + 1) links) (drop (i + 1) known) new ≡ rounded (drop i links) (drop i known) ls
round_step links known i o es ls new same within at links_at is =
    let n : i + 1 ≡ suc i = omega arith in
    ap (λ m. rounded (drop m links) (drop m known) new) n ∙ go links known i same within at links_at
  where
    go : (links : List (List Edge)) (known : List (Option Label)) (i : ℕ) → length known ≡ length links → i < length known → o ≡ get_or known i o → es ≡ get_or links i es → rounded (drop (suc i) links) (drop (suc i) known) new ≡ rounded (drop i links) (drop i known) ls
    go links [] i same within at links_at = absurd (omega arith)
    go [] (k ∷ known) i same within at links_at = absurd (omega arith)
    go (x ∷ links) (k ∷ known) zero same within at links_at = ap (rounded links known) (is ∙ (ap (λ a. followed a es ls) at ∙ ap (λ a. followed k a ls) links_at))
    go (x ∷ links) (k ∷ known) (suc i) same within at links_at = go links known i (omega arith) (omega arith) at links_at

pub none_known : (known : List (Option Label)) (i : ℕ) (o : Option Label) → i < length known → o ≡ get_or known i o → label_at known i ≡ o
none_known [] i o h e = absurd (omega arith)
none_known (k ∷ known) zero o h e = sym e
none_known (k ∷ known) (suc i) o h e = none_known known i o (omega arith) e

pub edges_known : (links : List (List Edge)) (i : ℕ) (es : List Edge) → i < length links → es ≡ get_or links i es → get_or links i [] ≡ es
edges_known [] i es h e = absurd (omega arith)
edges_known (x ∷ links) zero es h e = sym e
edges_known (x ∷ links) (suc i) es h e = edges_known links i es (omega arith) e

-- ---- one network of a round

pub least_from : (ways : List (Option Label)) (es : List Edge) (base : Label) → least_among ways es None ≡ Some base → (u : ℕ) × (label_at ways u ≡ Some base)
least_from ways es base is = elim ((least_is ways es None).from base is) [ inl none ↦ absurd cc | inr (u, (i, at)) ↦ (u, at) ]

pub join_step : (networks : List (List Edge)) (ways : List (Option Label)) (i : ℕ) (o : Option Label) (es fs : List Edge) (ls new : List (Option Label)) → i < length networks → fs ≡ get_or networks i fs → es ≡ fs → o ≡ least_among ways es None
    → new ≡ followed o es ls → joined (drop (i + 1) networks) ways new ≡ joined (drop i networks) ways ls
join_step networks ways i o es fs ls new within at same least is =
    let n : i + 1 ≡ suc i = omega arith in
    ap (λ m. joined (drop m networks) ways new) n ∙ go networks i within at
  where
    go : (networks : List (List Edge)) (i : ℕ) → i < length networks → fs ≡ get_or networks i fs → joined (drop (suc i) networks) ways new ≡ joined (drop i networks) ways ls
    go [] i within at = absurd (omega arith)
    go (x ∷ networks) zero within at = ap (joined networks ways) (is ∙ (ap (λ a. followed a es ls) least ∙ ap (λ (xs : List Edge). followed (least_among ways xs None) xs ls) (same ∙ at)))
    go (x ∷ networks) (suc i) within at = go networks i (omega arith) at
