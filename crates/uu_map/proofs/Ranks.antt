-- Links that are ranked, sorted and listed.
use Rattle.std.proofs.Common.{◌≡◌, ◌↔◌, ℕ, ◌<◌, Bool, true, false, ◌&&◌, List, [], ◌∷◌, length, map, None, Ordering, nat_eq, refl, sym, ap, ◌∙◌, subst, IsPermutation, arith}
use Rattle.std.specs.declared.cmp.Ordering.TheVariants.{Less, Equal, Greater}
use Rattle.std.specs.Ordering.{nat_cmp, ordering_then, is_eq, eq_by_cmp}
use Rattle.std.specs.Cmp.{IsTotalOrder, IsEquivalence, Equal-is}
use Rattle.std.specs.Cmp.Lexicographic.{slice_cmp, pointwise, texts_ties}
use Rattle.std.specs.List.{Contains, dedup, AllByRecursion}
use Rattle.std.specs.List.Retain.{IsFiltered, DiffersFromLast}
use Rattle.std.specs.List.Sorted.{IsSorted, IsStrictlySortedBy}
use Rattle.std.proofs.lemmas.Bool.Decides.{nat_tests}
use Rattle.std.proofs.lemmas.Cmp.{nat_list_cmp_total, then_total, on_total, tied_itself}
use Rattle.std.proofs.lemmas.List.{length-map, get_or-map}
use Rattle.std.proofs.lemmas.List.Filters.{dedup_is}
use Rattle.std.proofs.lemmas.List.Kept.{Contains-dedup, Contains-from_dedup, IsStrictlySortedBy-dedup}
use Rattle.std.proofs.lemmas.List.Sorted.{Contains-permutation, IsPermutation-sym}
use Rattle.std.proofs.lemmas.Map.Lookups.{exact_bytes}
use Rattle.uu_names.proofs.Basics.{is_eq-ordering_reverse}
use Rattle.uu_map.specs.declared.entry.Cost.{Cost}
use Rattle.uu_map.specs.declared.entry.Cost.TheVariants.{Value, Dead}
use Rattle.uu_map.specs.declared.entry.Link.{Link}
use Rattle.uu_map.specs.declared.least.Ranked.{Ranked}
use Rattle.uu_map.specs.Listing.{IsLeast, cost_cmp, listing_cmp, IsListing}
use Rattle.uu_map.specs.Internal.Ranking.{by_name_cmp, as_link, ranked_cmp, firsts_after}
use Rattle.uu_map.proofs.LeastCosts.{cost_total, firsts_least}

-- ---- the order of ranked links

ranked_total : IsTotalOrder ranked_cmp
ranked_total = then_total (on_total (λ (r : Ranked). r.cost) cost_total) (on_total (λ (r : Ranked). r.to) nat_list_cmp_total)

abbrev pub cost_eq : Cost → Cost → Bool
cost_eq (Value a) (Value b) = nat_eq a b
cost_eq (Value a) Dead = false
cost_eq Dead (Value b) = false
cost_eq Dead Dead = true

abbrev pub ranked_eq : Ranked → Ranked → Bool
ranked_eq a b = cost_eq a.cost b.cost && pointwise nat_eq a.to b.to

cost_ties : (x y : Cost) → cost_eq x y ≡ is_eq (cost_cmp x y)
cost_ties (Value a) (Value b) = grind (arith, nat_tests)
cost_ties (Value a) Dead = refl
cost_ties Dead (Value b) = refl
cost_ties Dead Dead = refl

is_eq_then : (o p : Ordering) → (is_eq o && is_eq p) ≡ is_eq (ordering_then o p)
is_eq_then Less p = refl
is_eq_then Equal p = refl
is_eq_then Greater p = refl

ranked_ties : (a b : Ranked) → ranked_eq a b ≡ eq_by_cmp ranked_cmp a b
ranked_ties a b =
    ap (λ t. t && pointwise nat_eq a.to b.to) (cost_ties a.cost b.cost)
    ∙ (ap (λ t. is_eq (cost_cmp a.cost b.cost) && t) (texts_ties a.to b.to)
    ∙ is_eq_then (cost_cmp a.cost b.cost) (slice_cmp nat_cmp a.to b.to))

ranked_equivalence : IsEquivalence (eq_by_cmp ranked_cmp)
ranked_equivalence = record {
  refl = λ x. ap is_eq (tied_itself ranked_total x);
  symm = λ x y. ap is_eq (ranked_total.antisymm x y) ∙ is_eq-ordering_reverse (ranked_cmp y x);
  congr = λ x y z e. ap is_eq (ranked_total.congr x y z ((Equal-is (ranked_cmp x y)).0 e));
}

cost_same : (x y : Cost) → cost_cmp x y ≡ Equal → x ≡ y
cost_same (Value a) (Value b) e = ap Value (number a b e)
  where
    number : (a b : ℕ) → nat_cmp a b ≡ Equal → a ≡ b
    number a b e = grind (arith, nat_tests)
cost_same (Value a) Dead e = absurd cc
cost_same Dead (Value b) e = absurd cc
cost_same Dead Dead e = refl

then_first : (o p : Ordering) → ordering_then o p ≡ Equal → o ≡ Equal
then_first Less p e = absurd cc
then_first Equal p e = refl
then_first Greater p e = absurd cc

then_second : (o p : Ordering) → ordering_then o p ≡ Equal → p ≡ Equal
then_second Less p e = absurd cc
then_second Equal p e = e
then_second Greater p e = absurd cc

ranked_same : (a b : Ranked) → eq_by_cmp ranked_cmp a b ≡ true → a ≡ b
ranked_same a b e =
    let tied : ranked_cmp a b ≡ Equal = (Equal-is (ranked_cmp a b)).0 e in
    let costs : a.cost ≡ b.cost = cost_same a.cost b.cost (then_first (cost_cmp a.cost b.cost) (slice_cmp nat_cmp a.to b.to) tied) in
    let names : a.to ≡ b.to = exact_bytes a.to b.to (then_second (cost_cmp a.cost b.cost) (slice_cmp nat_cmp a.to b.to) tied) in
    ap (λ (c : Cost). let r : Ranked = record { cost = c; to = a.to } in r) costs ∙ ap (λ (t : List ℕ). let r : Ranked = record { cost = b.cost; to = t } in r) names

-- ---- what sort and dedup leave

deduped : (E : Ranked → Ranked → Bool) → ((a b : Ranked) → E a b ≡ ranked_eq a b) → (xs ys : List Ranked) → IsFiltered (DiffersFromLast E) [] xs ys → ys ≡ dedup (eq_by_cmp ranked_cmp) xs
deduped E tells xs ys f = dedup_is E xs ys f ∙ ap (λ (E : Ranked → Ranked → Bool). dedup E xs) (λ i x y. (tells x y ∙ ranked_ties x y) i)

pub ordered_same : (E : Ranked → Ranked → Bool) → ((a b : Ranked) → E a b ≡ ranked_eq a b) → (xs ys zs : List Ranked) → IsPermutation xs ys → IsFiltered (DiffersFromLast E) [] ys zs → (r : Ranked) → Contains zs r ↔ Contains xs r
ordered_same E tells xs ys zs p f r =
    let e : zs ≡ dedup (eq_by_cmp ranked_cmp) ys = deduped E tells ys zs f in (
      λ c. Contains-permutation ys xs r (IsPermutation-sym xs ys p) (Contains-from_dedup (eq_by_cmp ranked_cmp) ys r (subst (λ l. Contains l r) e c)),
      λ c. subst (λ l. Contains l r) (sym e) (Contains-dedup ranked_equivalence ranked_same ys r (Contains-permutation xs ys r p c)),
    )

pub ordered_strictly : (E : Ranked → Ranked → Bool) → ((a b : Ranked) → E a b ≡ ranked_eq a b) → (ys zs : List Ranked) → IsSorted ranked_cmp ys → IsFiltered (DiffersFromLast E) [] ys zs → IsStrictlySortedBy ranked_cmp zs
ordered_strictly E tells ys zs up f = subst (λ l. IsStrictlySortedBy ranked_cmp l) (sym (deduped E tells ys zs f)) (IsStrictlySortedBy-dedup ranked_total (λ x y. refl) ys up)

-- ---- ranked links as links

abbrev rank : Link → Ranked
rank l = record { cost = l.cost; to = l.to }

pub contains_link : (rs : List Ranked) (l : Link) → Contains (map as_link rs) l → Contains rs (rank l)
contains_link rs l (k, h, e) =
    let within : k < length rs = omega (arith, length-map rs as_link) in
    (k, within, ap rank (sym (get_or-map as_link rs k (rank l) l within) ∙ e))

pub contains_ranked : (rs : List Ranked) (l : Link) → Contains rs (rank l) → Contains (map as_link rs) l
contains_ranked rs l (k, h, e) =
    (k, omega (arith, length-map rs as_link), get_or-map as_link rs k (rank l) l h ∙ ap as_link e)

below_links : (r : Ranked) (rs : List Ranked) → AllByRecursion (λ y. ranked_cmp r y ≡ Less) rs → AllByRecursion (λ y. listing_cmp (as_link r) y ≡ Less) (map as_link rs)
below_links r [] h = tt
below_links r (s ∷ rs) h = (h.0, below_links r rs h.1)

pub links_in_order : (rs : List Ranked) → IsStrictlySortedBy ranked_cmp rs → IsStrictlySortedBy listing_cmp (map as_link rs)
unfolding IsStrictlySortedBy
links_in_order [] h = tt
links_in_order (r ∷ rs) h = (below_links r rs h.0, links_in_order rs h.1)

least_permuted : (xs ys : List Link) (l : Link) → IsPermutation xs ys → IsLeast xs l → IsLeast ys l
least_permuted xs ys l p h = (Contains-permutation xs ys l p h.0, λ m c same. h.1 m (Contains-permutation ys xs m (IsPermutation-sym xs ys p) c) same)

pub listing : (links sorted listed : List Link) (firsts ranked : List Ranked) → IsPermutation links sorted → IsSorted by_name_cmp sorted → map as_link firsts ≡ firsts_after None sorted → ((r : Ranked) → Contains ranked r ↔ Contains firsts r) → IsStrictlySortedBy ranked_cmp ranked → listed ≡ map as_link ranked → IsListing links listed
listing links sorted listed firsts ranked p up ef same order el = record {
  least = λ l. (
    λ c. least_permuted sorted links l (IsPermutation-sym links sorted p) ((firsts_least sorted up l).0 (subst (λ ls. Contains ls l) ef (contains_ranked firsts l ((same (rank l)).0 (contains_link ranked l (subst (λ ls. Contains ls l) el c)))))),
    λ h. subst (λ ls. Contains ls l) (sym el) (contains_ranked ranked l ((same (rank l)).1 (contains_link firsts l (subst (λ ls. Contains ls l) (sym ef) ((firsts_least sorted up l).1 (least_permuted links sorted l p h)))))),
  );
  in_order = subst (λ ls. IsStrictlySortedBy listing_cmp ls) (sym el) (links_in_order ranked order);
}
