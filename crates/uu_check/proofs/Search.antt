-- A name that is searched for among rows in the order of their names.
use Rattle.std.proofs.Common.{◌≡◌, ℕ, zero, suc, ◌<◌, ◌≤◌, Bool, true, false, List, [], ◌∷◌, length, get_or, not, All, Less, Equal, ◌||◌, inl, inr, refl, sym, ap, subst, ◌∙◌, arith}
use Rattle.std.specs.List.{AllByRecursion, list_all, list_any, HoldsAt}
use Rattle.std.specs.List.Sorted.{IsPartitionPoint, IsNonDecreasingBy}
use Rattle.std.specs.declared.cmp.Ordering.{Ordering}
use Rattle.std.specs.declared.cmp.Ordering.TheVariants.{Greater}
use Rattle.std.specs.Ordering.{is_lt, nat_cmp, ordering_index}
use Rattle.std.specs.Cmp.Lexicographic.{slice_cmp}
use Rattle.std.proofs.lemmas.Cmp.{nat_list_cmp_total, tied_itself}
use Rattle.std.proofs.lemmas.List.Folds.{list_any_none}
use Rattle.std.proofs.lemmas.Map.Lookups.{exact_bytes}
use Rattle.std.proofs.lemmas.Bool.{false_from_ne_true, cases_lt, or_right}
use Rattle.std.proofs.lemmas.List.{map-id}
use Rattle.std.proofs.lemmas.List.Elements.{recursion_from_All, All-from_recursion}
use Rattle.std.proofs.Math.Bool.{and-true}
use Rattle.uu_names.proofs.Basics.{earlier_other, before_differs, less_is, text_from, text_to, all_weaker, AllPairsByRecursion}
use Rattle.uu_core.specs.State.{ComesBefore, same_text}
use Rattle.uu_check.specs.Walk.{rises}
use Rattle.uu_check.proofs.Lists.{pairs_by_place, risen}

unequal : (a b : List ℕ) (r : Ordering) → slice_cmp nat_cmp a b ≡ r → (r ≡ Equal → ⊥) → same_text a b ≡ false
unequal a b r is other = false_from_ne_true (same_text a b) (λ e. other (sym is ∙ ap (λ n. slice_cmp nat_cmp a n) (sym (text_from a b e)) ∙ tied_itself nat_list_cmp_total a))

climbs : (a b name : List ℕ) → ComesBefore a b → ordering_index (slice_cmp nat_cmp a name) ≤ ordering_index (slice_cmp nat_cmp b name)
climbs a b name before = go (slice_cmp nat_cmp b name) refl
  where
    low : slice_cmp nat_cmp a name ≡ Less → (n : ℕ) → ordering_index (slice_cmp nat_cmp a name) ≤ n
    low e n = rw e (omega arith)

    most : (r : Ordering) → ordering_index r ≤ 2
    most Less = omega arith
    most Equal = omega arith
    most Greater = omega arith

    go : (r : Ordering) → slice_cmp nat_cmp b name ≡ r → ordering_index (slice_cmp nat_cmp a name) ≤ ordering_index (slice_cmp nat_cmp b name)
    go Less e = low (nat_list_cmp_total.trans a b name before e) _
    go Equal e = low (subst (ComesBefore a) (exact_bytes b name e) before) _
    go Greater e = rw e (most (slice_cmp nat_cmp a name))

module _ {X : Type 0} (name_of : X → List ℕ) where
  abbrev pub place_of : List ℕ → X → Ordering
  place_of name x = slice_cmp nat_cmp (name_of x) name

  abbrev pub before : X → X → Bool
  before a b = is_lt (slice_cmp nat_cmp (name_of a) (name_of b))

  abbrev Before : X → X → Type 0
  Before a b = ComesBefore (name_of a) (name_of b)

  pub found : (name : List ℕ) (xs : List X) (i : ℕ) → i < length xs → HoldsAt (λ x. place_of name x ≡ Equal) xs i → list_any (λ x. same_text (name_of x) name) xs ≡ true
  found name [] i low h = absurd (omega (arith, low))
  found name (x ∷ xs) zero low h = let same : name_of x ≡ name = exact_bytes (name_of x) name (h x) in rw (same, text_to name) refl
  found name (x ∷ xs) (suc i) low h = or_right (same_text (name_of x) name) _ (found name xs i (omega (arith, low)) h)

  ordered : (xs : List X) → rises before xs ≡ true → AllPairsByRecursion Before xs
  ordered xs h = risen (λ x. x) before Before (λ x y. less_is _) (λ x y z. nat_list_cmp_total.trans (name_of x) (name_of y) (name_of z)) xs (ap (rises before) (map-id xs) ∙ h)

  missing : (name : List ℕ) (xs : List X) (i : ℕ) → IsPartitionPoint (λ x. place_of name x ≡ Less) (λ x. place_of name x ≡ Greater) xs i → All (λ x. same_text (name_of x) name ≡ false) xs
  missing name xs i h k d inside = elim (cases_lt k i) [
    | inl low ↦ unequal _ name Less (h.0 k d (omega arith) low) (λ e. cc)
    | inr high ↦ unequal _ name Greater (h.1 k d high inside) (λ e. cc)
  ]

  climb : (name : List ℕ) (xs : List X) → rises before xs ≡ true → IsNonDecreasingBy (λ x. ordering_index (place_of name x)) xs
  climb name xs h i j d low inside = elim (cases_lt i j) [
    | inl less ↦ climbs _ _ name (pairs_by_place Before xs (ordered xs h) i j d less inside)
    | inr high ↦ let same : i ≡ j = omega (arith, low, high) in rw same (omega arith)
  ]

  none_has : (name : List ℕ) (xs : List X) (i : ℕ) → rises before xs ≡ true → (IsNonDecreasingBy (λ x. ordering_index (place_of name x)) xs → IsPartitionPoint (λ x. place_of name x ≡ Less) (λ x. place_of name x ≡ Greater) xs i)
      → All (λ x. same_text (name_of x) name ≡ false) xs
  none_has name xs i rise h = missing name xs i (h (climb name xs rise))

  pub not_found : (name : List ℕ) (xs : List X) (i : ℕ) → rises before xs ≡ true → (IsNonDecreasingBy (λ x. ordering_index (place_of name x)) xs → IsPartitionPoint (λ x. place_of name x ≡ Less) (λ x. place_of name x ≡ Greater) xs i)
      → list_any (λ x. same_text (name_of x) name) xs ≡ false
  not_found name xs i rise h = list_any_none (λ x. same_text (name_of x) name) xs (none_has name xs i rise h)

  -- ---- the check of the rows of a name: of none if there is none, or else of the one

  module _ (asked : X → Bool) where
    abbrev pub answer : List ℕ → X → Bool
    answer name x = not (same_text (name_of x) name) || asked x

    others : (name : List ℕ) (xs : List X) → AllByRecursion (λ x. same_text (name_of x) name ≡ false) xs → list_all (answer name) xs ≡ true
    others name [] h = refl
    others name (x ∷ xs) h = rw (h.0, others name xs h.1) refl

    pub none_is_asked : (name : List ℕ) (xs : List X) (i : ℕ) → rises before xs ≡ true → (IsNonDecreasingBy (λ x. ordering_index (place_of name x)) xs → IsPartitionPoint (λ x. place_of name x ≡ Less) (λ x. place_of name x ≡ Greater) xs i)
        → list_all (answer name) xs ≡ true
    none_is_asked name xs i rise h = others name xs (recursion_from_All (λ x. same_text (name_of x) name ≡ false) xs (none_has name xs i rise h))

    one_of : (name : List ℕ) (d : X) (xs : List X) (i : ℕ) → AllPairsByRecursion Before xs → i < length xs → name_of (get_or xs i d) ≡ name → list_all (answer name) xs ≡ asked (get_or xs i d)
    one_of name d [] i up low same = absurd (omega (arith, low))
    one_of name d (x ∷ xs) zero up low same =
        rw (same, text_to name, others name xs (all_weaker (Before x) (λ y. same_text (name_of y) name ≡ false) (λ y b. false_from_ne_true (same_text (name_of y) name) (λ e. before_differs (name_of x) (name_of y) b (same ∙ sym (text_from (name_of y) name e)))) xs up.0)) (and-true (asked x))
    one_of name d (x ∷ xs) (suc i) up low same =
        let inside : i < length xs = omega (arith, low) in
        let ahead : ComesBefore (name_of x) name = subst (ComesBefore (name_of x)) same (All-from_recursion (Before x) xs up.0 i d inside) in
        rw (earlier_other (name_of x) name ahead) (one_of name d xs i up.1 inside same)

    pub one_is_asked : (name : List ℕ) (d : X) (xs : List X) (i : ℕ) → rises before xs ≡ true → i < length xs → HoldsAt (λ x. place_of name x ≡ Equal) xs i → list_all (answer name) xs ≡ asked (get_or xs i d)
    one_is_asked name d xs i rise low h = one_of name d xs i (ordered xs rise) low (exact_bytes (name_of (get_or xs i d)) name (h d))
