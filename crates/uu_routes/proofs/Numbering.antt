-- Names in order and their numbers.
use Rattle.std.proofs.Common.{◌≡◌, ◌↔◌, ℕ, zero, suc, ◌<◌, ◌≤◌, Bool, true, false, cond, List, [], ◌∷◌, length, get_or, Ordering, refl, sym, ap, ◌∙◌, subst, inl, inr, arith, IsPermutation, nat_eq}
use Rattle.std.specs.declared.cmp.Ordering.TheVariants.{Less, Equal, Greater}
use Rattle.std.specs.Ordering.{is_eq, eq_by_cmp, ordering_index}
use Rattle.std.specs.Cmp.{IsEquivalence, Equal-is}
use Rattle.std.specs.Cmp.Lexicographic.{pointwise, texts_ties}
use Rattle.std.specs.List.{Contains, dedup, AllByRecursion, HoldsAt}
use Rattle.std.specs.List.Retain.{IsFiltered, DiffersFromLast}
use Rattle.std.specs.List.Sorted.{IsSorted, IsStrictlySortedBy, IsPartitionPoint, IsNonDecreasingBy}
use Rattle.std.specs.Str.{bytes_eq}
use Rattle.std.proofs.lemmas.Bool.{cases_lt}
use Rattle.std.proofs.lemmas.Cmp.{nat_list_cmp_total, tied_itself}
use Rattle.std.proofs.lemmas.List.Filters.{dedup_is}
use Rattle.std.proofs.lemmas.List.Kept.{Contains-dedup, Contains-from_dedup, IsStrictlySortedBy-dedup}
use Rattle.std.proofs.lemmas.List.Sorted.{Contains-permutation, IsPermutation-sym}
use Rattle.std.proofs.lemmas.Map.Lookups.{exact_bytes}
use Rattle.std.proofs.lemmas.Slice.Eq.{bytes_eq-Decides}
use Rattle.uu_names.proofs.Basics.{is_eq-ordering_reverse}
use Rattle.uu_routes.specs.Links.{name_cmp}
use Rattle.uu_routes.specs.Internal.Numbers.{number_of}
use Rattle.uu_routes.proofs.Naming.{name_at, Rise}

-- ---- strictly sorted names rise

all_at : (P : List ℕ → Type 0) (ns : List (List ℕ)) → AllByRecursion P ns → (j : ℕ) → j < length ns → P (name_at ns j)
all_at P [] h j k = absurd (omega arith)
all_at P (n ∷ ns) h zero k = h.0
all_at P (n ∷ ns) h (suc j) k = all_at P ns h.1 j (omega arith)

pub rises : (names : List (List ℕ)) → IsStrictlySortedBy name_cmp names → Rise names
unfolding IsStrictlySortedBy
rises [] up i j h k = absurd (omega arith)
rises (n ∷ ns) up zero zero h k = absurd (omega arith)
rises (n ∷ ns) up zero (suc j) h k = all_at (λ y. name_cmp n y ≡ Less) ns up.0 j (omega arith)
rises (n ∷ ns) up (suc i) zero h k = absurd (omega arith)
rises (n ∷ ns) up (suc i) (suc j) h k = rises ns up.1 i j (omega arith) (omega arith)

-- ---- numbers

differ : (x y : List ℕ) → (x ≡ y → ⊥) → bytes_eq x y ≡ false
differ x y h = go (bytes_eq x y) refl
  where
    go : (t : Bool) → bytes_eq x y ≡ t → t ≡ false
    go true e = absurd (h ((bytes_eq-Decides x y).0 e))
    go false e = refl

-- the number of a name that is there
pub number_found : (ns : List (List ℕ)) (name : List ℕ) (i : ℕ) → i < length ns → name_at ns i ≡ name → ((k : ℕ) → k < i → name_at ns k ≡ name → ⊥) → number_of ns name ≡ i
number_found [] name i h e other = absurd (omega arith)
number_found (n ∷ ns) name zero h e other = ap (λ t. cond t 0 (suc (number_of ns name))) ((bytes_eq-Decides n name).1 e)
number_found (n ∷ ns) name (suc i) h e other = ap (λ t. cond t 0 (suc (number_of ns name))) (differ n name (λ s. other 0 (omega arith) s)) ∙ ap suc (number_found ns name i (omega arith) e (λ k l s. other (suc k) (omega arith) s))

pub number_missing : (ns : List (List ℕ)) (name : List ℕ) → ((k : ℕ) → k < length ns → name_at ns k ≡ name → ⊥) → number_of ns name ≡ length ns
number_missing [] name other = refl
number_missing (n ∷ ns) name other = ap (λ t. cond t 0 (suc (number_of ns name))) (differ n name (λ s. other 0 (omega arith) s)) ∙ ap suc (number_missing ns name (λ k l s. other (suc k) (omega arith) s))

-- a name that is there has its place as its number
pub number_is : (ns : List (List ℕ)) (name : List ℕ) → Contains ns name → (number_of ns name < length ns) × (name_at ns (number_of ns name) ≡ name)
number_is [] name (k, h, e) = absurd (omega arith)
number_is (n ∷ ns) name c = go (λ c. number_is ns name c) (bytes_eq n name) refl c
  where
    go : (Contains ns name → (number_of ns name < length ns) × (name_at ns (number_of ns name) ≡ name)) → (t : Bool) → bytes_eq n name ≡ t → Contains (n ∷ ns) name → (cond t 0 (suc (number_of ns name)) < suc (length ns)) × (name_at (n ∷ ns) (cond t 0 (suc (number_of ns name))) ≡ name)
    go rec true same c = (omega arith, (bytes_eq-Decides n name).0 same)
    go rec false other (zero, h, e) = let f : bytes_eq n name ≡ true = (bytes_eq-Decides n name).1 e in absurd cc
    go rec false other (suc k, h, e) = let (l, m) = rec (k, omega arith, e) in (omega arith, m)

-- ---- what the search answers

less_not_equal : (x y : List ℕ) → name_cmp x y ≡ Less → x ≡ y → ⊥
less_not_equal x y l e = let t : name_cmp x y ≡ Equal = ap (λ z. name_cmp z y) e ∙ tied_itself nat_list_cmp_total y in cc

pub searched : (names : List (List ℕ)) (name : List ℕ) (i : ℕ) → IsStrictlySortedBy name_cmp names → i < length names → HoldsAt (λ y. name_cmp y name ≡ Equal) names i → number_of names name ≡ i
searched names name i up h at =
    let same : name_at names i ≡ name = exact_bytes (name_at names i) name (at []) in
    number_found names name i h same (λ k l s. less_not_equal (name_at names k) (name_at names i) (rises names up k i l h) (s ∙ sym same))

index_up : (x y name : List ℕ) → name_cmp x y ≡ Less → ordering_index (name_cmp x name) ≤ ordering_index (name_cmp y name)
index_up x y name less = go (name_cmp x name) (name_cmp y name) refl refl
  where
    go : (a b : Ordering) → name_cmp x name ≡ a → name_cmp y name ≡ b → ordering_index a ≤ ordering_index b
    go Less b e f = omega arith
    go Equal Less e f = let g = nat_list_cmp_total.trans x y name less f in absurd cc
    go Equal Equal e f = omega arith
    go Equal Greater e f = omega arith
    go Greater Less e f = let g = nat_list_cmp_total.trans x y name less f in absurd cc
    go Greater Equal e f = let s : y ≡ name = exact_bytes y name f in let g : name_cmp x name ≡ Less = ap (name_cmp x) (sym s) ∙ less in absurd cc
    go Greater Greater e f = omega arith

any_default : (xs : List (List ℕ)) (i : ℕ) (d e : List ℕ) → i < length xs → get_or xs i d ≡ get_or xs i e
any_default [] i d e h = absurd (omega arith)
any_default (x ∷ xs) zero d e h = refl
any_default (x ∷ xs) (suc i) d e h = any_default xs i d e (omega arith)

greater_not_equal : (x y : List ℕ) → name_cmp x y ≡ Greater → x ≡ y → ⊥
greater_not_equal x y l e = let t : name_cmp x y ≡ Equal = ap (λ z. name_cmp z y) e ∙ tied_itself nat_list_cmp_total y in cc

searchable : (names : List (List ℕ)) (name : List ℕ) → IsStrictlySortedBy name_cmp names → IsNonDecreasingBy (λ y. ordering_index (name_cmp y name)) names
searchable names name up i j d h k = elim (cases_lt i j) [
  | inl less ↦ subst (λ (x : List ℕ). ordering_index (name_cmp x name) ≤ ordering_index (name_cmp (get_or names j d) name)) (sym (any_default names i d [] (omega arith)))
      (subst (λ (x : List ℕ). ordering_index (name_cmp (name_at names i) name) ≤ ordering_index (name_cmp x name)) (sym (any_default names j d [] k)) (index_up (name_at names i) (name_at names j) name (rises names up i j less k)))
  | inr more ↦ let same : i ≡ j = omega arith in subst (λ (n : ℕ). ordering_index (name_cmp (get_or names i d) name) ≤ ordering_index (name_cmp (get_or names n d) name)) same (omega arith)
]

pub not_searched : (names : List (List ℕ)) (name : List ℕ) (i : ℕ) → IsStrictlySortedBy name_cmp names → (IsNonDecreasingBy (λ y. ordering_index (name_cmp y name)) names → IsPartitionPoint (λ y. name_cmp y name ≡ Less) (λ y. name_cmp y name ≡ Greater) names i) → number_of names name ≡ length names
not_searched names name i up h =
    let (low, high) = h (searchable names name up) in
    number_missing names name (λ k l s. elim (cases_lt k i) [
      | inl less ↦ less_not_equal (name_at names k) name (low k [] (omega arith) less) s
      | inr more ↦ greater_not_equal (name_at names k) name (high k [] more l) s
    ])

-- ---- names once

same_equivalence : IsEquivalence (eq_by_cmp name_cmp)
same_equivalence = record {
  refl = λ x. ap is_eq (tied_itself nat_list_cmp_total x);
  symm = λ x y. ap is_eq (nat_list_cmp_total.antisymm x y) ∙ is_eq-ordering_reverse (name_cmp y x);
  congr = λ x y z e. ap is_eq (nat_list_cmp_total.congr x y z ((Equal-is (name_cmp x y)).0 e));
}

deduped : (xs ys : List (List ℕ)) → IsFiltered (DiffersFromLast (pointwise nat_eq)) [] xs ys → ys ≡ dedup (eq_by_cmp name_cmp) xs
deduped xs ys f = dedup_is (pointwise nat_eq) xs ys f ∙ ap (λ (E : List ℕ → List ℕ → Bool). dedup E xs) (λ i x y. (texts_ties x y) i)

same_name : (a b : List ℕ) → eq_by_cmp name_cmp a b ≡ true → a ≡ b
same_name a b e = exact_bytes a b ((Equal-is (name_cmp a b)).0 e)

pub once_same : (ys zs : List (List ℕ)) → IsFiltered (DiffersFromLast (pointwise nat_eq)) [] ys zs → (name : List ℕ) → Contains zs name ↔ Contains ys name
once_same ys zs f name =
    let e : zs ≡ dedup (eq_by_cmp name_cmp) ys = deduped ys zs f in (
      λ c. Contains-from_dedup (eq_by_cmp name_cmp) ys name (subst (λ l. Contains l name) e c),
      λ c. subst (λ l. Contains l name) (sym e) (Contains-dedup same_equivalence same_name ys name c),
    )

pub names_same : (xs ys zs all : List (List ℕ)) → ((name : List ℕ) → Contains xs name ↔ Contains all name) → IsPermutation xs ys → IsFiltered (DiffersFromLast (pointwise nat_eq)) [] ys zs → (name : List ℕ) → Contains zs name ↔ Contains all name
names_same xs ys zs all same p f name = (
  λ c. (same name).0 (Contains-permutation ys xs name (IsPermutation-sym xs ys p) ((once_same ys zs f name).0 c)),
  λ c. (once_same ys zs f name).1 (Contains-permutation xs ys name p ((same name).1 c)),
)

pub names_strictly : (ys zs : List (List ℕ)) → IsSorted name_cmp ys → IsFiltered (DiffersFromLast (pointwise nat_eq)) [] ys zs → IsStrictlySortedBy name_cmp zs
names_strictly ys zs up f = subst (λ l. IsStrictlySortedBy name_cmp l) (sym (deduped ys zs f)) (IsStrictlySortedBy-dedup nat_list_cmp_total (λ x y. refl) ys up)
