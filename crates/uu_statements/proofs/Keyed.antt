-- Tables as lists with a key: a row more, rows that go, a row that changes. For any type of rows.
use Rattle.std.proofs.Common.{◌≡◌, ◌≢◌, ◌⊎◌, inl, inr, ℕ, ℤ, List, [], ◌∷◌, ◌++◌, map, filter, Bool, true, false, not, cond, refl, sym, ap, subst, ◌∙◌, arith, Ordering, true≢false}
use Rattle.std.specs.Prelude.{IsTrue}
use Rattle.std.specs.List.{AllByRecursion}
use Rattle.std.specs.List.Sorted.{IsPermutation}
use Rattle.std.specs.Ordering.{is_eq, is_lt}
use Rattle.std.proofs.lemmas.Bool.{cases_Bool, not-true}
use Rattle.std.proofs.lemmas.Cmp.{tied_itself}
use Rattle.std.proofs.lemmas.List.Sorted.{IsPermutation-refl, IsPermutation-sym, IsPermutation-trans, IsPermutation-cons, IsPermutation-swap, IsPermutation-middle, IsPermutation-to_front, IsPermutation-map, length_permutation}
use Rattle.std.specs.Cmp.{Equal-is}
use Rattle.sqlite.specs.declared.types.Value.TheVariants.{Int}
use Rattle.sqlite.specs.Order.{Row, value_cmp}
use Rattle.sqlite.specs.Tree.{IsAscending, rowid, has_rowid, without_rowid, put_row}
use Rattle.sqlite.specs.View.{is_int}
use Rattle.sqlite.specs.Edit.{is_taken}
use Rattle.sqlite_value.proofs.OrderLemmas.{value_cmp_total}
use Rattle.sqlite_trees.proofs.ListLemmas.{all-permutation, filter_same as filter_alike_on}
use Rattle.sqlite_rules.specs.Lists.{Has}
use Rattle.sqlite_rules.proofs.ListLemmas.{all_has, all_from, has_filtered, has_kept}
use Rattle.sqlite_rules.proofs.ProbeLemmas.{has_mapped, mapped_has}
use Rattle.sqlite_keyed.proofs.ListLemmas.{filter-map, filter_none, filter_same, along_permutation, all_weaker, all_unmap, all-map, all-filter, any_from_none, ascending-filter, ascending-map, ascending_weaker, IsPermutation-filter}
use Rattle.uu_names.proofs.Basics.{all_kept}
use Rattle.uu_schema.specs.Rowids.{OnceEach}
use Rattle.uu_schema.proofs.Rows.{put_permutes}
use Rattle.uu_schema.proofs.Rowids.{has_moved, numbered_put, once_put, once_left}
use Rattle.uu_core.specs.After.{is_before}
use Rattle.uu_tables.specs.Changes.{insert_by, insert_at, append, alter, without}
use Rattle.uu_schema.specs.Keyed.{columns, Keyed}

-- ---- lists

-- no element or one passes a test that elements of one key alone pass
pub picked : {K X : Type 0} (key : X → K) (p : X → Bool) → ((x y : X) → p x ≡ true → p y ≡ true → key x ≡ key y) → (xs : List X) → IsAscending (λ a b. key a ≢ key b) xs
    → (filter p xs ≡ []) ⊎ ((x : X) × (filter p xs ≡ x ∷ []))
picked key p one [] apart = inl refl
picked key p one (x ∷ xs) apart = elim (cases_Bool (p x)) [
  | inl here ↦ inr (
    x,
    rw here (ap (λ l. x ∷ l) (filter_none p xs (all_from (λ y. p y ≡ false) xs (λ y h. elim (cases_Bool (p y)) [
      | inl also ↦ absurd (all_has (λ b. key x ≢ key b) xs y apart.0 h (one x y here also))
      | inr other ↦ other
    ])))),
  )
  | inr other ↦ rw other (picked key p one xs apart.1)
]

-- those that pass change and the others stay, in some order
changed : {X : Type 0} (p : X → Bool) (f : X → X) (xs : List X) → IsPermutation (map f (filter p xs) ++ filter (λ x. not (p x)) xs) (alter p f xs)
changed p f [] = IsPermutation-refl []
changed p f (x ∷ xs) = elim (cases_Bool (p x)) [
  | inl here ↦ rw here (IsPermutation-cons (f x) _ _ (changed p f xs))
  | inr other ↦ rw other (IsPermutation-trans _ _ _ (IsPermutation-middle (map f (filter p xs)) x (filter (λ y. not (p y)) xs)) (IsPermutation-cons x _ _ (changed p f xs)))
]

pub none_change : {X : Type 0} (p : X → Bool) (f : X → X) (xs : List X) → filter p xs ≡ [] → alter p f xs ≡ xs
none_change p f [] none = refl
none_change p f (x ∷ xs) none = elim (cases_Bool (p x)) [
  | inl here ↦ absurd (let e = rw here at none in cc)
  | inr other ↦ rw other (ap (λ l. x ∷ l) (none_change p f xs (rw other at none)))
]

-- those that fail a test and those that pass it are all
pub parted : {X : Type 0} (p : X → Bool) (xs : List X) → IsPermutation (filter (λ x. not (p x)) xs ++ filter p xs) xs
parted p [] = IsPermutation-refl []
parted p (x ∷ xs) = elim (cases_Bool (p x)) [
  | inl here ↦ rw here (IsPermutation-trans _ _ _ (IsPermutation-middle (filter (λ y. not (p y)) xs) x (filter p xs)) (IsPermutation-cons x _ _ (parted p xs)))
  | inr other ↦ rw other (IsPermutation-cons x _ _ (parted p xs))
]

-- one more after those of its own name and of names before it
pub put_by_name : {X : Type 0} (name : X → List ℕ) (x : X) (xs : List X) → IsPermutation (x ∷ xs) (insert_by name x xs)
put_by_name name x xs = IsPermutation-trans _ _ _ (IsPermutation-cons x _ _ (IsPermutation-sym _ _ (parted (λ other. is_before name x other) xs))) (IsPermutation-sym _ _ (IsPermutation-middle (filter (λ other. not (is_before name x other)) xs) x (filter (λ other. is_before name x other) xs)))

-- one more after those of its own key and of keys before it
pub put_in_order : {X : Type 0} (order : X → X → Ordering) (x : X) (xs : List X) → IsPermutation (x ∷ xs) (insert_at order x xs)
put_in_order order x xs = IsPermutation-trans _ _ _ (IsPermutation-cons x _ _ (IsPermutation-sym _ _ (parted (λ other. is_lt (order x other)) xs))) (IsPermutation-sym _ _ (IsPermutation-middle (filter (λ other. not (is_lt (order x other))) xs) x (filter (λ other. is_lt (order x other)) xs)))

-- one more after all others
pub put_last : {X : Type 0} (x : X) (xs : List X) → IsPermutation (x ∷ xs) (append x xs)
put_last x xs = IsPermutation-sym _ _ (IsPermutation-to_front xs x)

pub no_permutation : {X : Type 0} (ys : List X) → IsPermutation [] ys → ys ≡ []
no_permutation [] h = refl
no_permutation (y ∷ ys) h = absurd (let e = length_permutation [] (y ∷ ys) h in cc)

pub none_mapped : {X Y : Type 0} (f : X → Y) (xs : List X) → map f xs ≡ [] → xs ≡ []
none_mapped f [] h = refl
none_mapped f (x ∷ xs) h = absurd (cc)

-- keys that differ still differ in another order
module _ {K X : Type 0} (key : X → K) where
  abbrev AreApart : List X → Type 0
  AreApart xs = IsAscending (λ a b. key a ≢ key b) xs

  abbrev Moves : List X → List X → Type 0
  Moves xs ys = IsPermutation xs ys × (AreApart xs → AreApart ys)

  moves : (xs ys : List X) → IsPermutation xs ys → Moves xs ys
  moves = along_permutation Moves
      (λ xs. (IsPermutation-refl xs, λ up. up))
      (λ x xs ys h. (IsPermutation-cons x xs ys h.0, λ up. (all-permutation (λ b. key x ≢ key b) xs ys h.0 up.0, h.1 up.1)))
      (λ x y xs. (IsPermutation-swap (x ∷ y ∷ xs) (y ∷ x ∷ xs) 0 1 (omega arith) (omega arith) refl, λ up. (((λ e. up.0.0 (sym e)), up.1.0), (up.0.1, up.1.1))))
      (λ xs ys zs h k. (IsPermutation-trans xs ys zs h.0 k.0, λ up. k.1 (h.1 up)))

-- ---- rows

-- if one row passes a test, it is the one of its rowid
pub by_rowid : (q : Row → Bool) (rows : List Row) → OnceEach rows → (was : Row) → filter q rows ≡ was ∷ [] → (id : ℤ) → rowid was ≡ Int id → filter (λ r. not (q r)) rows ≡ without_rowid id rows
by_rowid q rows once was one id key = filter_alike_on (λ r. not (q r)) (λ r. not (has_rowid id r)) rows (all_from _ rows (λ r k. ap not (go r k (cases_Bool (q r)))))
  where
    only : (r : Row) → Has (was ∷ []) r → r ≡ was
    only r (inl same) = same
    only r (inr never) = absurd never

    there : Has rows was × (q was ≡ true)
    there = has_filtered q rows was (subst (λ l. Has l was) (sym one) (inl refl))

    go : (r : Row) → Has rows r → (q r ≡ true) ⊎ (q r ≡ false) → q r ≡ has_rowid id r
    go r k (inl here) =
        let same = only r (subst (λ l. Has l r) one (has_kept q rows r k here)) in
        here ∙ sym (ap (λ y. is_eq (value_cmp (rowid y) (Int id))) same ∙ ap (λ v. is_eq (value_cmp v (Int id))) key ∙ ap is_eq (tied_itself value_cmp_total (Int id)))
    go r k (inr other) = other ∙ sym (elim (cases_Bool (has_rowid id r)) [
      | inl tie ↦ absurd (let same = once r was k there.0 ((Equal-is _).0 (subst (λ v. is_eq (value_cmp (rowid r) v) ≡ true) (sym key) tie)) in true≢false (sym (ap q same ∙ there.1) ∙ other))
      | inr apart ↦ apart
    ])

free : (id : ℤ) (row : Row) (rows : List Row) → rowid row ≡ Int id → is_taken (without_rowid id rows) row ≡ false
free id row rows key = any_from_none (λ r. is_eq (value_cmp (rowid r) (rowid row))) (without_rowid id rows)
    (all_weaker (λ r. not (has_rowid id r) ≡ true) (λ r. is_eq (value_cmp (rowid r) (rowid row)) ≡ false) (λ r h. ap (λ v. is_eq (value_cmp (rowid r) v)) key ∙ not-true (has_rowid id r) h) (without_rowid id rows)
    (all_kept (λ r. not (has_rowid id r)) rows))

-- ---- tables

module _ {K X : Type 0} (key : X → K) (cells : X → Row) (places : List ℕ) where
  pub reordered : (xs ys : List X) (rows : List Row) → IsPermutation xs ys → Keyed key cells places xs rows → Keyed key cells places ys rows
  reordered xs ys rows same h = record {
    same = IsPermutation-trans _ _ _ (IsPermutation-sym _ _ (IsPermutation-map cells _ _ same)) h.same;
    numbered = h.numbered;
    once = h.once;
    apart = (moves key xs ys same).1 h.apart;
  }

  -- the row of an element
  pub shown : (xs : List X) (rows : List Row) → Keyed key cells places xs rows → (y : X) → Has xs y → (s : Row) × Has rows s × (columns places s ≡ cells y)
  shown xs rows h y there =
      let it = has_mapped (columns places) rows (cells y) (has_moved (map cells xs) (map (columns places) rows) (cells y) h.same (mapped_has cells xs y there)) in
      (it.0, it.1, sym it.2)

  -- what is true of all cells
  pub all_cells : (P : Row → Type 0) → ((x : X) → P (cells x)) → (xs : List X) (rows : List Row) → Keyed key cells places xs rows → AllByRecursion (λ r. P (columns places r)) rows
  all_cells P each xs rows h = all_unmap P (columns places) rows (all-permutation P (map cells xs) (map (columns places) rows) h.same (all-map P cells each xs))

  pub one_more : (x : X) (xs : List X) (r : Row) (rows : List Row) → Keyed key cells places xs rows → columns places r ≡ cells x → IsTrue (is_int (rowid r)) → is_taken rows r ≡ false
      → ((y : X) (s : Row) → Has rows s → columns places s ≡ cells y → key y ≢ key x) → Keyed key cells places (x ∷ xs) (put_row r rows)
  one_more x xs r rows h shows int taken fresh = record {
    same = IsPermutation-trans _ _ _ (IsPermutation-cons (cells x) _ _ h.same) (subst (λ c. IsPermutation (c ∷ map (columns places) rows) (map (columns places) (put_row r rows))) shows (IsPermutation-map (columns places) _ _ (put_permutes r rows taken)));
    numbered = numbered_put r rows int h.numbered;
    once = once_put r rows taken h.once;
    apart = (all_from (λ y. key x ≢ key y) xs (λ y there e. let it = shown xs rows h y there in fresh y it.0 it.1 it.2 (sym e)), h.apart);
  }

  module _ (p : X → Bool) (q test : Row → Bool) (on_cells : (x : X) → test (cells x) ≡ p x) (on_rows : (r : Row) → test (columns places r) ≡ q r) where
    pub picked_rows : (xs : List X) (rows : List Row) → IsPermutation (map cells xs) (map (columns places) rows) → IsPermutation (map cells (filter p xs)) (map (columns places) (filter q rows))
    picked_rows xs rows same = subst (λ l. IsPermutation l (map (columns places) (filter q rows))) (filter-map test cells xs ∙ ap (map cells) (filter_same (λ x. test (cells x)) p on_cells xs))
        (subst (IsPermutation (filter test (map cells xs))) (filter-map test (columns places) rows ∙ ap (map (columns places)) (filter_same (λ r. test (columns places r)) q on_rows rows)) (IsPermutation-filter test _ _ same))

    left_rows : (xs : List X) (rows : List Row) → IsPermutation (map cells xs) (map (columns places) rows) → IsPermutation (map cells (without p xs)) (map (columns places) (filter (λ r. not (q r)) rows))
    left_rows xs rows same = subst (λ l. IsPermutation l (map (columns places) (filter (λ r. not (q r)) rows)))
        (filter-map (λ cs. not (test cs)) cells xs ∙ ap (map cells) (filter_same (λ x. not (test (cells x))) (λ x. not (p x)) (λ x. ap not (on_cells x)) xs))
        (subst (IsPermutation (filter (λ cs. not (test cs)) (map cells xs)))
        (filter-map (λ cs. not (test cs)) (columns places) rows ∙ ap (map (columns places)) (filter_same (λ r. not (test (columns places r))) (λ r. not (q r)) (λ r. ap not (on_rows r)) rows))
        (IsPermutation-filter (λ cs. not (test cs)) _ _ same))

    pub fewer : (xs : List X) (rows : List Row) → Keyed key cells places xs rows → Keyed key cells places (without p xs) (filter (λ r. not (q r)) rows)
    fewer xs rows h = record {
      same = left_rows xs rows h.same;
      numbered = all-filter (λ r. IsTrue (is_int (rowid r))) (λ r. not (q r)) rows h.numbered;
      once = once_left (λ r. not (q r)) rows h.once;
      apart = ascending-filter (λ a b. key a ≢ key b) (λ x. not (p x)) xs h.apart;
    }

    module _ (f : X → X) (same_key : (x : X) → p x ≡ true → key (f x) ≡ key x) where
      kept : (y : X) → key (cond (p y) (f y) y) ≡ key y
      kept y = elim (cases_Bool (p y)) [ inl here ↦ rw here (same_key y here) | inr other ↦ rw other refl ]

      -- one row gives way to another
      pub altered : (xs : List X) (rows : List Row) → Keyed key cells places xs rows → (x : X) → filter p xs ≡ x ∷ [] → (was row : Row) → filter q rows ≡ was ∷ [] → (id : ℤ) → rowid was ≡ Int id → rowid row ≡ Int id
          → columns places row ≡ cells (f x) → Keyed key cells places (alter p f xs) (put_row row (without_rowid id rows))
      altered xs rows h x one was row found id old_key new_key shows =
          let taken = free id row rows new_key in
          let all : IsPermutation (f x ∷ without p xs) (alter p f xs) = subst (λ l. IsPermutation (map f l ++ without p xs) (alter p f xs)) one (changed p f xs) in
          let left : IsPermutation (map cells (without p xs)) (map (columns places) (without_rowid id rows)) = subst (λ rs. IsPermutation (map cells (without p xs)) (map (columns places) rs)) (by_rowid q rows h.once was found id old_key) (left_rows xs rows h.same) in
          let middle : IsPermutation (cells (f x) ∷ map cells (without p xs)) (columns places row ∷ map (columns places) (without_rowid id rows)) =
          subst (λ c. IsPermutation (cells (f x) ∷ map cells (without p xs)) (c ∷ map (columns places) (without_rowid id rows))) (sym shows) (IsPermutation-cons (cells (f x)) _ _ left) in
          record {
            same = IsPermutation-trans _ _ _ (IsPermutation-sym _ _ (IsPermutation-map cells _ _ all)) (IsPermutation-trans _ _ _ middle (IsPermutation-map (columns places) _ _ (put_permutes row (without_rowid id rows) taken)));
            numbered = numbered_put row (without_rowid id rows) (ap is_int new_key) (all-filter (λ r. IsTrue (is_int (rowid r))) (λ r. not (has_rowid id r)) rows h.numbered);
            once = once_put row (without_rowid id rows) taken (once_left (λ r. not (has_rowid id r)) rows h.once);
            apart = ascending-map (λ a b. key a ≢ key b) (λ y. cond (p y) (f y) y) xs (ascending_weaker (λ a b. key a ≢ key b) (λ a b. key (cond (p a) (f a) a) ≢ key (cond (p b) (f b) b)) (λ a b k e. k (sym (kept a) ∙ e ∙ kept b)) xs h.apart);
          }
