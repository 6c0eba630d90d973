-- Rows that are put in their place, in the order of a name.
use Rattle.std.proofs.Common.{◌≡◌, ℕ, List, [], ◌∷◌, ◌++◌, Bool, true, false, not, cond, ◌&&◌, filter, find, map, Some, None, nat_cmp, append_assoc, append-nil, subst, refl, sym, ap, ◌∙◌}
use Rattle.std.specs.declared.cmp.Ordering.{Ordering}
use Rattle.std.specs.declared.cmp.Ordering.TheVariants.{Less, Equal, Greater}
use Rattle.std.specs.Ordering.{is_lt, ordering_reverse}
use Rattle.std.specs.Cmp.Lexicographic.{slice_cmp, bytes_decides}
use Rattle.std.specs.List.{AllByRecursion}
use Rattle.std.proofs.lemmas.Cmp.{nat_list_cmp_total}
use Rattle.std.proofs.lemmas.List.{map-append}
use Rattle.std.proofs.lemmas.List.Elements.{filter-append}
use Rattle.std.proofs.lemmas.Map.Lookups.{exact_bytes}
use Rattle.uu_names.proofs.Basics.{AllPairsByRecursion, all_weaker, later_other, not_before_itself, all_kept, less_is, all_push}
use Rattle.uu_core.specs.State.{same_text}
use Rattle.uu_core.specs.After.{is_before, put_by}
use Rattle.uu_tables.specs.Changes.{alter, without, insert_by}
use Rattle.uu_tables.proofs.OrderLemmas.{before}

-- ---- filters

pub kept_none : {X : Type 0} (p : X → Bool) (xs : List X) → AllByRecursion (λ x. p x ≡ false) xs → filter p xs ≡ []
kept_none p [] h = refl
kept_none p (x ∷ xs) h = rw h.0 (kept_none p xs h.1)

pub kept_all : {X : Type 0} (p : X → Bool) (xs : List X) → AllByRecursion (λ x. p x ≡ true) xs → filter p xs ≡ xs
kept_all p [] h = refl
kept_all p (x ∷ xs) h = rw h.0 (ap (λ l. x ∷ l) (kept_all p xs h.1))

kept_twice : {X : Type 0} (p q r : X → Bool) → ((x : X) → r x ≡ p x && q x) → (xs : List X) → filter q (filter p xs) ≡ filter r xs
kept_twice p q r both [] = refl
kept_twice p q r both (x ∷ xs) = by_test (p x) (both x) (kept_twice p q r both xs)
  where
    keeps : (b : Bool) → q x ≡ b → r x ≡ b → filter q (filter p xs) ≡ filter r xs → cond (q x) (x ∷ filter q (filter p xs)) (filter q (filter p xs)) ≡ cond (r x) (x ∷ filter r xs) (filter r xs)
    keeps true own is rest = rw (own, is) (ap (λ l. x ∷ l) rest)
    keeps false own is rest = rw (own, is) rest

    by_test : (a : Bool) → r x ≡ a && q x → filter q (filter p xs) ≡ filter r xs → filter q (cond a (x ∷ filter p xs) (filter p xs)) ≡ cond (r x) (x ∷ filter r xs) (filter r xs)
    by_test true is rest = keeps (q x) refl is rest
    by_test false is rest = rw is rest

pub kept_mapped : {X Y : Type 0} (f : X → Y) (q : Y → Bool) (xs : List X) → filter q (map f xs) ≡ map f (filter (λ x. q (f x)) xs)
kept_mapped f q [] = refl
kept_mapped f q (x ∷ xs) = by_test (q (f x)) (kept_mapped f q xs)
  where
    by_test : (b : Bool) → filter q (map f xs) ≡ map f (filter (λ x. q (f x)) xs) → cond b (f x ∷ filter q (map f xs)) (filter q (map f xs)) ≡ map f (cond b (x ∷ filter (λ x. q (f x)) xs) (filter (λ x. q (f x)) xs))
    by_test true rest = ap (λ l. f x ∷ l) rest
    by_test false rest = rest

changed_none : {X : Type 0} (p : X → Bool) (c : X → X) (xs : List X) → AllByRecursion (λ x. p x ≡ false) xs → alter p c xs ≡ xs
changed_none p c [] h = refl
changed_none p c (x ∷ xs) h = rw h.0 (ap (λ l. x ∷ l) (changed_none p c xs h.1))

pub found_none : {X : Type 0} (p : X → Bool) (xs : List X) → AllByRecursion (λ x. p x ≡ false) xs → find p xs ≡ None
found_none p [] h = refl
found_none p (x ∷ xs) h = rw h.0 (found_none p xs h.1)

-- ---- an item and others, by their names

abbrev is_same : Ordering → Bool
is_same Less = false
is_same Equal = true
is_same Greater = false

module _ {V : Type 0} (name : V → List ℕ) (item : V) where
  abbrev pub ahead : V → Bool
  ahead other = is_before name other item

  abbrev pub behind : V → Bool
  behind other = is_before name item other

  abbrev pub own : V → Bool
  own other = same_text (name other) (name item)

  turned : (other : V) (r : Ordering) → slice_cmp nat_cmp (name item) (name other) ≡ r → slice_cmp nat_cmp (name other) (name item) ≡ ordering_reverse r
  turned other r e = nat_list_cmp_total.antisymm (name other) (name item) ∙ ap ordering_reverse e

  own_is : (other : V) (r : Ordering) → slice_cmp nat_cmp (name item) (name other) ≡ r → own other ≡ is_same r
  own_is other Less e = later_other (name item) (name other) e
  own_is other Equal e = (bytes_decides (name other) (name item)).1 (sym (exact_bytes (name item) (name other) e))
  own_is other Greater e = by_test (own other) refl
    where
      by_test : (b : Bool) → own other ≡ b → b ≡ false
      by_test false q = refl
      by_test true q = absurd (not_before_itself (name item) (ap (λ n. slice_cmp nat_cmp n (name item)) (sym ((bytes_decides (name other) (name item)).0 q)) ∙ turned other Greater e))

  is_ahead : (other : V) → ahead other ≡ not (own other) && not (behind other)
  is_ahead other = by_order (slice_cmp nat_cmp (name item) (name other)) refl
    where
      by_order : (r : Ordering) → slice_cmp nat_cmp (name item) (name other) ≡ r → ahead other ≡ not (own other) && not (behind other)
      by_order Less e = rw (own_is other Less e, turned other Less e, e) refl
      by_order Equal e = rw (own_is other Equal e, turned other Equal e) refl
      by_order Greater e = rw (own_is other Greater e, turned other Greater e, e) refl

  is_behind : (other : V) → behind other ≡ not (own other) && behind other
  is_behind other = by_order (slice_cmp nat_cmp (name item) (name other)) refl
    where
      by_order : (r : Ordering) → slice_cmp nat_cmp (name item) (name other) ≡ r → behind other ≡ not (own other) && behind other
      by_order Less e = rw (own_is other Less e, e) refl
      by_order Equal e = rw (own_is other Equal e, e) refl
      by_order Greater e = rw (own_is other Greater e, e) refl

  -- those of its name go, and then the item is put in its place
  pub replaced_is_put : (xs : List V) → insert_by name item (without own xs) ≡ put_by name item xs
  replaced_is_put xs = λ i. kept_twice (λ x. not (own x)) (λ x. not (behind x)) ahead is_ahead xs i ++ item ∷ kept_twice (λ x. not (own x)) behind behind is_behind xs i

  -- ---- if the others are in order

  behind_behind : (x y : V) → behind x ≡ true → before name x y → behind y ≡ true
  behind_behind x y e ahead_of = ap is_lt (nat_list_cmp_total.trans (name item) (name x) (name y) (less_is _ e) ahead_of)

  behind_own : (x y : V) → own x ≡ true → before name x y → behind y ≡ true
  behind_own x y e ahead_of = ap is_lt (ap (λ n. slice_cmp nat_cmp n (name y)) (sym ((bytes_decides (name x) (name item)).0 e)) ∙ ahead_of)

  not_ahead : (y : V) → behind y ≡ true → ahead y ≡ false
  not_ahead y e = ap is_lt (turned y Less (less_is _ e))

  not_own : (y : V) → behind y ≡ true → own y ≡ false
  not_own y e = own_is y Less (less_is _ e)

  -- if all others come after it
  module _ (xs : List V) (h : AllByRecursion (λ y. behind y ≡ true) xs) where
    none_ahead : filter ahead xs ≡ []
    none_ahead = kept_none ahead xs (all_weaker (λ y. behind y ≡ true) (λ y. ahead y ≡ false) not_ahead xs h)

    all_behind : filter behind xs ≡ xs
    all_behind = kept_all behind xs h

    none_own : AllByRecursion (λ y. own y ≡ false) xs
    none_own = all_weaker (λ y. behind y ≡ true) (λ y. own y ≡ false) not_own xs h

  -- those of other names are those before and those after
  pub others_are : (xs : List V) → AllPairsByRecursion (before name) xs → without own xs ≡ filter ahead xs ++ filter behind xs
  others_are [] h = refl
  others_are (x ∷ xs) h = by_order (slice_cmp nat_cmp (name item) (name x)) refl (others_are xs h.1)
    where
      by_order : (r : Ordering) → slice_cmp nat_cmp (name item) (name x) ≡ r → without own xs ≡ filter ahead xs ++ filter behind xs → without own (x ∷ xs) ≡ filter ahead (x ∷ xs) ++ filter behind (x ∷ xs)
      by_order Less e rest =
          let all = all_weaker (before name x) (λ y. behind y ≡ true) (λ y. behind_behind x y (ap is_lt e)) xs h.0 in
          rw (own_is x Less e, turned x Less e, e) (ap (λ l. x ∷ l) (rest ∙ ap (λ l. l ++ filter behind xs) (none_ahead xs all)) ∙ ap (λ l. l ++ x ∷ filter behind xs) (sym (none_ahead xs all)))
      by_order Equal e rest = rw (own_is x Equal e, turned x Equal e, e) rest
      by_order Greater e rest = rw (own_is x Greater e, turned x Greater e, e) (ap (λ l. x ∷ l) rest)

  -- the one of its name is changed in its place, between those before and those after
  pub changed_is : (c : V → V) (row : V) (xs : List V) → AllPairsByRecursion (before name) xs → find own xs ≡ Some row → alter own c xs ≡ filter ahead xs ++ c row ∷ filter behind xs
  changed_is c row [] h found = absurd (cc)
  changed_is c row (x ∷ xs) h found = by_order (slice_cmp nat_cmp (name item) (name x)) refl found (changed_is c row xs h.1)
    where
      by_order : (r : Ordering) → slice_cmp nat_cmp (name item) (name x) ≡ r → cond (own x) (Some x) (find own xs) ≡ Some row → (find own xs ≡ Some row → alter own c xs ≡ filter ahead xs ++ c row ∷ filter behind xs) → alter own c (x ∷ xs) ≡ filter ahead (x ∷ xs) ++ c row ∷ filter behind (x ∷ xs)
      by_order Less e is rest =
          let all = all_weaker (before name x) (λ y. behind y ≡ true) (λ y. behind_behind x y (ap is_lt e)) xs h.0 in
          absurd (apart (sym (found_none own xs (none_own xs all)) ∙ (rw (own_is x Less e) at is)))
        where
          apart : None ≡ Some row → ⊥
          apart q = cc
      by_order Equal e is rest =
          let mine : own x ≡ true = own_is x Equal e in
          let all = all_weaker (before name x) (λ y. behind y ≡ true) (λ y. behind_own x y mine) xs h.0 in
          let same : Some x ≡ Some row = ap (λ b. cond b (Some x) (find own xs)) (sym mine) ∙ is in
          let it : x ≡ row = inside same in
          rw (mine, turned x Equal e, e) (ap (λ r. c r ∷ alter own c xs) it ∙ ap (λ l. c row ∷ l) (changed_none own c xs (none_own xs all) ∙ sym (all_behind xs all)) ∙ ap (λ l. l ++ c row ∷ filter behind xs) (sym (none_ahead xs all)))
        where
          inside : Some x ≡ Some row → x ≡ row
          inside q = cc
      by_order Greater e is rest = rw (own_is x Greater e, turned x Greater e, e) (ap (λ l. x ∷ l) (rest (rw (own_is x Greater e) at is)))

-- whether a name comes after the key
abbrev pub is_behind_key : List ℕ → List ℕ → Bool
is_behind_key key other = is_lt (slice_cmp nat_cmp key other)

pub kept_ahead : {V : Type 0} (name : V → List ℕ) (item : V) (xs : List V) → AllByRecursion (λ x. is_behind_key (name item) (name x) ≡ false) (filter (ahead name item) xs)
kept_ahead name item xs = all_weaker (λ x. ahead name item x ≡ true) (λ x. is_behind_key (name item) (name x) ≡ false) (λ x e. turned_false x e) (filter (ahead name item) xs) (all_kept (ahead name item) xs)
  where
    turned_false : (x : _) → ahead name item x ≡ true → is_behind_key (name item) (name x) ≡ false
    turned_false x e = not_ahead name x item e

pub kept_behind : {V : Type 0} (name : V → List ℕ) (item : V) (xs : List V) → AllByRecursion (λ x. is_behind_key (name item) (name x) ≡ true) (filter (behind name item) xs)
kept_behind name item xs = all_kept (behind name item) xs

-- ---- rows that are put between others

-- put in before or after they are written as rows
pub inserted_mapped : {X Y : Type 0} (f : X → Y) (name : Y → List ℕ) (item : X) (xs : List X) → insert_by name (f item) (map f xs) ≡ map f (insert_by (λ x. name (f x)) item xs)
inserted_mapped f name item xs =
    (λ i. kept_mapped f (λ y. not (is_before name (f item) y)) xs i ++ f item ∷ kept_mapped f (λ y. is_before name (f item) y) xs i)
    ∙ sym (map-append f (filter (λ x. not (is_before name (f item) (f x))) xs) (item ∷ filter (λ x. is_before name (f item) (f x)) xs))

not_behind_itself : (key : List ℕ) → is_behind_key key key ≡ false
not_behind_itself key = by_test (slice_cmp nat_cmp key key) refl
  where
    by_test : (r : Ordering) → slice_cmp nat_cmp key key ≡ r → is_lt r ≡ false
    by_test Less e = absurd (not_before_itself key e)
    by_test Equal e = refl
    by_test Greater e = refl

-- rows that are added one after the other
abbrev pub insert_each : {V : Type 0} → (V → List ℕ) → List V → List V → List V
insert_each name [] rows = rows
insert_each name (row ∷ more) rows = insert_each name more (insert_by name row rows)

module _ {V : Type 0} (name : V → List ℕ) (key : List ℕ) where
  one_between : (row : V) (front back : List V) → name row ≡ key → AllByRecursion (λ x. is_behind_key key (name x) ≡ false) front → AllByRecursion (λ x. is_behind_key key (name x) ≡ true) back → insert_by name row (front ++ back) ≡ front ++ row ∷ back
  one_between row front back is low high = λ i. first i ++ row ∷ second i
    where
      b : V → Bool
      b x = is_before name row x

      below : AllByRecursion (λ x. b x ≡ false) front
      below = subst (λ k. AllByRecursion (λ x. is_behind_key k (name x) ≡ false) front) (sym is) low

      above : AllByRecursion (λ x. b x ≡ true) back
      above = subst (λ k. AllByRecursion (λ x. is_behind_key k (name x) ≡ true) back) (sym is) high

      first : filter (λ x. not (b x)) (front ++ back) ≡ front
      first = filter-append (λ x. not (b x)) front back
          ∙ ap (λ l. l ++ filter (λ x. not (b x)) back) (kept_all (λ x. not (b x)) front (all_weaker (λ x. b x ≡ false) (λ x. not (b x) ≡ true) (λ x e. ap not e) front below))
          ∙ ap (λ l. front ++ l) (kept_none (λ x. not (b x)) back (all_weaker (λ x. b x ≡ true) (λ x. not (b x) ≡ false) (λ x e. ap not e) back above))
          ∙ append-nil front

      second : filter b (front ++ back) ≡ back
      second = filter-append b front back ∙ ap (λ l. l ++ filter b back) (kept_none b front below) ∙ kept_all b back above

  pub each_between : (rows front back : List V) → AllByRecursion (λ r. name r ≡ key) rows → AllByRecursion (λ x. is_behind_key key (name x) ≡ false) front → AllByRecursion (λ x. is_behind_key key (name x) ≡ true) back → insert_each name rows (front ++ back) ≡ front ++ (rows ++ back)
  each_between [] front back is low high = refl
  each_between (row ∷ rows) front back is low high =
      ap (insert_each name rows) (one_between row front back is.0 low high ∙ sym (append_assoc front (row ∷ []) back))
      ∙ each_between rows (front ++ row ∷ []) back is.1 (all_push (λ x. is_behind_key key (name x) ≡ false) front row low (rw is.0 (not_behind_itself key))) high
      ∙ append_assoc front (row ∷ []) (rows ++ back)
