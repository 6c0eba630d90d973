-- Lists of rows: changed, filtered, and made of several lists.
use Rattle.std.proofs.Common.{◌≡◌, List, [], ◌∷◌, ◌++◌, Bool, true, false, not, cond, filter, ◌||◌, map, inl, inr, refl, sym, ap, ◌∙◌}
use Rattle.std.specs.List.{AllByRecursion, flat_map}
use Rattle.std.proofs.lemmas.Bool.{cases_Bool}
use Rattle.std.proofs.lemmas.List.Elements.{filter-append}
use Rattle.uu_tables.specs.Changes.{alter, without}

-- changed before or after they are written as rows
pub altered : {X Y : Type 0} (f : X → Y) (p : X → Bool) (q : Y → Bool) (c : X → X) (d : Y → Y) → ((x : X) → q (f x) ≡ p x) → ((x : X) → f (c x) ≡ d (f x)) → (xs : List X) → alter q d (map f xs) ≡ map f (alter p c xs)
altered f p q c d test same [] = refl
altered f p q c d test same (x ∷ xs) = λ i. one i ∷ altered f p q c d test same xs i
  where
    go : (b : Bool) → cond b (d (f x)) (f x) ≡ f (cond b (c x) x)
    go true = sym (same x)
    go false = refl

    one : cond (q (f x)) (d (f x)) (f x) ≡ f (cond (p x) (c x) x)
    one = rw (test x) (go (p x))

-- gone before or after they are written as rows
pub dropped : {X Y : Type 0} (f : X → Y) (p : X → Bool) (q : Y → Bool) → ((x : X) → q (f x) ≡ p x) → (xs : List X) → without q (map f xs) ≡ map f (without p xs)
dropped f p q test [] = refl
dropped f p q test (x ∷ xs) = elim (cases_Bool (p x)) [
  | inl here ↦ rw (test x, here) (dropped f p q test xs)
  | inr other ↦ rw (test x, other) (ap (λ l. f x ∷ l) (dropped f p q test xs))
]

-- rows that all pass a test, or none
pub all_go : {Y : Type 0} (q : Y → Bool) (ys : List Y) → AllByRecursion (λ y. q y ≡ true) ys → without q ys ≡ []
all_go q [] h = refl
all_go q (y ∷ ys) h = rw h.0 (all_go q ys h.1)

pub none_go : {Y : Type 0} (q : Y → Bool) (ys : List Y) → AllByRecursion (λ y. q y ≡ false) ys → without q ys ≡ ys
none_go q [] h = refl
none_go q (y ∷ ys) h = rw h.0 (ap (λ l. y ∷ l) (none_go q ys h.1))

-- if the rows of each item are removed exactly when the item is
pub dropped_with : {X Y : Type 0} (f : X → List Y) (p : X → Bool) (q : Y → Bool) → ((x : X) → AllByRecursion (λ y. q y ≡ p x) (f x)) → (xs : List X) → without q (flat_map f xs) ≡ flat_map f (without p xs)
dropped_with f p q test [] = refl
dropped_with f p q test (x ∷ xs) = filter-append (λ y. not (q y)) (f x) (flat_map f xs) ∙ by_test (p x) (test x) (dropped_with f p q test xs)
  where
    by_test : (b : Bool) → AllByRecursion (λ y. q y ≡ b) (f x) → without q (flat_map f xs) ≡ flat_map f (without p xs) → without q (f x) ++ without q (flat_map f xs) ≡ flat_map f (cond (not b) (x ∷ without p xs) (without p xs))
    by_test true h rest = rw (all_go q (f x) h) rest
    by_test false h rest = rw (none_go q (f x) h) (ap (λ l. f x ++ l) rest)

-- if a change of an item leaves its row
pub same_rows : {X Y : Type 0} (f : X → Y) (p : X → Bool) (c : X → X) → ((x : X) → f (c x) ≡ f x) → (xs : List X) → map f xs ≡ map f (alter p c xs)
same_rows f p c same [] = refl
same_rows f p c same (x ∷ xs) = λ i. one (p x) i ∷ same_rows f p c same xs i
  where
    one : (b : Bool) → f x ≡ f (cond b (c x) x)
    one true = sym (same x)
    one false = refl

-- what each row made by a function has
pub each_made : {X Y : Type 0} (P : Y → Type 0) (f : X → Y) → ((x : X) → P (f x)) → (xs : List X) → AllByRecursion P (map f xs)
each_made P f h [] = tt
each_made P f h (x ∷ xs) = (h x, each_made P f h xs)

-- gone by one test and then by another
pub gone_twice : {X : Type 0} (p q r : X → Bool) → ((x : X) → r x ≡ p x || q x) → (xs : List X) → without q (without p xs) ≡ without r xs
gone_twice p q r either [] = refl
gone_twice p q r either (x ∷ xs) = by_test (p x) (either x) (gone_twice p q r either xs)
  where
    keeps : (b : Bool) → q x ≡ b → r x ≡ b → without q (without p xs) ≡ without r xs → cond (not (q x)) (x ∷ without q (without p xs)) (without q (without p xs)) ≡ cond (not (r x)) (x ∷ without r xs) (without r xs)
    keeps true own is rest = rw (own, is) rest
    keeps false own is rest = rw (own, is) (ap (λ l. x ∷ l) rest)

    by_test : (a : Bool) → r x ≡ a || q x → without q (without p xs) ≡ without r xs → filter (λ y. not (q y)) (cond (not a) (x ∷ without p xs) (without p xs)) ≡ cond (not (r x)) (x ∷ without r xs) (without r xs)
    by_test true is rest = rw is rest
    by_test false is rest = keeps (q x) refl is rest

pub none_gone : {X : Type 0} (xs : List X) → without (λ x. false) xs ≡ xs
none_gone [] = refl
none_gone (x ∷ xs) = ap (λ l. x ∷ l) (none_gone xs)
