-- Basic lemmas that several crates cite and std lacks.
use Rattle.std.proofs.Common.{◌≡◌, ℕ, zero, suc, ◌+◌, ◌<◌, ◌≤◌, ◌==◌, ℤ, pos, ◌<ℤ◌, int_lt, nat_lt, leb, max, fold, option_and_then, option_map, ◌&&◌, ◌||◌, ◌⊎◌, inl, inr, Bool, true, false, cond, List, [], ◌∷◌, ◌++◌, length, map, filter, take, get_or, All, AllPairs, Contains, Option, Some, None, IfSome, is_some, Ordering, Less, Equal, Greater, nat_eq, refl, sym, ap, ap₂, subst, ◌∙◌, arith}
use Rattle.std.specs.Prelude.{find}
use Rattle.std.specs.Ordering.{is_eq, is_lt, int_cmp, int_eq, nat_cmp, ordering_reverse, MatchOrdering}
use Rattle.std.specs.Cmp.{ranked, nat_cmp_is, int_cmp_is, unsigned_tied}
use Rattle.std.specs.Cmp.Lexicographic.{bytes_decides, pointwise, slice_cmp}
use Rattle.std.specs.List.{reduce, AllByRecursion, flat_map, list_all, list_any, onto_first, prefix_len, slice_split}
use Rattle.std.specs.Str.Lines.{lines_of_parts, strip_carriage_return}
use Rattle.std.proofs.Math.Bool.{or-false, or_assoc}
use Rattle.std.proofs.lemmas.Bool.{and_from, and_parts, both_ways, eqb-true, ne_eqb, false_from_ne_true}
use Rattle.std.proofs.lemmas.Bool.Decides.{nat_tests, Decides-below_and}
use Rattle.std.proofs.lemmas.Cmp.{nat_list_cmp_total}
use Rattle.std.proofs.lemmas.Int.{ints}
use Rattle.std.proofs.lemmas.List.{length-append, get_or_append_left, take_all, take_more}
use Rattle.std.proofs.lemmas.List.Elements.{All-nil, All-cons, All-head, All-tail, All-more, All-contains, All-contains_itself, Contains-append_left, recursion_from_All}
use Rattle.std.proofs.lemmas.List.Folds.{list_all-append}
use Rattle.uu_names.specs.Name.{is_site_byte, is_word_byte}

-- ---- tests

pub and_first : (a b : Bool) → (a && b) ≡ true → a ≡ true
and_first a b e = (and_parts a b e).0

pub and_second : (a b : Bool) → (a && b) ≡ true → b ≡ true
and_second a b e = (and_parts a b e).1

pub cond_none : {X : Type 0} (t : Bool) (x : X) (o : Option X) → cond t (Some x) o ≡ None → (t ≡ false) × (o ≡ None)
cond_none true x o e = absurd (cc)
cond_none false x o e = (refl, e)

pub less_is : (o : Ordering) → is_lt o ≡ true → o ≡ Less
less_is Less e = refl
less_is Equal e = absurd (cc)
less_is Greater e = absurd (cc)

pub is_eq-ordering_reverse : (o : Ordering) → is_eq (ordering_reverse o) ≡ is_eq o
is_eq-ordering_reverse Less = refl
is_eq-ordering_reverse Equal = refl
is_eq-ordering_reverse Greater = refl

-- ---- tests of numbers

pub lt-nat_cmp : (a b : ℕ) → a < b → nat_cmp a b ≡ Less
lt-nat_cmp a b h = sym (nat_cmp_is a b Less h)

pub lt-eqb : (a b : ℕ) → a < b → (a == b) ≡ false
lt-eqb a b h = ne_eqb a b (λ e. omega (arith, h, e))

pub is_lt-nat_cmp : (a b : ℕ) → is_lt (nat_cmp a b) ≡ nat_lt a b
is_lt-nat_cmp a b = grind (arith, nat_tests)

pub lt-int_lt : (a b : ℤ) → a <ℤ b → int_lt a b ≡ true
lt-int_lt a b h = grind (arith, ints)

-- integers that are not negative compare as natural numbers do
pub int_cmp-pos : (a b : ℕ) → int_cmp (pos a) (pos b) ≡ nat_cmp a b
int_cmp-pos a b = sym (int_cmp_is (pos a) (pos b) (nat_cmp a b) (compared (nat_cmp a b) (ranked a b (nat_cmp a b) refl)))
  where
    compared : (o : Ordering) → MatchOrdering o (a < b) (a ≡ b) (b < a) → MatchOrdering o (pos a <ℤ pos b) (pos a ≡ pos b) (pos b <ℤ pos a)
    compared Less h = omega (arith, ints, h)
    compared Equal h = ap pos h
    compared Greater h = omega (arith, ints, h)

pub int_eq-pos : (a b : ℕ) → int_eq (pos a) (pos b) ≡ (a == b)
int_eq-pos a b = ap is_eq (int_cmp-pos a b) ∙ unsigned_tied a b

pub int_lt-pos : (a b : ℕ) → int_lt (pos a) (pos b) ≡ nat_lt a b
int_lt-pos a b = grind (arith, ints, nat_tests)

pub leb-fold_max : (n m : ℕ) (xs : List ℕ) → leb n (fold max m xs) ≡ (leb n m || list_any (leb n) xs)
leb-fold_max n m [] = sym (or-false (leb n m))
leb-fold_max n m (x ∷ xs) = leb-fold_max n (max m x) xs ∙ ap (λ b. b || list_any (leb n) xs) greater ∙ or_assoc (leb n m) (leb n x) (list_any (leb n) xs)
  where
    greater : leb n (max m x) ≡ (leb n m || leb n x)
    greater = grind (arith, nat_tests)

-- a test of the greatest number, which passes up to it
pub any_from_reduce_max : (n : ℕ) (test : Option ℕ → Bool) → test None ≡ false → ((m : ℕ) → test (Some m) ≡ leb n m) → (xs : List ℕ) → test (reduce max xs) ≡ list_any (leb n) xs
any_from_reduce_max n test none some [] = none
any_from_reduce_max n test none some (x ∷ xs) = some (fold max x xs) ∙ leb-fold_max n x xs

-- two numbers that differ are not both a third
pub not_both_equal : (a b n : ℕ) → (a ≡ b → ⊥) → (a == n) ≡ true → (b == n) ≡ true → ⊥
not_both_equal a b n apart e f = apart (eqb-true a n e ∙ sym (eqb-true b n f))

-- a test at each number below one, which computes
abbrev pub all_below : (ℕ → Bool) → ℕ → Bool
all_below p zero = true
all_below p (suc n) = p n && all_below p n

pub all_below-at : (p : ℕ → Bool) (n : ℕ) → all_below p n ≡ true → (k : ℕ) → k < n → p k ≡ true
all_below-at p n h = (Decides-below_and p (λ k. p k ≡ true) (all_below p) (λ k. (λ e. e, λ e. e)) refl (λ _. refl) n).0 h

-- ---- bytes of words and of names of sites

pub word_byte_below : (b : ℕ) → is_word_byte b ≡ true → b < 128
word_byte_below b h = grind (arith, nat_tests)

pub word_from_site : (b : ℕ) → is_site_byte b ≡ true → is_word_byte b ≡ true
word_from_site b h = grind (arith, nat_tests)

-- ---- texts, and the order of their bytes

pub text_from : (a b : List ℕ) → pointwise nat_eq a b ≡ true → a ≡ b
text_from a b e = (bytes_decides a b).0 e

pub text_to : (a : List ℕ) → pointwise nat_eq a a ≡ true
text_to a = (bytes_decides a a).1 refl

pub not_before_itself : (a : List ℕ) → slice_cmp nat_cmp a a ≡ Less → ⊥
not_before_itself a e = apart (sym e ∙ nat_list_cmp_total.antisymm a a ∙ ap ordering_reverse e)
  where
    apart : Less ≡ Greater → ⊥
    apart q = cc

pub before_differs : (a b : List ℕ) → slice_cmp nat_cmp a b ≡ Less → a ≡ b → ⊥
before_differs a b h e = not_before_itself a (subst (λ t. slice_cmp nat_cmp a t ≡ Less) (sym e) h)

pub earlier_other : (a b : List ℕ) → slice_cmp nat_cmp a b ≡ Less → pointwise nat_eq a b ≡ false
earlier_other a b h = false_from_ne_true (pointwise nat_eq a b) (λ e. before_differs a b h (text_from a b e))

pub later_other : (a b : List ℕ) → slice_cmp nat_cmp a b ≡ Less → pointwise nat_eq b a ≡ false
later_other a b h = false_from_ne_true (pointwise nat_eq b a) (λ e. before_differs a b h (sym (text_from b a e)))

-- ---- tests of lists

pub list_all_weaker : {X : Type 0} (p q : X → Bool) (xs : List X) → ((x : X) → p x ≡ true → q x ≡ true) → list_all p xs ≡ true → list_all q xs ≡ true
list_all_weaker p q [] h e = refl
list_all_weaker p q (x ∷ xs) h e =
    let parts = and_parts (p x) (list_all p xs) e in and_from (q x) (list_all q xs) (h x parts.0) (list_all_weaker p q xs h parts.1)

pub list_all_both : {X : Type 0} (p : X → Bool) (xs ys : List X) → list_all p xs ≡ true → list_all p ys ≡ true → list_all p (xs ++ ys) ≡ true
list_all_both p xs ys h k = list_all-append p xs ys ∙ and_from (list_all p xs) (list_all p ys) h k

-- the longest front that passes
pub front_passes : {X : Type 0} (p : X → Bool) (xs : List X) → list_all p (take (prefix_len p xs) xs) ≡ true
front_passes p [] = refl
front_passes p (x ∷ xs) = by_test (p x) refl (front_passes p xs)
  where
    by_test : (t : Bool) → p x ≡ t → list_all p (take (prefix_len p xs) xs) ≡ true → list_all p (take (cond t (1 + prefix_len p xs) 0) (x ∷ xs)) ≡ true
    by_test true is again = let n : 1 + prefix_len p xs ≡ suc (prefix_len p xs) = omega arith in rw (n, is, again)
    by_test false is again = refl

pub any_push : {X : Type 0} (p : X → Bool) (xs : List X) (x : X) → list_any p (xs ++ x ∷ []) ≡ (list_any p xs || p x)
any_push p [] x = or-false (p x)
any_push p (y ∷ xs) x = ap (λ b. p y || b) (any_push p xs x) ∙ sym (or_assoc (p y) (list_any p xs) (p x))

pub any_mapped : {X Y : Type 0} (p : Y → Bool) (f : X → Y) (xs : List X) → list_any p (map f xs) ≡ list_any (λ x. p (f x)) xs
any_mapped p f [] = refl
any_mapped p f (x ∷ xs) = ap (λ b. p (f x) || b) (any_mapped p f xs)

-- what each element has, the one that is found has
pub found_has : {X : Type 0} (P : X → Type 0) (p : X → Bool) (xs : List X) → All P xs → IfSome (find p xs) P
found_has P p [] h = tt
found_has P p (x ∷ xs) h = by_test (p x) (found_has P p xs (All-tail P x xs h))
  where
    by_test : (t : Bool) → IfSome (find p xs) P → IfSome (cond t (Some x) (find p xs)) P
    by_test true rest = All-head P x xs h
    by_test false rest = rest

pub and_then_has : {X Y : Type 0} (P : Y → Type 0) (f : X → Option Y) → ((x : X) → IfSome (f x) P) → (o : Option X) → IfSome (option_and_then f o) P
and_then_has P f each None = tt
and_then_has P f each (Some x) = each x

pub find_same : {X : Type 0} (p q : X → Bool) → ((x : X) → p x ≡ q x) → (xs : List X) → find p xs ≡ find q xs
find_same p q same [] = refl
find_same p q same (x ∷ xs) = ap₂ (λ b rest. cond b (Some x) rest) (same x) (find_same p q same xs)

pub find_any : {X : Type 0} (p : X → Bool) (xs : List X) (x : X) → find p xs ≡ Some x → list_any p xs ≡ true
find_any p [] x e = absurd (cc)
find_any p (y ∷ xs) x e = by_test (p y) e (find_any p xs x)
  where
    by_test : (t : Bool) → cond t (Some y) (find p xs) ≡ Some x → (find p xs ≡ Some x → list_any p xs ≡ true) → (t || list_any p xs) ≡ true
    by_test true is rest = refl
    by_test false is rest = rest is

pub find_none : {X : Type 0} (p : X → Bool) (xs : List X) → find p xs ≡ None → list_any p xs ≡ false
find_none p [] e = refl
find_none p (y ∷ xs) e = by_test (p y) e (find_none p xs)
  where
    by_test : (t : Bool) → cond t (Some y) (find p xs) ≡ None → (find p xs ≡ None → list_any p xs ≡ false) → (t || list_any p xs) ≡ false
    by_test true is rest = absurd (cc)
    by_test false is rest = rest is

pub find-map : {X Y : Type 0} (p : Y → Bool) (f : X → Y) (xs : List X) → find p (map f xs) ≡ option_map f (find (λ x. p (f x)) xs)
find-map p f [] = refl
find-map p f (x ∷ xs) = elim (p (f x)) as (λ b. cond b (Some (f x)) (find p (map f xs)) ≡ option_map f (cond b (Some x) (find (λ x. p (f x)) xs))) [ true ↦ refl | false ↦ find-map p f xs ]

-- whether one is found
pub is_some-find : {X : Type 0} (p : X → Bool) (xs : List X) → is_some (find p xs) ≡ list_any p xs
is_some-find p [] = refl
is_some-find p (x ∷ xs) = by_test (p x) (is_some-find p xs)
  where
    by_test : (t : Bool) → is_some (find p xs) ≡ list_any p xs → is_some (cond t (Some x) (find p xs)) ≡ (t || list_any p xs)
    by_test true rest = refl
    by_test false rest = rest

-- ---- elements

pub none_in : {X : Type 0} (y : X) → Contains [] y → ⊥
none_in y h = omega (arith, h.1)

pub first_of : {X : Type 0} (x : X) (xs : List X) → Contains (x ∷ xs) x
first_of x xs = (0, omega arith, refl)

pub later_of : {X : Type 0} (x y : X) (xs : List X) → Contains xs y → Contains (x ∷ xs) y
later_of x y xs h = (suc h.0, omega (arith, h.1), h.2)

pub first_or_later : {X : Type 0} (x y : X) (xs : List X) → Contains (x ∷ xs) y → (x ≡ y) ⊎ Contains xs y
first_or_later x y xs h = by_place h.0 h.1 h.2
  where
    by_place : (k : ℕ) → k < length (x ∷ xs) → get_or (x ∷ xs) k y ≡ y → (x ≡ y) ⊎ Contains xs y
    by_place zero l e = inl e
    by_place (suc k) l e = inr (k, omega arith, e)

pub in_one : {X : Type 0} (x y : X) → Contains (x ∷ []) y → x ≡ y
in_one x y h = elim (first_or_later x y [] h) [ inl same ↦ same | inr later ↦ absurd (none_in y later) ]

pub in_append : {X : Type 0} (all xs ys : List X) (x : X) → all ≡ xs ++ ys → Contains xs x → Contains all x
in_append all xs ys x is there = subst (λ l. Contains l x) (sym is) (Contains-append_left xs ys x there)

pub in_filter : {X : Type 0} (p : X → Bool) (xs : List X) (x : X) → Contains xs x → p x ≡ true → Contains (filter p xs) x
in_filter p [] x h e = absurd (none_in x h)
in_filter p (y ∷ xs) x h e = by_test (p y) refl (first_or_later y x xs h) (λ later. in_filter p xs x later e)
  where
    by_test : (t : Bool) → p y ≡ t → (y ≡ x) ⊎ Contains xs x → (Contains xs x → Contains (filter p xs) x) → Contains (cond t (y ∷ filter p xs) (filter p xs)) x
    by_test true f (inl same) again = rw (← same) (first_of y (filter p xs))
    by_test true f (inr later) again = later_of y x (filter p xs) (again later)
    by_test false f (inl same) again = absurd (both_ways (p y) f (ap p same ∙ e))
    by_test false f (inr later) again = again later

pub from_filter : {X : Type 0} (p : X → Bool) (xs : List X) (x : X) → Contains (filter p xs) x → Contains xs x × (p x ≡ true)
from_filter p [] x h = absurd (none_in x h)
from_filter p (y ∷ xs) x h = by_test (p y) refl h (from_filter p xs x)
  where
    by_test : (t : Bool) → p y ≡ t → Contains (cond t (y ∷ filter p xs) (filter p xs)) x → (Contains (filter p xs) x → Contains xs x × (p x ≡ true)) → Contains (y ∷ xs) x × (p x ≡ true)
    by_test true f h again = elim (first_or_later y x (filter p xs) h) [
      | inl same ↦ (rw same (first_of x xs), ap p (sym same) ∙ f)
      | inr later ↦ let r = again later in (later_of y x xs r.0, r.1)
    ]
    by_test false f h again = let r = again h in (later_of y x xs r.0, r.1)

pub in_map : {X Y : Type 0} (f : X → Y) (xs : List X) (x : X) → Contains xs x → Contains (map f xs) (f x)
in_map f [] x h = absurd (none_in x h)
in_map f (y ∷ xs) x h = elim (first_or_later y x xs h) [
  | inl same ↦ rw (← same) (first_of (f y) (map f xs))
  | inr later ↦ later_of (f y) (f x) (map f xs) (in_map f xs x later)
]

pub from_map : {X Y : Type 0} (f : X → Y) (xs : List X) (y : Y) → Contains (map f xs) y → (x : X) × Contains xs x × (f x ≡ y)
from_map f [] y h = absurd (none_in y h)
from_map f (x ∷ xs) y h = elim (first_or_later (f x) y (map f xs) h) [
  | inl same ↦ (x, first_of x xs, same)
  | inr later ↦ let r = from_map f xs y later in (r.0, later_of x r.0 xs r.1, r.2)
]

-- what is found is there, and passes
pub find_there : {X : Type 0} (p : X → Bool) (xs : List X) (x : X) → find p xs ≡ Some x → Contains xs x × (p x ≡ true)
find_there p [] x e = absurd (cc)
find_there {X} p (y ∷ xs) x e = by_test (p y) refl e (find_there p xs x)
  where
    by_test : (t : Bool) → p y ≡ t → cond t (Some y) (find p xs) ≡ Some x → (find p xs ≡ Some x → Contains xs x × (p x ≡ true)) → Contains (y ∷ xs) x × (p x ≡ true)
    by_test true f e again = let same : y ≡ x = cc in (subst (Contains (y ∷ xs)) same (first_of y xs), ap p (sym same) ∙ f)
    by_test false f e again = let r = again e in (later_of y x xs r.0, r.1)

pub all_pass : {X : Type 0} (p : X → Bool) (xs : List X) → ((x : X) → Contains xs x → p x ≡ true) → list_all p xs ≡ true
all_pass p [] h = refl
all_pass p (x ∷ xs) h = rw (h x (first_of x xs)) (all_pass p xs (λ y there. h y (later_of x y xs there)))

pub some_passes : {X : Type 0} (p : X → Bool) (xs : List X) (x : X) → Contains xs x → p x ≡ true → list_any p xs ≡ true
some_passes p [] x h e = absurd (none_in x h)
some_passes p (y ∷ xs) x h e = by_test (p y) refl (first_or_later y x xs h) (λ later. some_passes p xs x later e)
  where
    by_test : (t : Bool) → p y ≡ t → (y ≡ x) ⊎ Contains xs x → (Contains xs x → list_any p xs ≡ true) → (t || list_any p xs) ≡ true
    by_test true f h again = refl
    by_test false f (inl same) again = absurd (both_ways (p y) f (ap p same ∙ e))
    by_test false f (inr later) again = again later

pub passing_one : {X : Type 0} (p : X → Bool) (xs : List X) → list_any p xs ≡ true → (x : X) × Contains xs x × (p x ≡ true)
passing_one p [] e = absurd (cc)
passing_one p (y ∷ xs) e = by_test (p y) refl e (passing_one p xs)
  where
    by_test : (t : Bool) → p y ≡ t → (t || list_any p xs) ≡ true → (list_any p xs ≡ true → (x : _) × Contains xs x × (p x ≡ true)) → (x : _) × Contains (y ∷ xs) x × (p x ≡ true)
    by_test true f e again = (y, first_of y xs, f)
    by_test false f e again = let r = again e in (r.0, later_of y r.0 xs r.1, r.2)

-- all fail the test, or one passes
pub all_or_one : {X : Type 0} (p : X → Bool) (xs : List X) → All (λ x. p x ≡ false) xs ⊎ ((x : X) × Contains xs x × (p x ≡ true))
all_or_one p [] = inl (All-nil (λ x. p x ≡ false))
all_or_one {X} p (x ∷ xs) = by_test (p x) refl (all_or_one p xs)
  where
    by_test : (t : Bool) → p x ≡ t → All (λ x. p x ≡ false) xs ⊎ ((y : X) × Contains xs y × (p y ≡ true)) → All (λ x. p x ≡ false) (x ∷ xs) ⊎ ((y : X) × Contains (x ∷ xs) y × (p y ≡ true))
    by_test true is rest = inr (x, first_of x xs, is)
    by_test false is (inl none) = inl (All-cons (λ x. p x ≡ false) x xs is none)
    by_test false is (inr one) = inr (one.0, later_of x one.0 xs one.1, one.2)

pub one_mapped : {X Y : Type 0} (f : X → Y) (xs : List X) (y : Y) → map f xs ≡ y ∷ [] → (x : X) × (xs ≡ x ∷ []) × (f x ≡ y)
one_mapped f [] y h = absurd (cc)
one_mapped f (x ∷ []) y h = (x, refl, cc)
one_mapped f (x ∷ z ∷ xs) y h = absurd (cc)

pub filter_all : {X : Type 0} (xs : List X) → filter (λ x. true) xs ≡ xs
filter_all [] = refl
filter_all (x ∷ xs) = ap (λ l. x ∷ l) (filter_all xs)

pub filter_passing : {X : Type 0} (p : X → Bool) (xs : List X) → All (λ x. p x ≡ true) xs → filter p xs ≡ xs
filter_passing p [] h = refl
filter_passing p (x ∷ xs) h =
    ap (λ t. cond t (x ∷ filter p xs) (filter p xs)) (All-head (λ y. p y ≡ true) x xs h) ∙ ap (λ l. x ∷ l) (filter_passing p xs (All-tail (λ y. p y ≡ true) x xs h))

pub filter_none : {X : Type 0} (p : X → Bool) (xs : List X) → All (λ x. p x ≡ false) xs → filter p xs ≡ []
filter_none p [] h = refl
filter_none p (x ∷ xs) h =
    ap (λ t. cond t (x ∷ filter p xs) (filter p xs)) (All-head (λ y. p y ≡ false) x xs h) ∙ filter_none p xs (All-tail (λ y. p y ≡ false) x xs h)

-- one more of the first elements, which has a name
pub take_with : {X : Type 0} (xs : List X) (i : ℕ) (x : X) → i < length xs → x ≡ get_or xs i x → take (i + 1) xs ≡ take i xs ++ x ∷ []
take_with xs i x inside is = take_more xs i x inside ∙ ap (λ y. take i xs ++ y ∷ []) (sym is)

pub all_more : {X : Type 0} (P : X → Type 0) (xs : List X) (i : ℕ) (x : X) → i < length xs → x ≡ get_or xs i x → All P (take i xs) → P x → All P (take (i + 1) xs)
all_more P xs i x within here so_far p = All-more P xs i x within so_far (subst P here p)

pub all_from : {X : Type 0} (P : X → Type 0) (xs : List X) → ((x : X) → Contains xs x → P x) → All P xs
all_from P xs f k d inside = f _ (All-contains_itself xs k d inside)

pub all_from_take : {X : Type 0} (P : X → Type 0) (xs : List X) (i : ℕ) → length xs ≤ i → All P (take i xs) → All P xs
all_from_take P xs i past h = subst (All P) (take_all i xs past) h

-- ---- pairs

pub pairs_first : {X : Type 0} (R : X → X → Type 0) (x : X) (xs : List X) → AllPairs R (x ∷ xs) → All (R x) xs
pairs_first R x xs h k d within = h 0 (suc k) d (omega arith) (omega (arith, within))

pub pairs_rest : {X : Type 0} (R : X → X → Type 0) (x : X) (xs : List X) → AllPairs R (x ∷ xs) → AllPairs R xs
pairs_rest R x xs h i j d below within = h (suc i) (suc j) d (omega (arith, below)) (omega (arith, within))

-- pairs of the first ones are pairs of all
pub pairs_front : {X : Type 0} (R : X → X → Type 0) (xs ys : List X) → AllPairs R (xs ++ ys) → AllPairs R xs
pairs_front R xs ys pairs i j d below within =
    let long = length-append xs ys in
    subst (λ x. R x (get_or xs j d)) (get_or_append_left xs ys d i (omega (arith, below, within)))
    (subst (R (get_or (xs ++ ys) i d)) (get_or_append_left xs ys d j within) (pairs i j d below (omega (arith, long, within))))

-- of two elements that no pair may be there is one
pub pairs_one : {X : Type 0} (R P : X → X → Type 0) → ((x y : X) → R x y → P x y → ⊥) → ((x y : X) → R x y → P y x → ⊥) → (xs : List X) → AllPairs R xs → (a b : X) → Contains xs a → Contains xs b → P a b → a ≡ b
pairs_one R P one other [] pairs a b at_a at_b same = absurd (none_in a at_a)
pairs_one R P one other (x ∷ xs) pairs a b at_a at_b same = by_place (first_or_later x a xs at_a) (first_or_later x b xs at_b) (λ l m. pairs_one R P one other xs (pairs_rest R x xs pairs) a b l m same)
  where
    before : (y : _) → Contains xs y → R x y
    before y there = All-contains (R x) xs y (pairs_first R x xs pairs) there

    by_place : (x ≡ a) ⊎ Contains xs a → (x ≡ b) ⊎ Contains xs b → (Contains xs a → Contains xs b → a ≡ b) → a ≡ b
    by_place (inl p) (inl q) again = sym p ∙ q
    by_place (inl p) (inr m) again = absurd (one x b (before b m) (subst (λ y. P y b) (sym p) same))
    by_place (inr l) (inl q) again = absurd (other x a (before a l) (subst (λ y. P a y) (sym q) same))
    by_place (inr l) (inr m) again = again l m

-- two elements of one number are one, if the numbers rise
pub one_of_number : {X : Type 0} (number : X → ℕ) (xs : List X) (one other : X) → AllPairs (λ a b. number a < number b) xs → Contains xs one → Contains xs other → number one ≡ number other → one ≡ other
one_of_number number xs one other rising =
    pairs_one (λ a b. number a < number b) (λ a b. number a ≡ number b) (λ a b l e. omega (arith, l, e)) (λ a b l e. omega (arith, l, e)) xs rising one other

-- ---- each of a list, and each pair in its order, by recursion

pub all_unit : {X : Type 0} (xs : List X) → AllByRecursion (λ _. Unit {0}) xs
all_unit [] = tt
all_unit (x ∷ xs) = (tt, all_unit xs)

pub all_weaker : {X : Type 0} (P Q : X → Type 0) → ((x : X) → P x → Q x) → (xs : List X) → AllByRecursion P xs → AllByRecursion Q xs
all_weaker P Q step [] h = tt
all_weaker P Q step (x ∷ xs) h = (step x h.0, all_weaker P Q step xs h.1)

pub all_append : {X : Type 0} (P : X → Type 0) (xs ys : List X) → AllByRecursion P xs → AllByRecursion P ys → AllByRecursion P (xs ++ ys)
all_append P [] ys h k = k
all_append P (x ∷ xs) ys h k = (h.0, all_append P xs ys h.1 k)

pub all_push : {X : Type 0} (P : X → Type 0) (xs : List X) (x : X) → AllByRecursion P xs → P x → AllByRecursion P (xs ++ x ∷ [])
all_push P xs x h p = all_append P xs (x ∷ []) h (p, tt)

pub all_mapped : {X Y : Type 0} (P : Y → Type 0) (f : X → Y) (xs : List X) → AllByRecursion (λ x. P (f x)) xs → AllByRecursion P (map f xs)
all_mapped P f [] h = tt
all_mapped P f (x ∷ xs) h = (h.0, all_mapped P f xs h.1)

pub all_flat : {X Y : Type 0} (P : Y → Type 0) (f : X → List Y) (xs : List X) → AllByRecursion (λ x. AllByRecursion P (f x)) xs → AllByRecursion P (flat_map f xs)
all_flat P f [] h = tt
all_flat P f (x ∷ xs) h = all_append P (f x) (flat_map f xs) h.0 (all_flat P f xs h.1)

pub all_kept : {X : Type 0} (p : X → Bool) (xs : List X) → AllByRecursion (λ x. p x ≡ true) (filter p xs)
all_kept p [] = tt
all_kept p (x ∷ xs) = by_test (p x) refl (all_kept p xs)
  where
    by_test : (t : Bool) → p x ≡ t → AllByRecursion (λ y. p y ≡ true) (filter p xs) → AllByRecursion (λ y. p y ≡ true) (cond t (x ∷ filter p xs) (filter p xs))
    by_test true own rest = (own, rest)
    by_test false other rest = rest

abbrev pub AllPairsByRecursion : {X : Type 0} → (X → X → Type 0) → List X → Type 0
AllPairsByRecursion R [] = Unit {0}
AllPairsByRecursion R (x ∷ xs) = AllByRecursion (R x) xs × AllPairsByRecursion R xs

pub pairs_by_recursion : {X : Type 0} (R : X → X → Type 0) (xs : List X) → AllPairs R xs → AllPairsByRecursion R xs
pairs_by_recursion R [] h = tt
pairs_by_recursion R (x ∷ xs) h = (recursion_from_All (R x) xs (pairs_first R x xs h), pairs_by_recursion R xs (pairs_rest R x xs h))

-- ---- the lines of a text

pub lines_of_parts_cons : (p : ℕ → Bool) (x ys : List ℕ) → lines_of_parts (x ∷ slice_split p ys) ≡ strip_carriage_return x ∷ lines_of_parts (slice_split p ys)
lines_of_parts_cons p x [] = refl
lines_of_parts_cons p x (z ∷ zs) = by_test (p z)
  where
    before_more : (parts : List (List ℕ)) → lines_of_parts (x ∷ onto_first z parts) ≡ strip_carriage_return x ∷ lines_of_parts (onto_first z parts)
    before_more [] = refl
    before_more (part ∷ parts) = refl

    by_test : (t : Bool) → lines_of_parts (x ∷ cond t ([] ∷ slice_split p zs) (onto_first z (slice_split p zs))) ≡ strip_carriage_return x ∷ lines_of_parts (cond t ([] ∷ slice_split p zs) (onto_first z (slice_split p zs)))
    by_test true = refl
    by_test false = before_more (slice_split p zs)
