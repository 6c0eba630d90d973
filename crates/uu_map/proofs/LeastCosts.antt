-- In a list in order of names and costs, the first of each name costs least.
use Rattle.std.proofs.Common.{◌≡◌, ◌≢◌, ◌↔◌, ℕ, zero, suc, ◌<◌, ◌≤◌, Bool, true, false, cond, ◌⊎◌, List, [], ◌∷◌, length, get_or, Some, None, Ordering, refl, sym, ap, ◌∙◌, subst, inl, inr, arith}
use Rattle.std.specs.declared.cmp.Ordering.TheVariants.{Less, Equal, Greater}
use Rattle.std.specs.Ordering.{nat_cmp, ordering_then, ordering_reverse, is_lt}
use Rattle.std.specs.Cmp.{IsTotalOrder}
use Rattle.std.specs.Cmp.Lexicographic.{slice_cmp}
use Rattle.std.specs.List.{Contains}
use Rattle.std.specs.List.Sorted.{IsSorted}
use Rattle.std.specs.Str.{bytes_eq}
use Rattle.std.proofs.lemmas.Bool.Decides.{nat_tests}
use Rattle.std.proofs.lemmas.Cmp.{nat_cmp_total, nat_list_cmp_total, then_total, on_total, tied_itself}
use Rattle.std.proofs.lemmas.List.Sorted.{sorted_far, ranks_by}
use Rattle.std.proofs.lemmas.Slice.Eq.{bytes_eq-Decides}
use Rattle.std.proofs.lemmas.Map.Lookups.{exact_bytes}
use Rattle.uu_map.specs.declared.entry.Cost.{Cost}
use Rattle.uu_map.specs.declared.entry.Cost.TheVariants.{Value, Dead}
use Rattle.uu_map.specs.declared.entry.Link.{Link}
use Rattle.uu_map.specs.Listing.{CostsAtMost, IsLeast, cost_cmp}
use Rattle.uu_map.specs.Internal.Ranking.{by_name_cmp, firsts_after}

-- ---- costs

cost_antisymm : (x y : Cost) → cost_cmp x y ≡ ordering_reverse (cost_cmp y x)
cost_antisymm (Value a) (Value b) = nat_cmp_total.antisymm a b
cost_antisymm (Value a) Dead = refl
cost_antisymm Dead (Value b) = refl
cost_antisymm Dead Dead = refl

cost_trans : (x y z : Cost) → cost_cmp x y ≡ Less → cost_cmp y z ≡ Less → cost_cmp x z ≡ Less
cost_trans (Value a) (Value b) (Value c) p q = nat_cmp_total.trans a b c p q
cost_trans (Value a) (Value b) Dead p q = refl
cost_trans (Value a) Dead (Value c) p q = absurd cc
cost_trans (Value a) Dead Dead p q = absurd cc
cost_trans Dead (Value b) z p q = absurd cc
cost_trans Dead Dead z p q = absurd cc

cost_congr : (x y z : Cost) → cost_cmp x y ≡ Equal → cost_cmp x z ≡ cost_cmp y z
cost_congr (Value a) (Value b) (Value c) p = nat_cmp_total.congr a b c p
cost_congr (Value a) (Value b) Dead p = refl
cost_congr (Value a) Dead z p = absurd cc
cost_congr Dead (Value b) z p = absurd cc
cost_congr Dead Dead z p = refl

pub cost_total : IsTotalOrder cost_cmp
cost_total = record { antisymm = cost_antisymm; trans = cost_trans; congr = cost_congr }

pub by_name_total : IsTotalOrder by_name_cmp
by_name_total = then_total (on_total (λ (l : Link). l.to) nat_list_cmp_total) (on_total (λ (l : Link). l.cost) cost_total)

at_most : (x y : Cost) → is_lt (cost_cmp y x) ≡ false → CostsAtMost x y
at_most (Value a) (Value b) h = grind (arith, nat_tests)
at_most (Value a) Dead h = tt
at_most Dead (Value b) h = absurd cc
at_most Dead Dead h = tt

at_most_itself : (x : Cost) → CostsAtMost x x
at_most_itself (Value a) = omega arith
at_most_itself Dead = tt

at_most_both : (x y : Cost) → CostsAtMost x y → CostsAtMost y x → x ≡ y
at_most_both (Value a) (Value b) p q = ap Value (omega arith)
at_most_both (Value a) Dead p q = absurd q
at_most_both Dead (Value b) p q = absurd p
at_most_both Dead Dead p q = refl

-- ---- names

not_below_both : (x y : List ℕ) → is_lt (slice_cmp nat_cmp x y) ≡ false → is_lt (slice_cmp nat_cmp y x) ≡ false → x ≡ y
not_below_both x y p q = exact_bytes x y (go (slice_cmp nat_cmp x y) (slice_cmp nat_cmp y x) (nat_list_cmp_total.antisymm x y) p q)
  where
    go : (a b : Ordering) → a ≡ ordering_reverse b → is_lt a ≡ false → is_lt b ≡ false → a ≡ Equal
    go Less b e p q = absurd cc
    go Equal b e p q = refl
    go Greater Less e p q = absurd cc
    go Greater Equal e p q = absurd cc
    go Greater Greater e p q = absurd cc

-- x doesn't come after y
abbrev NotAbove : Link → Link → Type 0
NotAbove x y = is_lt (by_name_cmp y x) ≡ false

name_not_above : (x y : Link) → NotAbove x y → is_lt (slice_cmp nat_cmp y.to x.to) ≡ false
name_not_above x y h = go (slice_cmp nat_cmp y.to x.to) h
  where
    go : (o : Ordering) → is_lt (ordering_then o (cost_cmp y.cost x.cost)) ≡ false → is_lt o ≡ false
    go Less e = absurd cc
    go Equal e = refl
    go Greater e = refl

cost_not_above : (x y : Link) → NotAbove x y → y.to ≡ x.to → CostsAtMost x.cost y.cost
cost_not_above x y h same =
    let tied : slice_cmp nat_cmp y.to x.to ≡ Equal = ap (λ t. slice_cmp nat_cmp t x.to) same ∙ tied_itself nat_list_cmp_total x.to in
    at_most x.cost y.cost (sym (ap (λ o. is_lt (ordering_then o (cost_cmp y.cost x.cost))) tied) ∙ h)

-- x, y and z in order, and the outer two have one name
name_between : (x y z : Link) → NotAbove x y → NotAbove y z → z.to ≡ x.to → y.to ≡ x.to
name_between x y z h k e =
    not_below_both y.to x.to (name_not_above x y h) (sym (ap (λ t. is_lt (slice_cmp nat_cmp t y.to)) e) ∙ name_not_above y z k)

-- ---- lists by recursion

abbrev pub In : List Link → Link → Type 0
In [] l = ⊥
In (x ∷ xs) l = (x ≡ l) ⊎ In xs l

abbrev Below : Link → List Link → Type 0
Below x ys = (l : Link) → In ys l → NotAbove x l

abbrev Rises : List Link → Type 0
Rises [] = Unit {0}
Rises (x ∷ xs) = Below x xs × Rises xs

abbrev LeastIn : List Link → Link → Type 0
LeastIn xs l = (m : Link) → In xs m → m.to ≡ l.to → CostsAtMost l.cost m.cost

record Chosen (x : Link) (ys : List Link) (l : Link) : Type 0 where
  among : In ys l
  least : LeastIn ys l
  other : l.to ≢ x.to

has_other_name : (x y : List ℕ) → bytes_eq x y ≡ false → x ≡ y → ⊥
has_other_name x y differ e = let same : bytes_eq x y ≡ true = (bytes_eq-Decides x y).1 e in absurd cc

chosen_here : (x y : Link) (ys : List Link) → Below y ys → bytes_eq y.to x.to ≡ false → Chosen x (y ∷ ys) y
chosen_here x y ys below differ = record {
  among = inl refl;
  least = λ m i. elim i [ inl e ↦ λ same. subst (λ (w : Link). CostsAtMost y.cost w.cost) e (at_most_itself y.cost) | inr j ↦ λ same. cost_not_above y m (below m j) same ];
  other = has_other_name y.to x.to differ;
}

chosen_later : (x y l : Link) (ys : List Link) → NotAbove x y → Below y ys → Chosen y ys l → Chosen x (y ∷ ys) l
chosen_later x y l ys above below k = record {
  among = inr k.among;
  least = λ m i. elim i [ inl e ↦ λ same. absurd (k.other (sym same ∙ ap (λ (n : Link). n.to) (sym e))) | inr j ↦ λ same. k.least m j same ];
  other = λ e. k.other (e ∙ sym (name_between x y l above (below l k.among) e));
}

chosen : (ys : List Link) (x l : Link) → Below x ys → Rises ys → In (firsts_after (Some x) ys) l → Chosen x ys l
chosen [] x l below rises h = absurd h
chosen (y ∷ ys) x l below rises h = go (λ i. chosen ys y l rises.0 rises.1 i) (bytes_eq y.to x.to) refl h
  where
    go : (In (firsts_after (Some y) ys) l → Chosen y ys l) → (t : Bool) → bytes_eq y.to x.to ≡ t → In (cond t (firsts_after (Some y) ys) (y ∷ firsts_after (Some y) ys)) l → Chosen x (y ∷ ys) l
    go rec true same i = chosen_later x y l ys (below y (inl refl)) rises.0 (rec i)
    go rec false differ (inl e) = subst (λ (w : Link). Chosen x (y ∷ ys) w) e (chosen_here x y ys rises.0 differ)
    go rec false differ (inr i) = chosen_later x y l ys (below y (inl refl)) rises.0 (rec i)

same_link : (a b : Link) → a.to ≡ b.to → a.cost ≡ b.cost → a ≡ b
same_link a b e f = ap (λ (t : List ℕ). let l : Link = record { to = t; cost = a.cost } in l) e ∙ ap (λ (c : Cost). let l : Link = record { to = b.to; cost = c } in l) f

-- a link that costs least for the name of y, which comes first, is y
is_first : (y l : Link) (ys : List Link) → Below y ys → In ys l → LeastIn (y ∷ ys) l → l.to ≡ y.to → y ≡ l
is_first y l ys below i least same =
    same_link y l (sym same) (at_most_both y.cost l.cost (cost_not_above y l (below l i) same) (least y (inl refl) (sym same)))

kept_here : (x y l : Link) (ys : List Link) → y ≡ l → l.to ≢ x.to → In (firsts_after (Some x) (y ∷ ys)) l
kept_here x y l ys e other = go (bytes_eq y.to x.to) refl
  where
    go : (t : Bool) → bytes_eq y.to x.to ≡ t → In (cond t (firsts_after (Some y) ys) (y ∷ firsts_after (Some y) ys)) l
    go true same = absurd (other (ap (λ (n : Link). n.to) (sym e) ∙ (bytes_eq-Decides y.to x.to).0 same))
    go false differ = inl e

kept_later : (x y l : Link) (ys : List Link) → In (firsts_after (Some y) ys) l → In (firsts_after (Some x) (y ∷ ys)) l
kept_later x y l ys i = go (bytes_eq y.to x.to)
  where
    go : (t : Bool) → In (cond t (firsts_after (Some y) ys) (y ∷ firsts_after (Some y) ys)) l
    go true = i
    go false = inr i

kept : (ys : List Link) (x l : Link) → Rises ys → In ys l → LeastIn ys l → l.to ≢ x.to → In (firsts_after (Some x) ys) l
kept [] x l rises i least other = absurd i
kept (y ∷ ys) x l rises (inl e) least other = kept_here x y l ys e other
kept (y ∷ ys) x l rises (inr i) least other = go (λ differ. kept ys y l rises.1 i (λ m j. least m (inr j)) (has_other_name l.to y.to differ)) (bytes_eq l.to y.to) refl
  where
    go : (bytes_eq l.to y.to ≡ false → In (firsts_after (Some y) ys) l) → (t : Bool) → bytes_eq l.to y.to ≡ t → In (firsts_after (Some x) (y ∷ ys)) l
    go rec true same = kept_here x y l ys (is_first y l ys rises.0 i least ((bytes_eq-Decides l.to y.to).0 same)) other
    go rec false differ = kept_later x y l ys (rec differ)

firsts_are_least : (xs : List Link) (l : Link) → Rises xs → In (firsts_after None xs) l → In xs l × LeastIn xs l
firsts_are_least [] l rises h = absurd h
firsts_are_least (x ∷ xs) l rises (inl e) = (inl e, λ m i. elim i [ inl f ↦ λ same. subst (λ (w : Link). CostsAtMost w.cost m.cost) e (subst (λ (w : Link). CostsAtMost x.cost w.cost) f (at_most_itself x.cost)) | inr j ↦ λ same. subst (λ (w : Link). CostsAtMost w.cost m.cost) e (cost_not_above x m (rises.0 m j) (same ∙ ap (λ (n : Link). n.to) (sym e))) ])
firsts_are_least (x ∷ xs) l rises (inr i) =
    let k : Chosen x xs l = chosen xs x l rises.0 rises.1 i in
    (inr k.among, λ m j. elim j [ inl e ↦ λ same. absurd (k.other (sym same ∙ ap (λ (n : Link). n.to) (sym e))) | inr g ↦ λ same. k.least m g same ])

least_are_firsts : (xs : List Link) (l : Link) → Rises xs → In xs l → LeastIn xs l → In (firsts_after None xs) l
least_are_firsts [] l rises i least = absurd i
least_are_firsts (x ∷ xs) l rises (inl e) least = inl e
least_are_firsts (x ∷ xs) l rises (inr i) least = go (bytes_eq l.to x.to) refl
  where
    go : (t : Bool) → bytes_eq l.to x.to ≡ t → In (firsts_after None (x ∷ xs)) l
    go true same = inl (is_first x l xs rises.0 i least ((bytes_eq-Decides l.to x.to).0 same))
    go false differ = inr (kept xs x l rises.1 i (λ m j. least m (inr j)) (has_other_name l.to x.to differ))

-- ---- the words of std

pub in_from_contains : (xs : List Link) (l : Link) (k : ℕ) → k < length xs → get_or xs k l ≡ l → In xs l
in_from_contains [] l k h e = absurd (omega arith)
in_from_contains (x ∷ xs) l zero h e = inl e
in_from_contains (x ∷ xs) l (suc k) h e = inr (in_from_contains xs l k (omega arith) e)

pub contains_from_in : (xs : List Link) (l : Link) → In xs l → Contains xs l
contains_from_in [] l i = absurd i
contains_from_in (x ∷ xs) l (inl e) = (0, omega arith, e)
contains_from_in (x ∷ xs) l (inr i) = let (k, h, e) = contains_from_in xs l i in (suc k, omega arith, e)

rises_from_far : (xs : List Link) → ((i j : ℕ) (d : Link) → i ≤ j → j < length xs → is_lt (by_name_cmp (get_or xs j d) (get_or xs i d)) ≡ false) → Rises xs
rises_from_far [] far = tt
rises_from_far (x ∷ xs) far = (
  λ l i. let (k, h, e) = contains_from_in xs l i in subst (λ (w : Link). NotAbove x w) e (far 0 (suc k) l (omega arith) (omega arith)),
  rises_from_far xs (λ i j d h k. far (suc i) (suc j) d (omega arith) (omega arith)),
)

rises : (xs : List Link) → IsSorted by_name_cmp xs → Rises xs
rises xs up = rises_from_far xs (sorted_far (λ x y. is_lt (by_name_cmp x y)) (ranks_by by_name_total (λ l. l)) xs up)

pub firsts_least : (xs : List Link) → IsSorted by_name_cmp xs → (l : Link) → Contains (firsts_after None xs) l ↔ IsLeast xs l
firsts_least xs up l = (
  λ h. let (i, least) = firsts_are_least xs l (rises xs up) (in_from_contains (firsts_after None xs) l h.0 h.1 h.2) in
      (contains_from_in xs l i, λ m c same. least m (in_from_contains xs m c.0 c.1 c.2) same),
  λ h. contains_from_in (firsts_after None xs) l (least_are_firsts xs l (rises xs up) (in_from_contains xs l h.0.0 h.0.1 h.0.2) (λ m i same. h.1 m (contains_from_in xs m i) same)),
)
