-- Texts that are compared as a whole.
use Rattle.std.proofs.Common.{◌≡◌, ◌≢◌, ◌∙◌, ◌==◌, ap, sym, refl, subst, Bool, true, false, true≢false, not, ℕ, ◌+◌, ◌<◌, ◌≤◌, List, ◌++◌, length, take, drop, slice_index, bit_or, arith}
use Rattle.std.proofs.lemmas.Bool.Decides.{Decides-eqb}
use Rattle.std.proofs.lemmas.List.{get_or_default, same_lists, take-append-drop}
use Rattle.std.proofs.lemmas.Nat.{le_or_l, le_or_r}
use mir.Val.{bool_byte}

-- whether two bytes differ, as a number
pub differs : (x y r : ℕ) → r ≡ bool_byte (not (x == y)) → (x ≡ y → r ≡ 0) × (r ≡ 0 → x ≡ y)
differs x y r is = by (x == y) refl
  where
    by : (b : Bool) → (x == y) ≡ b → (x ≡ y → r ≡ 0) × (r ≡ 0 → x ≡ y)
    by true same = (λ e. is ∙ ap (λ t. bool_byte (not t)) same, λ none. (Decides-eqb x y).0 same)
    by false other = (
      λ e. absurd (true≢false (sym ((Decides-eqb x y).1 e) ∙ other)),
      λ none. let one : r ≡ 1 = is ∙ ap (λ t. bool_byte (not t)) other in absurd (omega arith),
    )

abbrev SameBelow : List ℕ → List ℕ → ℕ → Type 0
SameBelow one other i = (k : ℕ) → k < i → slice_index one k ≡ slice_index other k

pub one_more_same : (one other : List ℕ) (i differ r : ℕ) → (slice_index one i ≡ slice_index other i → r ≡ 0) × (r ≡ 0 → slice_index one i ≡ slice_index other i) → (differ ≡ 0 → SameBelow one other i) × (SameBelow one other i → differ ≡ 0)
    → (bit_or differ r ≡ 0 → SameBelow one other (i + 1)) × (SameBelow one other (i + 1) → bit_or differ r ≡ 0)
one_more_same one other i differ r byte so_far = (all, none)
  where
    all : bit_or differ r ≡ 0 → SameBelow one other (i + 1)
    all both k below =
        let left = le_or_l differ r in
        let right = le_or_r differ r in
        let here : slice_index one i ≡ slice_index other i = byte.1 (omega arith) in
        let before : SameBelow one other i = so_far.0 (omega arith) in by (k == i) refl here before
      where
        by : (b : Bool) → (k == i) ≡ b → slice_index one i ≡ slice_index other i → SameBelow one other i → slice_index one k ≡ slice_index other k
        by true is here before = let same : k ≡ i = (Decides-eqb k i).0 is in subst (λ j. slice_index one j ≡ slice_index other j) (sym same) here
        by false is here before = before k (let apart : k ≢ i = λ same. true≢false (sym ((Decides-eqb k i).1 same) ∙ is) in omega arith)

    none : SameBelow one other (i + 1) → bit_or differ r ≡ 0
    none same =
        let no_left : differ ≡ 0 = so_far.1 (λ k below. same k (omega arith)) in
        let no_right : r ≡ 0 = byte.0 (same i (omega arith)) in ap (λ d. bit_or d r) no_left ∙ ap (bit_or 0) no_right

pub same_all : (one other : List ℕ) (i : ℕ) → length one ≡ length other → length one ≤ i → SameBelow one other i → one ≡ other
same_all one other i long past same = same_lists one other long (λ k d h. get_or_default one k d 0 h ∙ same k (omega arith) ∙ get_or_default other k 0 d (omega arith))

pub same_front : (text cut rest whole front : List ℕ) → whole ≡ front → cut ≡ take (length whole) text → rest ≡ drop (length whole) text → cut ≡ whole → text ≡ front ++ rest
same_front text cut rest whole front is of_cut of_rest same =
    sym (take-append-drop (length whole) text) ∙ ap (λ c. c ++ drop (length whole) text) (sym of_cut ∙ same ∙ is) ∙ ap (λ r. front ++ r) (sym of_rest)
