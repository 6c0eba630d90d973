-- Words cut at blanks.
use Rattle.std.proofs.Common.{◌≡◌, ℕ, zero, suc, ◌-◌, ◌<◌, ◌≤◌, true, false, List, [], ◌∷◌, ◌++◌, length, take, drop, get_or, filter, refl, ap, sym, ◌∙◌, arith, append-nil, length-drop, take-append-drop, nat_lt, All}
use Rattle.std.proofs.lemmas.Bool.{cond-true, lt-ltb, both_ways}
use Rattle.std.proofs.lemmas.List.{get_or-drop, get_or-take, length-take-le}
use Rattle.std.proofs.lemmas.List.Elements.{All-from_get_or, All-head, All-tail}
use Rattle.std.proofs.lemmas.List.Splits.{slice_split_none, slice_split_at, slice_split-cons_yes}
use Rattle.std.specs.List.{slice_split}
use Rattle.uu_times.specs.Lines.{words_of}
use Rattle.uu_names.specs.Text.{is_blank}

-- what is kept of the parts between blanks
abbrev pub kept : List (List ℕ) → List (List ℕ)
kept parts = filter (λ word. nat_lt 0 (length word)) parts

-- a blank before words
words_blank : (letter : ℕ) (rest : List ℕ) → is_blank letter ≡ true → words_of (letter ∷ rest) ≡ words_of rest
unfolding words_of
words_blank letter rest blank = ap kept (slice_split-cons_yes is_blank letter rest blank)

pub words_behind : (front rest : List ℕ) → All (λ letter. is_blank letter ≡ true) front → words_of (front ++ rest) ≡ words_of rest
words_behind [] rest blank = refl
words_behind (letter ∷ front) rest blank =
    words_blank letter (front ++ rest) (All-head (λ b. is_blank b ≡ true) letter front blank)
    ∙ words_behind front rest (All-tail (λ b. is_blank b ≡ true) letter front blank)

words_nothing : words_of [] ≡ []
unfolding words_of
words_nothing = refl

-- a word before a blank or the end
pub words_first : (word rest : List ℕ) → 0 < length word → All (λ letter. is_blank letter ≡ false) word → (0 < length rest → is_blank (get_or rest 0 0) ≡ true)
    → words_of (word ++ rest) ≡ word ∷ words_of rest
unfolding words_of
words_first word [] some letters behind =
    ap words_of (append-nil word)
    ∙ ap kept (slice_split_none is_blank word letters)
    ∙ cond-true (nat_lt 0 (length word)) (word ∷ []) [] (lt-ltb 0 (length word) some)
words_first word (blank ∷ rest) some letters behind =
    ap kept (slice_split_at is_blank word blank rest letters (behind (omega arith)))
    ∙ cond-true (nat_lt 0 (length word)) (word ∷ kept (slice_split is_blank rest)) (kept (slice_split is_blank rest)) (lt-ltb 0 (length word) some)
    ∙ ap (λ words. word ∷ words) (sym (words_blank blank rest (behind (omega arith))))

-- nothing but blanks
pub words_none : (text : List ℕ) → ((k : ℕ) → k < length text → is_blank (get_or text k 0) ≡ true) → words_of text ≡ []
words_none text blank =
    ap words_of (sym (append-nil text)) ∙ words_behind text [] (All-from_get_or (λ b. is_blank b ≡ true) text 0 blank) ∙ words_nothing

positive : (n : ℕ) → (n ≡ 0 → ⊥) → 0 < n
positive zero none = absurd (none refl)
positive (suc n) none = omega arith

-- blanks, and then a word
pub words_next : (text word : List ℕ) (start end : ℕ) → word ≡ drop start text → start < length text → ((k : ℕ) → k < start → is_blank (get_or text k 0) ≡ true)
    → is_blank (get_or text start 0) ≡ false → ((k : ℕ) → k < end → is_blank (get_or word k 0) ≡ false) → end ≤ length word
    → (end < length word → is_blank (get_or word end 0) ≡ true)
    → words_of text ≡ take end word ∷ words_of (drop end word)
words_next text word start end is within blank first letters bound behind =
    let long : length word ≡ length text - start = ap length is ∙ length-drop start text in
    let some : 0 < end = positive end (λ zero_end. both_ways (is_blank (get_or text start 0)) first
    (ap (λ i. is_blank (get_or text i 0)) (omega arith) ∙ ap is_blank (sym (get_or-drop start text end 0)) ∙ ap (λ w. is_blank (get_or w end 0)) (sym is) ∙ behind (omega arith))) in
    ap words_of (sym (take-append-drop start text))
    ∙ words_behind (take start text) (drop start text) (All-from_get_or (λ b. is_blank b ≡ true) (take start text) 0
    (λ k below. let less : k < start = omega (arith, length-take-le start text (omega arith)) in ap is_blank (get_or-take start text k 0 less) ∙ blank k less))
    ∙ ap words_of (sym is ∙ sym (take-append-drop end word))
    ∙ words_first (take end word) (drop end word) (omega (arith, length-take-le end word bound))
    (All-from_get_or (λ b. is_blank b ≡ false) (take end word) 0
    (λ k below. let less : k < end = omega (arith, length-take-le end word bound) in ap is_blank (get_or-take end word k 0 less) ∙ letters k less))
    (λ more. ap is_blank (get_or-drop end word 0 0 ∙ ap (λ i. get_or word i 0) (omega arith)) ∙ behind (omega (arith, length-drop end word)))
