-- The lines of a text, one at a time.
use Rattle.std.proofs.Common.{◌≡◌, ℕ, suc, ◌+◌, ◌<◌, ◌≤◌, Bool, true, false, not, eqb, ltb, List, [], ◌∷◌, length, take, drop, Some, None, position, refl, ap, ◌∙◌, arith}
use Rattle.std.specs.List.{position_or_len, onto_first}
use Rattle.std.proofs.lemmas.Bool.Decides.{nat_tests}
use Rattle.std.proofs.lemmas.List.{take_all, drop_all}
use Rattle.std.proofs.lemmas.List.Sums.{prefix_len-le-length}
use Rattle.uu_names.specs.ReturnPath.{raw_lines}

abbrev is_line_feed : ℕ → Bool
is_line_feed b = eqb b 10

raw_more : (text : List ℕ) (n : ℕ) → position_or_len is_line_feed text ≡ n → n < length text → raw_lines text ≡ take (n + 1) text ∷ raw_lines (drop (n + 1) text)
raw_more [] n e h = absurd (omega arith)
raw_more (b ∷ bs) n e h = by_first (is_line_feed b) refl (λ fits. raw_more bs (position_or_len is_line_feed bs) refl fits)
  where
    by_first : (t : Bool) → is_line_feed b ≡ t → (position_or_len is_line_feed bs < length bs → raw_lines bs ≡ take (position_or_len is_line_feed bs + 1) bs ∷ raw_lines (drop (position_or_len is_line_feed bs + 1) bs)) → raw_lines (b ∷ bs) ≡ take (n + 1) (b ∷ bs) ∷ raw_lines (drop (n + 1) (b ∷ bs))
    by_first true f again =
        let zero_is : 0 ≡ n = rw f at e in
        rw (f, ← zero_is)
    by_first false f again =
        let more : 1 + position_or_len is_line_feed bs ≡ n = rw f at e in
        let m = position_or_len is_line_feed bs in
        let r = again (omega arith) in
        let count : n + 1 ≡ suc (m + 1) = omega arith in
        rw (f, r, count)

raw_last : (text : List ℕ) → position_or_len is_line_feed text ≡ length text → 0 < length text → raw_lines text ≡ text ∷ []
raw_last [] e h = absurd (omega arith)
raw_last (b ∷ []) e h = by_first (is_line_feed b) refl
  where
    by_first : (t : Bool) → is_line_feed b ≡ t → raw_lines (b ∷ []) ≡ (b ∷ []) ∷ []
    by_first true f = rw f
    by_first false f = rw f
raw_last (b ∷ c ∷ cs) e h = by_first (is_line_feed b) refl (λ q. raw_last (c ∷ cs) q (omega arith))
  where
    by_first : (t : Bool) → is_line_feed b ≡ t → (position_or_len is_line_feed (c ∷ cs) ≡ length (c ∷ cs) → raw_lines (c ∷ cs) ≡ (c ∷ cs) ∷ []) → raw_lines (b ∷ c ∷ cs) ≡ (b ∷ c ∷ cs) ∷ []
    by_first true f again = let g : 0 ≡ length (b ∷ c ∷ cs) = rw f at e in absurd (omega arith)
    by_first false f again =
        let g : 1 + position_or_len is_line_feed (c ∷ cs) ≡ length (b ∷ c ∷ cs) = rw f at e in
        rw f (ap (onto_first b) (again (omega arith)))

-- the place of the first byte of a kind, if there is one
pub found_at : (p : ℕ → Bool) (text : List ℕ) (at : ℕ) → Some at ≡ position p text → (position_or_len p text ≡ at) × (at < length text)
found_at p text at e = by-test (ltb n (length text)) refl
  where
    n : ℕ
    n = position_or_len p text

    some-none : Some at ≡ None → ⊥
    some-none q = cc

    by-test : (t : Bool) → ltb n (length text) ≡ t → (n ≡ at) × (at < length text)
    by-test true f =
        let g : Some at ≡ Some n = e ∙ rw f in
        let same : n ≡ at = cc in
        (same, let h : n < length text = grind (arith, nat_tests) in omega arith)
    by-test false f = let g : Some at ≡ None = e ∙ rw f in absurd (some-none g)

pub not_found : (p : ℕ → Bool) (text : List ℕ) → None ≡ position p text → position_or_len p text ≡ length text
not_found p text e = by-test (ltb n (length text)) refl
  where
    n : ℕ
    n = position_or_len p text

    none-some : None ≡ Some n → ⊥
    none-some q = cc

    by-test : (t : Bool) → ltb n (length text) ≡ t → n ≡ length text
    by-test true f = let g : None ≡ Some n = e ∙ rw f in absurd (none-some g)
    by-test false f = let h : length text ≤ n = grind (arith, nat_tests) in omega (arith, prefix_len-le-length (λ b. not (p b)) text)

pub raw_lines-some : (text : List ℕ) (at : ℕ) → Some at ≡ position is_line_feed text → raw_lines text ≡ take (at + 1) text ∷ raw_lines (drop (at + 1) text)
raw_lines-some text at e = let f = found_at is_line_feed text at e in raw_more text at f.0 f.1

pub raw_lines-none : (text : List ℕ) → None ≡ position is_line_feed text → 0 < length text → raw_lines text ≡ take (length text) text ∷ raw_lines (drop (length text) text)
raw_lines-none text e h = raw_last text (not_found is_line_feed text e) h ∙ rw (take_all (length text) text (omega arith), drop_all (length text) text (omega arith))
