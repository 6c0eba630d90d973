-- A text is taken apart one line at a time.
use Rattle.std.proofs.Common.{◌≡◌, ℕ, ◌+◌, ◌<◌, ◌≤◌, ◌==◌, false, cond, List, [], ◌∷◌, length, take, drop, sym, ap, ◌∙◌, arith}
use Rattle.std.specs.List.{position_or_len}
use Rattle.std.specs.Str.Lines.{lines, lines_of_parts, strip_carriage_return}
use Rattle.std.proofs.lemmas.List.{length-drop, drop-drop, take_all, drop_all}
use Rattle.std.proofs.lemmas.List.Sums.{fails_before_first}
use Rattle.std.proofs.lemmas.List.Splits.{slice_split_first, slice_split_none}
use Rattle.std.proofs.lemmas.Bool.Decides.{nat_tests}
use Rattle.uu_names.proofs.Basics.{lines_of_parts_cons}

-- a line that ends with a newline
pub lines_first : (xs line rest : List ℕ) → line ≡ take (position_or_len (λ b. b == 10) xs) xs → rest ≡ drop (position_or_len (λ b. b == 10) xs) xs → 0 < length rest → lines xs ≡ strip_carriage_return line ∷ lines (drop 1 rest)
lines_first xs line rest el er some =
    let n : ℕ = position_or_len (λ b. b == 10) xs in
    let found : n < length xs = omega (arith, ap length er, length-drop n xs) in
    ap lines_of_parts (slice_split_first (λ b. b == 10) xs 0 found)
    ∙ (lines_of_parts_cons (λ b. b == 10) (take n xs) (drop (n + 1) xs)
    ∙ (ap (λ l. strip_carriage_return l ∷ lines (drop (n + 1) xs)) (sym el) ∙ ap (λ r. strip_carriage_return line ∷ lines r) (sym (ap (drop 1) er ∙ drop-drop 1 n xs))))

single : (xs : List ℕ) → 0 < length xs → lines_of_parts (xs ∷ []) ≡ xs ∷ []
single [] some = absurd (omega arith)
single (x ∷ xs) some = let e : (length (x ∷ xs) == 0) ≡ false = grind (arith, nat_tests) in ap (λ b. cond b [] ((x ∷ xs) ∷ [])) e

-- the last line
pub lines_last : (xs line rest : List ℕ) → 0 < length xs → line ≡ take (position_or_len (λ b. b == 10) xs) xs → rest ≡ drop (position_or_len (λ b. b == 10) xs) xs → length rest < 1 → lines xs ≡ line ∷ lines rest
lines_last xs line rest some el er none =
    let n : ℕ = position_or_len (λ b. b == 10) xs in
    let past : length xs ≤ n = omega (arith, ap length er, length-drop n xs) in
    let whole : line ≡ xs = el ∙ take_all n xs past in
    let empty : rest ≡ [] = er ∙ drop_all n xs past in
    ap lines_of_parts (slice_split_none (λ b. b == 10) xs (λ k d h. fails_before_first (λ b. b == 10) xs k d (omega arith)))
    ∙ (single xs some ∙ (ap (λ l. l ∷ []) (sym whole) ∙ ap (λ r. line ∷ lines r) (sym empty)))

-- the text after the first line
pub rest_after_feed : (xs rest : List ℕ) → rest ≡ drop (position_or_len (λ b. b == 10) xs) xs → drop 1 rest ≡ drop (position_or_len (λ b. b == 10) xs + 1) xs
rest_after_feed xs rest er = ap (drop 1) er ∙ drop-drop 1 (position_or_len (λ b. b == 10) xs) xs

pub rest_after_last : (xs rest : List ℕ) → rest ≡ drop (position_or_len (λ b. b == 10) xs) xs → length rest < 1 → rest ≡ drop (position_or_len (λ b. b == 10) xs + 1) xs
rest_after_last xs rest er none =
    let n : ℕ = position_or_len (λ b. b == 10) xs in
    let past : length xs ≤ n = omega (arith, ap length er, length-drop n xs) in
    (er ∙ drop_all n xs past) ∙ sym (drop_all (n + 1) xs (omega (arith, past)))
