-- The words of a text, one after another.
use Rattle.std.proofs.Common.{◌≡◌, ℕ, ◌+◌, ◌<◌, Bool, true, false, cond, List, [], ◌∷◌, length, take, drop, map, refl, sym, ap, ◌∙◌, arith}
use Rattle.std.specs.List.{prefix_len, onto_first}
use Rattle.std.specs.Char.{is_ascii_digit, is_ascii_uppercase}
use Rattle.std.proofs.lemmas.Bool.Decides.{nat_tests}
use Rattle.std.proofs.Math.Numerals.{one-add}
use Rattle.uu_map.specs.Token.{begins, runs_on, words, word_token, tokens}
use Rattle.uu_map.specs.Internal.Cutting.{word_len}
use Rattle.uu_names.specs.Text.{is_blank}

digit_is_not_blank : (c : ℕ) → is_ascii_digit c ≡ true → is_blank c ≡ false
digit_is_not_blank c h = grind (arith, nat_tests)

capital_is_not_blank : (c : ℕ) → is_ascii_uppercase c ≡ true → is_blank c ≡ false
capital_is_not_blank c h = grind (arith, nat_tests)

capital_is_no_digit : (c : ℕ) → is_ascii_uppercase c ≡ true → is_ascii_digit c ≡ false
capital_is_no_digit c h = grind (arith, nat_tests)

-- ---- blanks

pub words_skip : (xs : List ℕ) → words (drop (prefix_len is_blank xs) xs) ≡ words xs
words_skip [] = refl
words_skip (x ∷ xs) = go (is_blank x) refl (words_skip xs)
  where
    go : (b : Bool) → is_blank x ≡ b → words (drop (prefix_len is_blank xs) xs) ≡ words xs → words (drop (cond b (1 + prefix_len is_blank xs) 0) (x ∷ xs)) ≡ cond b (words xs) (cond (runs_on x xs) (onto_first x (words xs)) ((x ∷ []) ∷ words xs))
    go true e ih = ap (λ n. words (drop n (x ∷ xs))) (one-add (prefix_len is_blank xs)) ∙ ih
    go false e ih = ap (λ t. cond t (words xs) (cond (runs_on x xs) (onto_first x (words xs)) ((x ∷ []) ∷ words xs))) e

pub begins_skip : (p : ℕ → Bool) (xs : List ℕ) → begins p (drop (prefix_len p xs) xs) ≡ false
begins_skip p [] = refl
begins_skip p (x ∷ xs) = go (p x) refl (begins_skip p xs)
  where
    go : (b : Bool) → p x ≡ b → begins p (drop (prefix_len p xs) xs) ≡ false → begins p (drop (cond b (1 + prefix_len p xs) 0) (x ∷ xs)) ≡ false
    go true e ih = ap (λ n. begins p (drop n (x ∷ xs))) (one-add (prefix_len p xs)) ∙ ih
    go false e ih = e

-- ---- words

run_word : (p : ℕ → Bool) → ((c : ℕ) (cs : List ℕ) → p c ≡ true → words (c ∷ cs) ≡ cond (begins p cs) (onto_first c (words cs)) ((c ∷ []) ∷ words cs)) → (bs : List ℕ) (b : ℕ) → p b ≡ true → words (b ∷ bs) ≡ (b ∷ take (prefix_len p bs) bs) ∷ words (drop (prefix_len p bs) bs)
run_word p each [] b h = each b [] h
run_word p each (c ∷ cs) b h = each b (c ∷ cs) h ∙ go (p c) refl (run_word p each cs c)
  where
    go : (t : Bool) → p c ≡ t → (p c ≡ true → words (c ∷ cs) ≡ (c ∷ take (prefix_len p cs) cs) ∷ words (drop (prefix_len p cs) cs)) → cond t (onto_first b (words (c ∷ cs))) ((b ∷ []) ∷ words (c ∷ cs)) ≡ (b ∷ take (cond t (1 + prefix_len p cs) 0) (c ∷ cs)) ∷ words (drop (cond t (1 + prefix_len p cs) 0) (c ∷ cs))
    go true e ih = ap (onto_first b) (ih e) ∙ ap (λ n. (b ∷ take n (c ∷ cs)) ∷ words (drop n (c ∷ cs))) (sym (one-add (prefix_len p cs)))
    go false e ih = refl

run_from : (p : ℕ → Bool) → ((c : ℕ) (cs : List ℕ) → p c ≡ true → words (c ∷ cs) ≡ cond (begins p cs) (onto_first c (words cs)) ((c ∷ []) ∷ words cs)) → (b : ℕ) (bs : List ℕ) → p b ≡ true → words (b ∷ bs) ≡ take (prefix_len p (b ∷ bs)) (b ∷ bs) ∷ words (drop (prefix_len p (b ∷ bs)) (b ∷ bs))
run_from p each b bs h =
    run_word p each bs b h ∙ ap (λ n. take n (b ∷ bs) ∷ words (drop n (b ∷ bs))) (sym (ap (λ t. cond t (1 + prefix_len p bs) 0) h ∙ one-add (prefix_len p bs)))

each_digit : (c : ℕ) (cs : List ℕ) → is_ascii_digit c ≡ true → words (c ∷ cs) ≡ cond (begins is_ascii_digit cs) (onto_first c (words cs)) ((c ∷ []) ∷ words cs)
each_digit c cs h = by_tests (is_blank c) (is_ascii_digit c) (digit_is_not_blank c h) h
  where
    by_tests : (b d : Bool) → b ≡ false → d ≡ true → cond b (words cs) (cond (cond d (begins is_ascii_digit cs) (cond (is_ascii_uppercase c) (begins is_ascii_uppercase cs) false)) (onto_first c (words cs)) ((c ∷ []) ∷ words cs)) ≡ cond (begins is_ascii_digit cs) (onto_first c (words cs)) ((c ∷ []) ∷ words cs)
    by_tests false true e f = refl
    by_tests true d e f = absurd cc
    by_tests false false e f = absurd cc

each_capital : (c : ℕ) (cs : List ℕ) → is_ascii_uppercase c ≡ true → words (c ∷ cs) ≡ cond (begins is_ascii_uppercase cs) (onto_first c (words cs)) ((c ∷ []) ∷ words cs)
each_capital c cs h = by_tests (is_blank c) (is_ascii_digit c) (is_ascii_uppercase c) (capital_is_not_blank c h) (capital_is_no_digit c h) h
  where
    by_tests : (b d u : Bool) → b ≡ false → d ≡ false → u ≡ true → cond b (words cs) (cond (cond d (begins is_ascii_digit cs) (cond u (begins is_ascii_uppercase cs) false)) (onto_first c (words cs)) ((c ∷ []) ∷ words cs)) ≡ cond (begins is_ascii_uppercase cs) (onto_first c (words cs)) ((c ∷ []) ∷ words cs)
    by_tests false false true e f g = refl
    by_tests true d u e f g = absurd cc
    by_tests false true u e f g = absurd cc
    by_tests false false false e f g = absurd cc

words-cons : (b : ℕ) (bs : List ℕ) → is_blank b ≡ false → words (b ∷ bs) ≡ take (word_len (b ∷ bs)) (b ∷ bs) ∷ words (drop (word_len (b ∷ bs)) (b ∷ bs))
words-cons b bs blank = go (is_ascii_digit b) (is_ascii_uppercase b) refl refl
  where
    single : (t d u : Bool) → t ≡ false → d ≡ false → u ≡ false → cond t (words bs) (cond (cond d (begins is_ascii_digit bs) (cond u (begins is_ascii_uppercase bs) false)) (onto_first b (words bs)) ((b ∷ []) ∷ words bs)) ≡ (b ∷ []) ∷ words bs
    single false false false e f g = refl
    single true d u e f g = absurd cc
    single false true u e f g = absurd cc
    single false false true e f g = absurd cc

    go : (d u : Bool) → is_ascii_digit b ≡ d → is_ascii_uppercase b ≡ u → words (b ∷ bs) ≡ take (cond d (prefix_len is_ascii_digit (b ∷ bs)) (cond u (prefix_len is_ascii_uppercase (b ∷ bs)) 1)) (b ∷ bs) ∷ words (drop (cond d (prefix_len is_ascii_digit (b ∷ bs)) (cond u (prefix_len is_ascii_uppercase (b ∷ bs)) 1)) (b ∷ bs))
    go true u e f = run_from is_ascii_digit each_digit b bs e
    go false true e f = run_from is_ascii_uppercase each_capital b bs f
    go false false e f = single (is_blank b) (is_ascii_digit b) (is_ascii_uppercase b) blank e f

-- ---- tokens

pub from_word : (u : List ℕ) → begins is_blank u ≡ false → 0 < length u → tokens u ≡ word_token (take (word_len u) u) ∷ tokens (drop (word_len u) u)
from_word [] stops some = absurd (omega arith)
from_word (b ∷ bs) stops some = ap (map word_token) (words-cons b bs stops)

pub tokens_next : (t : List ℕ) → 0 < length (drop (prefix_len is_blank t) t) → tokens t ≡ word_token (take (word_len (drop (prefix_len is_blank t) t)) (drop (prefix_len is_blank t) t)) ∷ tokens (drop (word_len (drop (prefix_len is_blank t) t)) (drop (prefix_len is_blank t) t))
tokens_next t some = ap (map word_token) (sym (words_skip t)) ∙ from_word (drop (prefix_len is_blank t) t) (begins_skip is_blank t) some

from_nothing : (u : List ℕ) → length u ≡ 0 → tokens u ≡ []
from_nothing [] e = refl
from_nothing (b ∷ bs) e = absurd (omega arith)

pub tokens_end : (t : List ℕ) → length (drop (prefix_len is_blank t) t) ≡ 0 → tokens t ≡ []
tokens_end t none = ap (map word_token) (sym (words_skip t)) ∙ from_nothing (drop (prefix_len is_blank t) t) none
