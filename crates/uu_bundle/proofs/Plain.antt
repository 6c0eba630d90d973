-- The words of a bundle's lines have bytes of words alone.
use Rattle.std.proofs.Common.{◌≡◌, ◌∙◌, ◌&&◌, ◌<◌, ◌≤◌, ◌^◌, ◌==◌, eqb, ap, sym, refl, Bool, true, false, true≢false, ℕ, Option, Some, None, unwrap_or, slice_get, get_or, List, [], ◌∷◌, length, arith, All}
use Rattle.std.proofs.lemmas.Bool.Decides.{Decides-eqb, nat_tests}
use Rattle.std.proofs.lemmas.Fmt.{decimal_is_IsNumeral}
use Rattle.std.proofs.lemmas.List.Elements.{All-head, All-tail}
use Rattle.std.proofs.lemmas.List.Quantifiers.{position-Some}
use Rattle.std.proofs.lemmas.Option.{slice_get-get_or}
use Rattle.std.proofs.lemmas.Str.Parse.{digit_from_value}
use Rattle.std.proofs.lemmas.Bool.{and_from, and_parts}
use Rattle.std.specs.Prelude.{nat_le, IsTrue}
use Rattle.std.specs.Fmt.{decimal}
use Rattle.std.specs.List.{list_all}
use Rattle.std.specs.Option.{option_to_list}
use Rattle.std.specs.Str.Parse.{AllDigits}
use Rattle.uu_names.specs.Grade.{grade_bytes, grade_count, rank_of}
use Rattle.uu_names.specs.Name.{has_form, is_site_byte, is_site_name, is_word, is_word_byte, most_name, most_word}
use Rattle.uu_names.proofs.Basics.{list_all_weaker, word_from_site, all_below-at}
use Rattle.uu_bundle.specs.Internal.Forms.{are_bare, are_plain, is_bare_byte}
use Rattle.uu_bundle.specs.Texts.{grade_text}

plain_is_bare : (b : ℕ) → is_word_byte b ≡ true → is_bare_byte b ≡ true
plain_is_bare b e = grind (arith, nat_tests)

pub bare_from_plain : (words : List (List ℕ)) → are_plain words ≡ true → are_bare words ≡ true
bare_from_plain [] e = refl
bare_from_plain (word ∷ words) e =
    let parts = and_parts (list_all is_word_byte word) (are_plain words) e in
    and_from (list_all is_bare_byte word) (are_bare words) (list_all_weaker is_word_byte is_bare_byte word plain_is_bare parts.0) (bare_from_plain words parts.1)

pub word_is_plain : (word : List ℕ) → IsTrue (is_word word) → list_all is_word_byte word ≡ true
word_is_plain word e = (and_parts (nat_le 1 (length word)) _ (and_parts (has_form is_word_byte word) (nat_le (length word) most_word) e).0).1

pub site_plain : (name : List ℕ) → IsTrue (is_site_name name) → list_all is_word_byte name ≡ true
site_plain name e =
    list_all_weaker is_site_byte is_word_byte name word_from_site (and_parts (nat_le 1 (length name)) _ (and_parts (has_form is_site_byte name) (nat_le (length name) most_name) e).0).1

pub words_are_plain : (words : List (List ℕ)) → All (λ word. IsTrue (is_word word)) words → are_plain words ≡ true
words_are_plain [] all = refl
words_are_plain (word ∷ words) all =
    and_from (list_all is_word_byte word) (are_plain words) (word_is_plain word (All-head (λ w. IsTrue (is_word w)) word words all))
    (words_are_plain words (All-tail (λ w. IsTrue (is_word w)) word words all))

digit_is_plain : (c : ℕ) → 48 ≤ c → c ≤ 57 → is_word_byte c ≡ true
digit_is_plain c low high = grind (arith, nat_tests)

digits_are_plain : (digits : List ℕ) → AllDigits 10 digits → list_all is_word_byte digits ≡ true
digits_are_plain [] all = refl
digits_are_plain (c ∷ digits) all =
    let range = digit_from_value c all.0 in
    and_from (is_word_byte c) (list_all is_word_byte digits) (digit_is_plain c (omega arith) (omega arith)) (digits_are_plain digits all.1)

pub decimal_is_plain : (n : ℕ) → n < 2 ^ 64 → list_all is_word_byte (decimal n) ≡ true
decimal_is_plain n small = digits_are_plain (decimal n) (decimal_is_IsNumeral n small).0.1

-- ---- grades, looked up at each rank

-- one byte of a word, which reads back as the rank
abbrev reads_back : ℕ → List ℕ → Bool
reads_back rank (b ∷ []) = is_word_byte b && eqb (unwrap_or (rank_of b) 62) rank
reads_back rank _ = false

graded : (rank : ℕ) (text : List ℕ) → reads_back rank text ≡ true → rank < 62 → (b : ℕ) × (text ≡ b ∷ []) × (is_word_byte b ≡ true) × (rank_of b ≡ Some rank)
graded rank [] e below = absurd (true≢false (sym e))
graded rank (b ∷ c ∷ text) e below = absurd (true≢false (sym e))
graded rank (b ∷ []) e below =
    let parts = and_parts (is_word_byte b) (eqb (unwrap_or (rank_of b) 62) rank) e in
    (b, refl, parts.0, read (rank_of b) parts.1)
  where
    read : (o : Option ℕ) → eqb (unwrap_or o 62) rank ≡ true → o ≡ Some rank
    read (Some n) is = ap Some ((Decides-eqb n rank).0 is)
    read None is = let same : 62 ≡ rank = (Decides-eqb 62 rank).0 is in absurd (omega arith)

pub grade_is : (grade : ℕ) → grade < grade_count → (b : ℕ) × (grade_text grade ≡ b ∷ []) × (is_word_byte b ≡ true) × (rank_of b ≡ Some grade)
grade_is grade below = graded grade (grade_text grade) (all_below-at (λ k. reads_back k (grade_text k)) 62 refl grade below) below

pub grade_is_plain : (grade : ℕ) → grade < grade_count → list_all is_word_byte (grade_text grade) ≡ true
grade_is_plain grade below = let is = grade_is grade below in ap (list_all is_word_byte) is.1 ∙ and_from (is_word_byte is.0) true is.2 refl

-- the letter of a rank
pub letter_is : (b grade : ℕ) → rank_of b ≡ Some grade → (grade_text grade ≡ b ∷ []) × (grade < grade_count)
letter_is b grade is =
    let at = position-Some (λ g. g == b) grade_bytes grade 0 is in
    let letter : slice_get grade_bytes grade ≡ Some b = slice_get-get_or grade_bytes grade 0 at.0 ∙ ap Some ((Decides-eqb (get_or grade_bytes grade 0) b).0 at.1) in
    (ap option_to_list letter, at.0)
