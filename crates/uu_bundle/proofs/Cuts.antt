-- A line of bare words is cut into them in one way.
use Rattle.std.proofs.Common.{◌≡◌, ◌∙◌, ◌==◌, ap, sym, refl, Bool, true, false, Some, None, nat_lt, cond, not, subst, true≢false, ℕ, ◌+◌, ◌-◌, ◌<◌, ◌≤◌, length, take, drop, length-drop, arith, List, [], ◌∷◌, ◌++◌, append_assoc}
use borrow.Author.Tests.{ltb-true}
use Rattle.std.proofs.lemmas.Bool.Decides.{Decides-eqb, nat_tests}
use Rattle.std.proofs.lemmas.List.{take-append-drop, take_all}
use Rattle.std.proofs.lemmas.List.Folds.{list_all-append}
use Rattle.std.proofs.lemmas.Str.{IsUtf8-from_ascii}
use Rattle.std.proofs.lemmas.Str.Ascii.{IsAscii-cons, IsAscii-nil}
use Rattle.std.proofs.lemmas.Bool.{and_from, and_parts, not-true}
use Rattle.std.proofs.Math.Numerals.{one-add}
use Rattle.std.specs.Str.{IsAscii, IsUtf8}
use Rattle.uu_names.specs.Name.{is_word_byte}
use Rattle.uu_names.proofs.Basics.{list_all_weaker}
use Rattle.std.specs.List.{list_all, onto_first, position_or_len, slice_split}
use Rattle.uu_bundle.specs.Internal.Forms.{HasFirstWords, are_bare, are_plain, has_no_end, is_bare_byte}
use Rattle.uu_bundle.specs.Texts.{line_text, spaced_words}
use Rattle.uu_bundle.proofs.Plain.{bare_from_plain}

-- what begins with a byte that does not pass
abbrev Ends : (ℕ → Bool) → List ℕ → Type 0
Ends p [] = ⊥
Ends p (byte ∷ bytes) = p byte ≡ false

-- two texts that each begin with bytes that pass, and then one that does not, begin with the same
cut : (p : ℕ → Bool) (x y r s : List ℕ) → list_all p x ≡ true → list_all p y ≡ true → Ends p r → Ends p s → x ++ r ≡ y ++ s → (x ≡ y) × (r ≡ s)
cut p [] [] r s of_x of_y end_r end_s e = (refl, e)
cut p [] (b ∷ y) [] s of_x of_y end_r end_s e = absurd end_r
cut p [] (b ∷ y) (q ∷ r) s of_x of_y end_r end_s e =
    let same : q ≡ b = cc in
    absurd (true≢false (sym (and_parts (p b) (list_all p y) of_y).0 ∙ ap p (sym same) ∙ end_r))
cut p (a ∷ x) [] r [] of_x of_y end_r end_s e = absurd end_s
cut p (a ∷ x) [] r (q ∷ s) of_x of_y end_r end_s e =
    let same : a ≡ q = cc in
    absurd (true≢false (sym (and_parts (p a) (list_all p x) of_x).0 ∙ ap p same ∙ end_s))
cut p (a ∷ x) (b ∷ y) r s of_x of_y end_r end_s e =
    let same : a ≡ b = cc in
    let more = cut p x y r s (and_parts (p a) (list_all p x) of_x).1 (and_parts (p b) (list_all p y) of_y).1 end_r end_s cc in
    (ap (λ c. c ∷ x) same ∙ ap (λ z. b ∷ z) more.0, more.1)

-- after a word comes a space, or the line end
ends : (words : List (List ℕ)) (input : List ℕ) → Ends is_bare_byte (spaced_words words ++ 10 ∷ input)
ends [] input = refl
ends (word ∷ words) input = refl

-- the words of a line, and the text after it
pub lines_cut : (xs ys : List (List ℕ)) (i j : List ℕ) → are_bare xs ≡ true → are_bare ys ≡ true
    → spaced_words xs ++ 10 ∷ i ≡ spaced_words ys ++ 10 ∷ j → (xs ≡ ys) × (i ≡ j)
lines_cut [] [] i j of_xs of_ys e = (refl, cc)
lines_cut [] (y ∷ ys) i j of_xs of_ys e = absurd cc
lines_cut (x ∷ xs) [] i j of_xs of_ys e = absurd cc
lines_cut (x ∷ xs) (y ∷ ys) i j of_xs of_ys e =
    let first = and_parts (list_all is_bare_byte x) (are_bare xs) of_xs in
    let second = and_parts (list_all is_bare_byte y) (are_bare ys) of_ys in
    let whole : 32 ∷ (x ++ (spaced_words xs ++ 10 ∷ i)) ≡ 32 ∷ (y ++ (spaced_words ys ++ 10 ∷ j)) =
    sym (append_assoc (32 ∷ x) (spaced_words xs) (10 ∷ i)) ∙ e ∙ append_assoc (32 ∷ y) (spaced_words ys) (10 ∷ j) in
    let parts = cut is_bare_byte x y (spaced_words xs ++ 10 ∷ i) (spaced_words ys ++ 10 ∷ j) first.0 second.0 (ends xs i) (ends ys j) cc in
    let more = lines_cut xs ys i j first.1 second.1 parts.1 in
    (ap (λ z. z ∷ xs) parts.0 ∙ ap (λ zs. y ∷ zs) more.0, more.1)

-- a text that begins with a line of plain words has these as its first words
pub found : (text first rest behind : List ℕ) (words cut : List (List ℕ)) → are_plain (first ∷ words) ≡ true
    → (32 ∷ text ≡ spaced_words cut ++ 10 ∷ rest) × (are_bare cut ≡ true)
    → text ≡ line_text first words ++ 10 ∷ behind → (cut ≡ first ∷ words) × (rest ≡ behind)
found text first rest behind words cut plain has is =
    lines_cut cut (first ∷ words) rest behind has.1 (bare_from_plain (first ∷ words) plain) (sym has.0 ∙ ap (λ t. 32 ∷ t) is)

-- ---- the parts of a line between its spaces

abbrev pub is_space : ℕ → Bool
is_space byte = byte == 32

pub joined_parts : (text : List ℕ) → spaced_words (slice_split is_space text) ≡ 32 ∷ text
joined_parts [] = refl
joined_parts (x ∷ xs) = by (x == 32) refl (joined_parts xs)
  where
    onto : (parts : List (List ℕ)) → spaced_words parts ≡ 32 ∷ xs → spaced_words (onto_first x parts) ≡ 32 ∷ (x ∷ xs)
    onto [] is = absurd (cc)
    onto (part ∷ parts) is = let rest : part ++ spaced_words parts ≡ xs = cc in ap (λ back. 32 ∷ (x ∷ back)) rest

    by : (b : Bool) → (x == 32) ≡ b → spaced_words (slice_split is_space xs) ≡ 32 ∷ xs
        → spaced_words (cond b ([] ∷ slice_split is_space xs) (onto_first x (slice_split is_space xs))) ≡ 32 ∷ (x ∷ xs)
    by true is behind = ap (λ back. 32 ∷ back) (behind ∙ ap (λ first. first ∷ xs) (sym ((Decides-eqb x 32).0 is)))
    by false is behind = onto (slice_split is_space xs) behind

bare : (x : ℕ) → (x == 32) ≡ false → (x == 10) ≡ false → is_bare_byte x ≡ true
bare x e f = rw (e, f)

pub bare_parts : (text : List ℕ) → has_no_end text ≡ true → are_bare (slice_split is_space text) ≡ true
bare_parts [] no_end = refl
bare_parts (x ∷ xs) no_end = by (x == 32) refl (bare_parts xs (and_parts (not (x == 10)) (has_no_end xs) no_end).1)
  where
    onto : (parts : List (List ℕ)) → is_bare_byte x ≡ true → are_bare parts ≡ true → are_bare (onto_first x parts) ≡ true
    onto [] apart all = rw apart
    onto (part ∷ parts) apart all = rw apart all

    by : (b : Bool) → (x == 32) ≡ b → are_bare (slice_split is_space xs) ≡ true
        → are_bare (cond b ([] ∷ slice_split is_space xs) (onto_first x (slice_split is_space xs))) ≡ true
    by true is behind = behind
    by false is behind = onto (slice_split is_space xs) (bare x is (not-true (x == 10) (and_parts (not (x == 10)) (has_no_end xs) no_end).0)) behind

-- ---- the first line

abbrev pub end_at : List ℕ → ℕ
end_at text = position_or_len (λ byte. byte == 10) text

before_end : (text : List ℕ) → has_no_end (take (end_at text) text) ≡ true
before_end [] = refl
before_end (x ∷ xs) = by (x == 10) refl (before_end xs)
  where
    by : (b : Bool) → (x == 10) ≡ b → has_no_end (take (end_at xs) xs) ≡ true → has_no_end (take (cond (not b) (1 + end_at xs) 0) (x ∷ xs)) ≡ true
    by true is rest = refl
    by false is rest = subst (λ k. has_no_end (take k (x ∷ xs)) ≡ true) (sym (one-add (end_at xs))) (rw is rest)

behind_end : (text : List ℕ) → end_at text < length text → drop (end_at text) text ≡ 10 ∷ drop 1 (drop (end_at text) text)
behind_end [] within = absurd (omega arith)
behind_end (x ∷ xs) within = by (x == 10) refl within (behind_end xs)
  where
    by : (b : Bool) → (x == 10) ≡ b → cond (not b) (1 + end_at xs) 0 < length (x ∷ xs)
        → (end_at xs < length xs → drop (end_at xs) xs ≡ 10 ∷ drop 1 (drop (end_at xs) xs))
        → drop (cond (not b) (1 + end_at xs) 0) (x ∷ xs) ≡ 10 ∷ drop 1 (drop (cond (not b) (1 + end_at xs) 0) (x ∷ xs))
    by true is l rest = ap (λ y. y ∷ xs) ((Decides-eqb x 10).0 is)
    by false is l rest = subst (λ k. drop k (x ∷ xs) ≡ 10 ∷ drop 1 (drop k (x ∷ xs))) (sym (one-add (end_at xs))) (rest (omega arith))

-- no line ends
pub no_line : (text back : List ℕ) (n : ℕ) → n ≡ end_at text → length back + n ≡ length text → length back < 1 → has_no_end text ≡ true
no_line text back n is whole none = ap has_no_end (sym (take_all (end_at text) text (omega arith))) ∙ before_end text

-- a line ends
pub a_line : (text front back : List ℕ) (n : ℕ) → n ≡ end_at text → front ≡ take n text → back ≡ drop n text → length back + n ≡ length text → 1 ≤ length back
    → (text ≡ front ++ 10 ∷ take (length back - 1) (drop 1 back)) × (has_no_end front ≡ true)
a_line text front back n is of_front of_back whole some =
    let here : drop n text ≡ 10 ∷ drop 1 (drop n text) = ap (λ k. drop k text) is ∙ behind_end text (omega arith) ∙ ap (λ k. 10 ∷ drop 1 (drop k text)) (sym is) in
    let all : take (length back - 1) (drop 1 back) ≡ drop 1 back = take_all (length back - 1) (drop 1 back) (omega (arith, length-drop 1 back)) in
    let joined : take n text ++ (10 ∷ drop 1 (drop n text)) ≡ text = ap (λ t. take n text ++ t) (sym here) ∙ take-append-drop n text in
    (sym joined ∙ ap (λ t. t ++ (10 ∷ drop 1 (drop n text))) (sym of_front) ∙ ap (λ t. front ++ (10 ∷ t)) (ap (drop 1) (sym of_back) ∙ sym all), ap has_no_end (of_front ∙ ap (λ k. take k text) is) ∙ before_end text)

-- ---- the first words of a text

-- the bytes of a line of plain words pass what bytes of words and spaces pass
spaced_pass : (p : ℕ → Bool) → ((b : ℕ) → is_word_byte b ≡ true → p b ≡ true) → p 32 ≡ true → (words : List (List ℕ)) → are_plain words ≡ true → list_all p (spaced_words words) ≡ true
spaced_pass p weaker space [] plain = refl
spaced_pass p weaker space (word ∷ words) plain =
    let parts = and_parts (list_all is_word_byte word) (are_plain words) plain in
    and_from (p 32) (list_all p (word ++ spaced_words words)) space
    (list_all-append p word (spaced_words words) ∙ and_from (list_all p word) (list_all p (spaced_words words)) (list_all_weaker is_word_byte p word weaker parts.0) (spaced_pass p weaker space words parts.1))

line_pass : (p : ℕ → Bool) → ((b : ℕ) → is_word_byte b ≡ true → p b ≡ true) → p 32 ≡ true → (first : List ℕ) (words : List (List ℕ)) → are_plain (first ∷ words) ≡ true
    → list_all p (line_text first words) ≡ true
line_pass p weaker space first words plain =
    let parts = and_parts (list_all is_word_byte first) (are_plain words) plain in
    list_all-append p first (spaced_words words)
    ∙ and_from (list_all p first) (list_all p (spaced_words words)) (list_all_weaker is_word_byte p first weaker parts.0) (spaced_pass p weaker space words parts.1)

abbrev is_no_end : ℕ → Bool
is_no_end byte = not (byte == 10)

plain_no_end : (b : ℕ) → is_word_byte b ≡ true → is_no_end b ≡ true
plain_no_end b e = grind (arith, nat_tests)

plain_is_ascii : (b : ℕ) → is_word_byte b ≡ true → nat_lt b 128 ≡ true
plain_is_ascii b e = grind (arith, nat_tests)

all_ascii : (bytes : List ℕ) → list_all (λ b. nat_lt b 128) bytes ≡ true → IsAscii bytes
all_ascii [] e = IsAscii-nil
all_ascii (b ∷ bytes) e =
    let parts = and_parts (nat_lt b 128) (list_all (λ x. nat_lt x 128) bytes) e in IsAscii-cons b bytes (ltb-true b 128 parts.0) (all_ascii bytes parts.1)

-- no line ends, so no line of words does
pub no_end_no_words : (text : List ℕ) → has_no_end text ≡ true → HasFirstWords text None
no_end_no_words text none first words behind plain is =
    let parts = and_parts (has_no_end (line_text first words)) (has_no_end (10 ∷ behind)) (sym (list_all-append is_no_end (line_text first words) (10 ∷ behind)) ∙ ap has_no_end (sym is) ∙ none) in
    true≢false (sym parts.1)

-- a line that isn't a text isn't one of plain words
pub no_text_no_words : (text line rest : List ℕ) → (text ≡ line ++ 10 ∷ rest) × (has_no_end line ≡ true) → ¬ (IsUtf8 line) → HasFirstWords text None
no_text_no_words text line rest at other first words behind plain is =
    let same = cut is_no_end line (line_text first words) (10 ∷ rest) (10 ∷ behind) at.1 (line_pass is_no_end plain_no_end refl first words plain) refl refl (sym at.0 ∙ is) in
    other (subst IsUtf8 (sym same.0) (IsUtf8-from_ascii (line_text first words) (all_ascii (line_text first words) (line_pass (λ b. nat_lt b 128) plain_is_ascii refl first words plain))))

-- the parts of a line
pub words_found : (text line rest : List ℕ) → (text ≡ line ++ 10 ∷ rest) × (has_no_end line ≡ true) → HasFirstWords text (Some (slice_split is_space line, rest))
words_found text line rest cut =
    (ap (λ t. 32 ∷ t) cut.0 ∙ ap (λ t. t ++ 10 ∷ rest) (sym (joined_parts line)), bare_parts line cut.1)
