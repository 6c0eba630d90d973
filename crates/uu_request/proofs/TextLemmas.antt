-- The text of what is handed in is cut at its spaces and its line end in one way.
use Rattle.std.proofs.Common.{◌≡◌, ◌∙◌, ap, sym, refl, true, false, true≢false, ℕ, List, [], ◌∷◌, ◌++◌, Option, Some, None, drop, length, append_assoc, unwrap_or}
use Rattle.std.proofs.lemmas.Bool.{and_parts}
use Rattle.std.specs.Prelude.{nat_le}
use Rattle.std.specs.List.{list_all}
use Rattle.std.specs.Option.{option_map_or}
use Rattle.uu_names.specs.Name.{has_form, is_word, is_word_byte, most_word}
use Rattle.uu_request.specs.Marks.{Given, HasWords, spaced_words, marked_text_of}

-- the bytes of a word are those of words
bytes_pass : (word : List ℕ) → is_word word ≡ true → list_all is_word_byte word ≡ true
bytes_pass word e = (and_parts (nat_le 1 (length word)) _ (and_parts (has_form is_word_byte word) (nat_le (length word) most_word) e).0).1

-- what begins with a byte of no word
abbrev Ends : List ℕ → Type 0
Ends [] = ⊥
Ends (byte ∷ bytes) = is_word_byte byte ≡ false

-- two texts that each begin with a word, which then ends, begin with the same word
cut : (x y r s : List ℕ) → list_all is_word_byte x ≡ true → list_all is_word_byte y ≡ true → Ends r → Ends s → x ++ r ≡ y ++ s → (x ≡ y) × (r ≡ s)
cut [] [] r s of_x of_y end_r end_s e = (refl, e)
cut [] (b ∷ y) [] s of_x of_y end_r end_s e = absurd end_r
cut [] (b ∷ y) (p ∷ r) s of_x of_y end_r end_s e =
    let same : p ≡ b = cc in
    absurd (true≢false (sym (and_parts (is_word_byte b) (list_all is_word_byte y) of_y).0 ∙ ap is_word_byte (sym same) ∙ end_r))
cut (a ∷ x) [] r [] of_x of_y end_r end_s e = absurd end_s
cut (a ∷ x) [] r (q ∷ s) of_x of_y end_r end_s e =
    let same : a ≡ q = cc in
    absurd (true≢false (sym (and_parts (is_word_byte a) (list_all is_word_byte x) of_x).0 ∙ ap is_word_byte same ∙ end_s))
cut (a ∷ x) (b ∷ y) r s of_x of_y end_r end_s e =
    let same : a ≡ b = cc in
    let more = cut x y r s (and_parts (is_word_byte a) (list_all is_word_byte x) of_x).1 (and_parts (is_word_byte b) (list_all is_word_byte y) of_y).1 end_r end_s cc in
    (ap (λ c. c ∷ x) same ∙ ap (λ z. b ∷ z) more.0, more.1)

-- after a word comes a space, or the line end
ends : (words : List (List ℕ)) (input : List ℕ) → Ends (spaced_words words ++ 10 ∷ input)
ends [] input = refl
ends (word ∷ words) input = refl

-- the words of a line, and the input after it
lines_cut : (xs ys : List (List ℕ)) (i j : List ℕ) → list_all is_word xs ≡ true → list_all is_word ys ≡ true
    → spaced_words xs ++ 10 ∷ i ≡ spaced_words ys ++ 10 ∷ j → (xs ≡ ys) × (i ≡ j)
lines_cut [] [] i j of_xs of_ys e = (refl, cc)
lines_cut [] (y ∷ ys) i j of_xs of_ys e = absurd cc
lines_cut (x ∷ xs) [] i j of_xs of_ys e = absurd cc
lines_cut (x ∷ xs) (y ∷ ys) i j of_xs of_ys e =
    let first = and_parts (is_word x) (list_all is_word xs) of_xs in
    let second = and_parts (is_word y) (list_all is_word ys) of_ys in
    let whole : 32 ∷ (x ++ (spaced_words xs ++ 10 ∷ i)) ≡ 32 ∷ (y ++ (spaced_words ys ++ 10 ∷ j)) =
    sym (append_assoc (32 ∷ x) (spaced_words xs) (10 ∷ i)) ∙ e ∙ append_assoc (32 ∷ y) (spaced_words ys) (10 ∷ j) in
    let parts = cut x y (spaced_words xs ++ 10 ∷ i) (spaced_words ys ++ 10 ∷ j) (bytes_pass x first.0) (bytes_pass y second.0) (ends xs i) (ends ys j) cc in
    let more = lines_cut xs ys i j first.1 second.1 parts.1 in
    (ap (λ z. z ∷ xs) parts.0 ∙ ap (λ zs. y ∷ zs) more.0, more.1)

-- the line of a spool has the bytes of words
spool_passes : (spool : Option (List ℕ)) → option_map_or is_word spool true ≡ true → list_all is_word_byte (unwrap_or spool []) ≡ true
spool_passes None e = refl
spool_passes (Some word) e = bytes_pass word e

abbrev tail_of : List ℕ → List ℕ
tail_of text = drop 1 text

-- no word is empty, so that a line without bytes says none
spools_same : (spool other : Option (List ℕ)) → option_map_or is_word spool true ≡ true → option_map_or is_word other true ≡ true
    → unwrap_or spool [] ≡ unwrap_or other [] → spool ≡ other
spools_same None None e f same = refl
spools_same None (Some []) e f same = absurd cc
spools_same None (Some (b ∷ word)) e f same = absurd cc
spools_same (Some []) other e f same = absurd cc
spools_same (Some (b ∷ word)) None e f same = absurd cc
spools_same (Some (a ∷ word)) (Some other) e f same = ap Some same

abbrev made : Option (List ℕ) → List ℕ → List ℕ → List ℕ → List (List ℕ) → List ℕ → Given
made spool subcommand system user words input =
    record { spool = spool; subcommand = subcommand; system = system; user = user; words = words; input = input }

same_parts : (o p : Option (List ℕ)) (a b : List ℕ) (c d e f : List ℕ) (ws vs : List (List ℕ)) (i j : List ℕ)
    → o ≡ p → a ≡ b → c ∷ e ∷ ws ≡ d ∷ f ∷ vs → i ≡ j → made o a c e ws i ≡ made p b d f vs j
same_parts o p a b c d e f ws vs i j spool first second last =
    let system : c ≡ d = cc in
    let user : e ≡ f = cc in
    let words : ws ≡ vs = cc in
    ap (λ x. made x a c e ws i) spool ∙ ap (λ x. made p x c e ws i) first ∙ ap (λ x. made p b x e ws i) system ∙ ap (λ x. made p b d x ws i) user
    ∙ ap (λ x. made p b d f x i) words ∙ ap (made p b d f vs) last

pub told_apart : (one other : Given) → HasWords one → HasWords other → marked_text_of one ≡ marked_text_of other → one ≡ other
told_apart one other of_one of_other e =
    let own = one.system ∷ one.user ∷ one.words in
    let others = other.system ∷ other.user ∷ other.words in
    let own_words = and_parts (list_all is_word (one.subcommand ∷ own)) (option_map_or is_word one.spool true) of_one in
    let other_words = and_parts (list_all is_word (other.subcommand ∷ others)) (option_map_or is_word other.spool true) of_other in
    let spools = cut (unwrap_or one.spool []) (unwrap_or other.spool []) (10 ∷ ((one.subcommand ++ spaced_words own) ++ 10 ∷ one.input)) (10 ∷ ((other.subcommand ++ spaced_words others) ++ 10 ∷ other.input))
    (spool_passes one.spool own_words.1) (spool_passes other.spool other_words.1) refl refl e in
    let lines : (one.subcommand ++ spaced_words own) ++ 10 ∷ one.input ≡ (other.subcommand ++ spaced_words others) ++ 10 ∷ other.input = ap tail_of spools.1 in
    let first = and_parts (is_word one.subcommand) (list_all is_word own) own_words.0 in
    let second = and_parts (is_word other.subcommand) (list_all is_word others) other_words.0 in
    let whole = sym (append_assoc one.subcommand (spaced_words own) (10 ∷ one.input)) ∙ lines ∙ append_assoc other.subcommand (spaced_words others) (10 ∷ other.input) in
    let parts = cut one.subcommand other.subcommand (spaced_words own ++ 10 ∷ one.input) (spaced_words others ++ 10 ∷ other.input)
    (bytes_pass one.subcommand first.0) (bytes_pass other.subcommand second.0) (ends own one.input) (ends others other.input) whole in
    let more = lines_cut own others one.input other.input first.1 second.1 parts.1 in
    same_parts one.spool other.spool one.subcommand other.subcommand one.system other.system one.user other.user one.words other.words one.input other.input
    (spools_same one.spool other.spool own_words.1 other_words.1 spools.0) parts.0 more.0 more.1
