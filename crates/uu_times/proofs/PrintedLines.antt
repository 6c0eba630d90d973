-- Words that are printed as lines are read as those words.
use Rattle.std.proofs.Common.{◌≡◌, ℕ, ◌+◌, ◌-◌, ◌*◌, ◌%◌, ◌<◌, ◌≤◌, ◌^◌, Bool, true, false, not, ◌&&◌, cond, None, Some, Result, Ok, Err, List, [], ◌∷◌, ◌++◌, length, take, get_or, refl, ap, sym, subst, ◌∙◌, arith, nat_eq, nat_le, append_assoc, All}
use Rattle.std.proofs.lemmas.Bool.{cond-true, cond-false, and_parts, ne_eqb, leb-true, le-leb, and_from, or_from}
use Rattle.std.proofs.lemmas.Bool.Decides.{nat_tests}
use Rattle.std.proofs.lemmas.Fmt.{decimal_by_steps, decimal_nonempty, length-decimal-le}
use Rattle.std.proofs.lemmas.List.Elements.{All-nil, All-cons, All-append, All-tail, All-weaker, All-get_or}
use Rattle.std.proofs.lemmas.List.Splits.{slice_split_at}
use Rattle.std.specs.Char.{is_ascii_digit}
use Rattle.std.specs.Fmt.{decimal}
use Rattle.std.specs.List.{flat_map, list_all}
use Rattle.std.specs.Str.Lines.{lines, lines_of_parts}
use Rattle.uu_names.specs.Text.{is_blank}
use Rattle.uu_names.proofs.Basics.{lines_of_parts_cons, list_all_both}
use Rattle.uu_times.proofs.GrammarLemmas.{is-digit}
use Rattle.uu_times.specs.declared.fault.TimeFault.{TimeFault}
use Rattle.uu_times.specs.Directives.{◌>>=◌, value_behind, number_of, words_say, line_says}
use Rattle.uu_times.specs.Lines.{Numbered, is_continued, without_last, joined_onto, joined, uncommented, words_of}
use Rattle.uu_times.specs.Internal.Reading.{Reading, absorbed_if, lines_read}
use Rattle.uu_times.specs.Printed.{behind, parted, line_text}
use Rattle.uu_times.proofs.WordLemmas.{words_behind, words_first, words_none}

-- a byte of a word that is printed
abbrev pub is_sound : ℕ → Bool
is_sound letter = nat_le 33 letter && (not (nat_eq letter 35) && not (nat_eq letter 92))

-- a byte of a line that is printed
abbrev pub IsPlain : ℕ → Type 0
IsPlain letter = (32 ≤ letter) × ((letter ≡ 35 → ⊥) × (letter ≡ 92 → ⊥))

abbrev pub IsWord : List ℕ → Type 0
IsWord word = (0 < length word) × (list_all is_sound word ≡ true)

abbrev pub AreWords : List (List ℕ) → Type 0
AreWords [] = Unit {0}
AreWords (word ∷ words) = IsWord word × AreWords words

abbrev pub AreLines : List (List (List ℕ)) → Type 0
AreLines [] = Unit {0}
AreLines (words ∷ more) = (0 < length words) × AreWords words × AreLines more

sound_tells : (letter : ℕ) → is_sound letter ≡ true → (33 ≤ letter) × ((letter ≡ 35 → ⊥) × (letter ≡ 92 → ⊥))
sound_tells letter sound =
    let both = and_parts (nat_le 33 letter) (not (nat_eq letter 35) && not (nat_eq letter 92)) sound in
    let others = and_parts (not (nat_eq letter 35)) (not (nat_eq letter 92)) both.1 in
    (leb-true 33 letter both.0, (other letter 35 others.0, other letter 92 others.1))
  where
    other : (a b : ℕ) → not (nat_eq a b) ≡ true → a ≡ b → ⊥
    other a b apart same = grind (arith, nat_tests)

all_sound : (P : ℕ → Type 0) → ((letter : ℕ) → is_sound letter ≡ true → P letter) → (word : List ℕ) → list_all is_sound word ≡ true → All P word
all_sound P each [] sound = All-nil P
all_sound P each (letter ∷ word) sound =
    let both = and_parts (is_sound letter) (list_all is_sound word) sound in All-cons P letter word (each letter both.0) (all_sound P each word both.1)

plain_word : (word : List ℕ) → list_all is_sound word ≡ true → All IsPlain word
plain_word word sound = all_sound IsPlain (λ letter is. let told = sound_tells letter is in (omega arith, told.1)) word sound

plain_behind : (words : List (List ℕ)) → AreWords words → All IsPlain (behind 32 words)
plain_behind [] are = All-nil IsPlain
plain_behind (word ∷ words) are =
    All-append IsPlain (32 ∷ word) (behind 32 words)
    (All-cons IsPlain 32 word (omega arith, ((λ e. absurd (omega arith)), (λ e. absurd (omega arith)))) (plain_word word are.0.1))
    (plain_behind words are.1)

plain_parted : (words : List (List ℕ)) → AreWords words → All IsPlain (parted 32 words)
plain_parted [] are = All-nil IsPlain
plain_parted (word ∷ words) are = All-append IsPlain word (behind 32 words) (plain_word word are.0.1) (plain_behind words are.1)

-- the last byte of a plain line
last_plain : (line : List ℕ) (other : ℕ) → ((letter : ℕ) → IsPlain letter → letter ≡ other → ⊥) → (0 ≡ other → ⊥) → All IsPlain line
    → nat_eq (get_or line (length line - 1) 0) other ≡ false
last_plain [] other each zero_other plain = ne_eqb 0 other zero_other
last_plain (letter ∷ line) other each zero_other plain =
    ne_eqb (get_or (letter ∷ line) (length (letter ∷ line) - 1) 0) other
    (each (get_or (letter ∷ line) (length (letter ∷ line) - 1) 0) (All-get_or IsPlain (letter ∷ line) (length (letter ∷ line) - 1) 0 (omega arith) plain))

-- a line and its line feed
line_first : (line rest : List ℕ) → All IsPlain line → lines (line ++ 10 ∷ rest) ≡ line ∷ lines rest
line_first line rest plain =
    ap lines_of_parts (slice_split_at (λ b. nat_eq b 10) line 10 rest (All-weaker IsPlain (λ b. nat_eq b 10 ≡ false) (λ b is. ne_eqb b 10 (λ e. omega arith)) line plain) refl)
    ∙ lines_of_parts_cons (λ b. nat_eq b 10) line rest
    ∙ ap (λ l. l ∷ lines rest) (cond-false (nat_eq (get_or line (length line - 1) 0) 13) (take (length line - 1) line) line (last_plain line 13 (λ b is e. omega arith) (λ e. omega arith) plain))

-- it isn't joined with the next
joined_first : (number : ℕ) (line : List ℕ) (rest : List (List ℕ)) → All IsPlain line
    → joined number (line ∷ rest) ≡ record { number = number; line = line } ∷ joined (number + 1) rest
unfolding joined
joined_first number line rest plain =
    cond-false (is_continued line) (joined_onto number (without_last line) (joined (number + 1) rest)) (record { number = number; line = line } ∷ joined (number + 1) rest)
    (last_plain line 92 (λ b is e. is.1.1 e) (λ e. omega arith) plain)

-- and has no comment
plain_head : (letter : ℕ) (line : List ℕ) → All IsPlain (letter ∷ line) → IsPlain letter
plain_head letter line plain = All-get_or IsPlain (letter ∷ line) 0 0 (omega arith) plain

uncommented_plain : (line : List ℕ) → All IsPlain line → uncommented line ≡ line
uncommented_plain [] plain = refl
uncommented_plain (letter ∷ []) plain =
    cond-false (nat_eq letter 35) [] (letter ∷ []) (ne_eqb letter 35 (plain_head letter [] plain).1.0)
uncommented_plain (letter ∷ next ∷ more) plain =
    let is = plain_head letter (next ∷ more) plain in
    cond-false (nat_eq letter 35) [] (cond (nat_eq letter 92 && nat_eq next 35) (next ∷ uncommented more) (letter ∷ uncommented (next ∷ more))) (ne_eqb letter 35 is.1.0)
    ∙ cond-false (nat_eq letter 92 && nat_eq next 35) (next ∷ uncommented more) (letter ∷ uncommented (next ∷ more)) (ap (λ b. b && nat_eq next 35) (ne_eqb letter 92 is.1.1))
    ∙ ap (λ rest. letter ∷ rest) (uncommented_plain (next ∷ more) (All-tail IsPlain letter (next ∷ more) plain))

-- its words
no_blank : (letter : ℕ) → is_sound letter ≡ true → is_blank letter ≡ false
no_blank letter sound = let told = sound_tells letter sound in or_from (nat_eq letter 32) (nat_eq letter 9) (ne_eqb letter 32 (λ e. omega arith)) (ne_eqb letter 9 (λ e. omega arith))

words_parted : (word : List ℕ) (words : List (List ℕ)) → AreWords (word ∷ words) → words_of (word ++ behind 32 words) ≡ word ∷ words
words_parted word [] are =
    words_first word [] are.0.0 (all_sound (λ b. is_blank b ≡ false) no_blank word are.0.1) (λ some. absurd (omega arith))
    ∙ ap (λ rest. word ∷ rest) (words_none [] (λ k below. absurd (omega arith)))
words_parted word (next ∷ words) are =
    words_first word (32 ∷ (next ++ behind 32 words)) are.0.0 (all_sound (λ b. is_blank b ≡ false) no_blank word are.0.1) (λ some. refl)
    ∙ ap (λ rest. word ∷ rest)
    (words_behind (32 ∷ []) (next ++ behind 32 words) (All-cons (λ b. is_blank b ≡ true) 32 [] refl (All-nil (λ b. is_blank b ≡ true))) ∙ words_parted next words are.1)

line_words : (tables : _) (number : ℕ) (words : List (List ℕ)) → 0 < length words → AreWords words → line_says tables number (parted 32 words) ≡ words_say tables number words
line_words tables number [] some are = absurd (omega arith)
line_words tables number (word ∷ words) some are =
    ap (words_say tables number) (ap words_of (uncommented_plain (parted 32 (word ∷ words)) (plain_parted (word ∷ words) are)) ∙ words_parted word words are)

-- lines of words, taken in one after the other
abbrev pub line_taken : Reading → ℕ → List (List ℕ) → Result Reading TimeFault
line_taken reading number words = words_say reading.tables number words >>= λ directive. absorbed_if reading number directive

abbrev pub taken : Reading → ℕ → List (List (List ℕ)) → Result Reading TimeFault
taken reading number [] = Ok reading
taken reading number (words ∷ more) = line_taken reading number words >>= λ next. taken next (number + 1) more

goes-on : (rest : List Numbered) (number : ℕ) (more : List (List (List ℕ))) (answer : Result Reading TimeFault)
    → ((next : Reading) → lines_read next rest ≡ taken next number more) → (answer >>= λ next. lines_read next rest) ≡ (answer >>= λ next. taken next number more)
goes-on rest number more (Ok next) later = later next
goes-on rest number more (Err fault) later = refl

pub lines-taken : (all : List (List (List ℕ))) (reading : Reading) (number : ℕ) → AreLines all
    → lines_read reading (joined number (lines (flat_map line_text all))) ≡ taken reading number all
unfolding lines_read joined
lines-taken [] reading number are = refl
lines-taken (words ∷ more) reading number are =
    let rest = flat_map line_text more in
    let line = parted 32 words in
    ap (λ text. lines_read reading (joined number (lines text))) (append_assoc line (10 ∷ []) rest)
    ∙ ap (λ ls. lines_read reading (joined number ls)) (line_first line rest (plain_parted words are.1))
    ∙ ap (lines_read reading) (joined_first number line (lines rest) (plain_parted words are.1))
    ∙ ap (λ s. (s >>= λ directive. absorbed_if reading number directive) >>= λ next. lines_read next (joined (number + 1) (lines rest))) (line_words reading.tables number words are.0 are.1)
    ∙ goes-on (joined (number + 1) (lines rest)) (number + 1) more (line_taken reading number words) (λ next. lines-taken more next (number + 1) are.2)

-- numbers
value_more : (value : ℕ) (digits : List ℕ) (d : ℕ) → value_behind value (digits ++ d ∷ []) ≡ value_behind value digits * 10 + (d - 48)
value_more value [] d = refl
value_more value (digit ∷ digits) d = value_more (value * 10 + (digit - 48)) digits d

record IsNumber (n : ℕ) (digits : List ℕ) : Type 0 where
  digit : list_all is_ascii_digit digits ≡ true
  value : value_behind 0 digits ≡ n
  sound : list_all is_sound digits ≡ true

pub digit_sound : (d : ℕ) → d < 10 → is_sound (48 + d) ≡ true
digit_sound d below =
    and_from (nat_le 33 (48 + d)) (not (nat_eq (48 + d) 35) && not (nat_eq (48 + d) 92)) (le-leb 33 (48 + d) (omega arith))
    (and_from (not (nat_eq (48 + d) 35)) (not (nat_eq (48 + d) 92)) (ap not (ne_eqb (48 + d) 35 (λ e. omega arith))) (ap not (ne_eqb (48 + d) 92 (λ e. omega arith))))

pub one_true : (b : Bool) → b ≡ true → (b && true) ≡ true
one_true b is = ap (λ t. t && true) is

number-is : (n : ℕ) → n < 2 ^ 64 → IsNumber n (decimal n)
number-is =
    decimal_by_steps IsNumber
    (λ n below. record { digit = one_true (is_ascii_digit (48 + n)) (is-digit n below); value = omega arith; sound = one_true (is_sound (48 + n)) (digit_sound n below) })
    (λ n ds some is. record {
      digit = list_all_both is_ascii_digit ds ((48 + n % 10) ∷ []) is.digit (one_true (is_ascii_digit (48 + n % 10)) (is-digit (n % 10) (omega arith)));
      value = value_more 0 ds (48 + n % 10) ∙ ap (λ v. v * 10 + (48 + n % 10 - 48)) is.value ∙ omega arith;
      sound = list_all_both is_sound ds ((48 + n % 10) ∷ []) is.sound (one_true (is_sound (48 + n % 10)) (digit_sound (n % 10) (omega arith)));
    })

wide : (n : ℕ) → n < 10 ^ 9 → n < 2 ^ 64
wide n below = omega arith

pub number-word : (n : ℕ) → n < 10 ^ 9 → IsWord (decimal n)
number-word n below = (decimal_nonempty n (wide n below), (number-is n (wide n below)).sound)

pub number-read : (limit n : ℕ) → n ≤ limit → n < 10 ^ 9 → number_of limit (decimal n) ≡ Some n
number-read limit n within below =
    let is = number-is n (wide n below) in
    let a = nat_le 1 (length (decimal n)) in let b = nat_le (length (decimal n)) 9 in let c = list_all is_ascii_digit (decimal n) in let d = nat_le (value_behind 0 (decimal n)) limit in
    cond-true (a && b && c && d) (Some (value_behind 0 (decimal n))) None
    (and_from (a && b && c) d (and_from (a && b) c (and_from a b (le-leb 1 (length (decimal n)) (decimal_nonempty n (wide n below))) (le-leb (length (decimal n)) 9 (length-decimal-le 9 n (omega arith) below (wide n below)))) is.digit)
    (le-leb (value_behind 0 (decimal n)) limit (subst (λ v. v ≤ limit) (sym is.value) within)))
    ∙ ap Some is.value
