-- What is read is a list of simple strings, and what isn't read has the longest front that begins
-- one.
use Rattle.std.proofs.Common.{◌≡◌, ◌⊎◌, inl, inr, ℕ, ◌+◌, ◌-◌, ◌*◌, ◌/◌, ◌%◌, ◌<◌, ◌≤◌, Bool, true, false, ◌&&◌, cond, Option, None, Some, option_map, option_and_then, Result, Ok, Err, List, [], ◌∷◌, ◌++◌, length, map, refl, ap, sym, subst, ◌∙◌, arith, append_assoc, append-nil, length-append, nat_eq, nat_le, nat_lt}
use Rattle.std.proofs.lemmas.Bool.{cond-true, cond-false, cases_Bool, eqb-true, ltb-true, leb-true, and_parts, or_cases}
use Rattle.std.proofs.lemmas.Option.{same_Some, cond_some}
use Rattle.std.specs.Char.{is_ascii_digit}
use Rattle.std.specs.List.{flat_map, list_any}
use Rattle.uu_times.specs.declared.days.Days.{Days}
use Rattle.uu_times.specs.declared.days.Simple.{Simple}
use Rattle.uu_times.specs.declared.scan.Found.{Found}
use Rattle.uu_times.specs.declared.scan.Place.{Place}
use Rattle.uu_times.specs.declared.scan.Place.TheVariants.{Start, Letter, LettersAn, Named, From, Dash, To, Whole}
use Rattle.uu_times.specs.Internal.Simples.{no_days, with_days, two_letters, days_of, simple_of}
use Rattle.uu_times.specs.Grammar.{DayWord, su, mo, tu, we, th, fr, sa, wk, any, word_text, word_days, Hours, Spelling, two_digits, hours_text, spelled, IsTime, IsEnd, AreHours, IsSpelling, Spells, bounds_of, is_separator}
use Rattle.uu_times.specs.Internal.Scan.{is_time, is_end, more_digits, start_digit, end_digit, first_letter, second_letter, next_place, simple_at, after, ending, going_on, scan}
use Rattle.uu_times.proofs.GrammarLemmas.{written, place_behind, simple_behind, made}

-- what an equation of options says
pub none-some : {X : Type 0} (y : X) (o : Option X) → o ≡ None → o ≡ Some y → ⊥
none-some y o none some = cc

ok_same : {X : Type 0} (x y : X) → let r : Result X ℕ = Ok x in r ≡ Ok y → x ≡ y
ok_same x y same = cc

err-ok : {X : Type 0} (at : ℕ) (y : X) → let r : Result X ℕ = Err at in r ≡ Ok y → ⊥
err-ok at y same = cc

choice : {X : Type 0} (b : Bool) (x y : X) (o : Option X) → cond b (Some x) o ≡ Some y → ((b ≡ true) × (x ≡ y)) ⊎ (o ≡ Some y)
choice true x y o same = inl (refl, same_Some x y same)
choice false x y o same = inr same

mapped : {X Y : Type 0} (f : X → Y) (o : Option X) (y : Y) → option_map f o ≡ Some y → (x : X) × (o ≡ Some x) × (f x ≡ y)
mapped f None y same = absurd (none-some y None refl same)
mapped f (Some x) y same = (x, refl, same_Some (f x) y same)

-- a day word of two letters
both : (a b x y : ℕ) → (nat_eq a x && nat_eq b y) ≡ true → let one : List ℕ = x ∷ y ∷ [] in one ≡ a ∷ b ∷ []
both a b x y test =
    let parts = and_parts (nat_eq a x) (nat_eq b y) test in
    ap (λ (p : ℕ). let l : List ℕ = p ∷ y ∷ [] in l) (sym (eqb-true a x parts.0)) ∙ ap (λ (q : ℕ). let l : List ℕ = a ∷ q ∷ [] in l) (sym (eqb-true b y parts.1))

pub record IsWord (a b : ℕ) (more : ℕ × ℕ) : Type 0 where
  pub word : DayWord
  pub days : word_days word ≡ more
  pub text : word_text word ≡ a ∷ b ∷ []

two_word : (a b : ℕ) (more : ℕ × ℕ) → two_letters a b ≡ Some more → IsWord a b more
two_word a b more same =
    elim (choice (nat_eq a 115 && nat_eq b 117) (0, 0) more _ same) [
      | inl found ↦ record { word = su; days = found.1; text = both a b 115 117 found.0 }
      | inr later ↦
          elim (choice (nat_eq a 109 && nat_eq b 111) (1, 1) more _ later) [
            | inl found ↦ record { word = mo; days = found.1; text = both a b 109 111 found.0 }
            | inr later ↦
                elim (choice (nat_eq a 116 && nat_eq b 117) (2, 2) more _ later) [
                  | inl found ↦ record { word = tu; days = found.1; text = both a b 116 117 found.0 }
                  | inr later ↦
                      elim (choice (nat_eq a 119 && nat_eq b 101) (3, 3) more _ later) [
                        | inl found ↦ record { word = we; days = found.1; text = both a b 119 101 found.0 }
                        | inr later ↦
                            elim (choice (nat_eq a 116 && nat_eq b 104) (4, 4) more _ later) [
                              | inl found ↦ record { word = th; days = found.1; text = both a b 116 104 found.0 }
                              | inr later ↦
                                  elim (choice (nat_eq a 102 && nat_eq b 114) (5, 5) more _ later) [
                                    | inl found ↦ record { word = fr; days = found.1; text = both a b 102 114 found.0 }
                                    | inr later ↦
                                        elim (choice (nat_eq a 115 && nat_eq b 97) (6, 6) more _ later) [
                                          | inl found ↦ record { word = sa; days = found.1; text = both a b 115 97 found.0 }
                                          | inr later ↦
                                              elim (choice (nat_eq a 119 && nat_eq b 107) (1, 5) more _ later) [
                                                | inl found ↦ record { word = wk; days = found.1; text = both a b 119 107 found.0 }
                                                | inr later ↦
                                                    absurd (none-some more None refl later)
                                              ]
                                        ]
                                  ]
                            ]
                      ]
                ]
          ]
    ]

-- the words that were read, with their text
pub record Words (days : Days) (text : List ℕ) : Type 0 where
  pub words : List DayWord
  pub named : days ≡ days_of no_days words
  pub spelled : text ≡ flat_map word_text words

days_more : (days : Days) (words : List DayWord) (word : DayWord) → days_of days (words ++ word ∷ []) ≡ with_days (days_of days words) (word_days word)
days_more days [] word = refl
days_more days (first ∷ words) word = days_more (with_days days (word_days first)) words word

text-more : (words : List DayWord) (word : DayWord) → flat_map word_text (words ++ word ∷ []) ≡ flat_map word_text words ++ word_text word
text-more [] word = append-nil (word_text word)
text-more (first ∷ words) word = ap (λ rest. word_text first ++ rest) (text-more words word) ∙ sym (append_assoc (word_text first) (flat_map word_text words) (word_text word))

no-words : Words no_days []
no-words = record { words = []; named = refl; spelled = refl }

-- one day word or more
pub record Named' (days : Days) (text : List ℕ) : Type 0 where
  pub front : Words days text
  pub some : 0 < length front.words

one-more : (days : Days) (text : List ℕ) (word : DayWord) → Words days text → Named' (with_days days (word_days word)) (text ++ word_text word)
one-more days text word front = record {
  front = record {
    words = front.words ++ word ∷ [];
    named = ap (λ (d : Days). with_days d (word_days word)) front.named ∙ sym (days_more no_days front.words word);
    spelled = ap (λ t. t ++ word_text word) front.spelled ∙ sym (text-more front.words word);
  };
  some = omega (arith, length-append front.words (word ∷ []));
}

-- the digits of a time, or of an end
pub record Clock (passes : ℕ → ℕ → Type 0) (digits : ℕ) (text : List ℕ) : Type 0 where
  pub hour : ℕ
  pub minute : ℕ
  pub is : passes hour minute
  pub value : digits ≡ written hour minute
  pub spelled : text ≡ two_digits hour ++ two_digits minute

-- the digits so far of such a time
pub data Digits : ℕ → ℕ → List ℕ → Type 0 where
  none : Digits 1000 0 []
  one : (a : ℕ) → a < 10 → Digits 100 (0 + a * 1000) ((48 + a) ∷ [])
  two : (a b : ℕ) → a < 10 → b < 10 → Digits 10 (0 + a * 1000 + b * 100) ((48 + a) ∷ (48 + b) ∷ [])
  three : (a b c : ℕ) → a < 10 → b < 10 → c < 10 → Digits 1 (0 + a * 1000 + b * 100 + c * 10) ((48 + a) ∷ (48 + b) ∷ (48 + c) ∷ [])

-- what was read of a simple string
abbrev pub Pending : Place → List ℕ → Type 0
Pending Start text = text ≡ []
Pending (Letter days first) text = (front : List ℕ) × Words days front × (text ≡ front ++ first ∷ [])
Pending (LettersAn days) text = (front : List ℕ) × Words days front × (text ≡ front ++ 97 ∷ 110 ∷ [])
Pending (Named days) text = Named' days text
Pending (From days unit digits) text = (front part : List ℕ) × Named' days front × Digits unit digits part × (text ≡ front ++ part)
Pending (Dash days start) text = (front part : List ℕ) × Named' days front × Clock IsTime start part × (text ≡ front ++ part)
Pending (To days start unit digits) text =
    (front part last : List ℕ) × Named' days front × Clock IsTime start part × Digits unit digits last × (text ≡ front ++ (part ++ 45 ∷ last))
Pending (Whole days start end) text =
    (front part last : List ℕ) × Named' days front × Clock IsTime start part × Clock IsEnd end last × (text ≡ front ++ (part ++ 45 ∷ last))

-- a byte that is a digit
digit_value : (letter : ℕ) → is_ascii_digit letter ≡ true → (d : ℕ) × (d < 10) × (letter ≡ 48 + d)
digit_value letter is =
    let parts = and_parts (nat_le 48 letter) (nat_le letter 57) is in
    let low : 48 ≤ letter = leb-true 48 letter parts.0 in
    let high : letter ≤ 57 = leb-true letter 57 parts.1 in
    (letter - 48, omega arith, omega arith)

abbrev pub Led : (ℕ → Bool) → (ℕ → Place) → ℕ → ℕ → ℕ → Place → Type 0
Led test place unit digits letter next =
    (d : ℕ) × (d < 10) × (letter ≡ 48 + d) × (test (digits + d * unit) ≡ true) × (place (digits + d * unit) ≡ next)

digit_led : (test : ℕ → Bool) (place : ℕ → Place) (unit digits letter : ℕ) (next : Place)
    → option_and_then (λ more. cond (test more) (Some (place more)) None) (more_digits unit digits letter) ≡ Some next → Led test place unit digits letter next
digit_led test place unit digits letter next same =
    elim (cases_Bool (is_ascii_digit letter)) [
      | inl is ↦
          let value = digit_value letter is in
          let read : more_digits unit digits letter ≡ Some (digits + value.0 * unit) =
          cond-true (is_ascii_digit letter) (Some (digits + (letter - 48) * unit)) None is ∙ ap (λ (x : ℕ). Some (digits + x * unit)) (omega (arith, value.2)) in
          let passed = cond_some (test (digits + value.0 * unit)) (place (digits + value.0 * unit)) next
          (sym (ap (option_and_then (λ more. cond (test more) (Some (place more)) None)) read) ∙ same) in
          (value.0, value.1, value.2, passed.0, passed.1)
      | inr other ↦
          absurd (none-some next (option_and_then (λ more. cond (test more) (Some (place more)) None) (more_digits unit digits letter))
          (ap (option_and_then (λ more. cond (test more) (Some (place more)) None)) (cond-false (is_ascii_digit letter) (Some (digits + (letter - 48) * unit)) None other)) same)
    ]

-- a place that is another one
there : (place next : Place) (text : List ℕ) → place ≡ next → Pending place text → Pending next text
there place next text same pending = subst (λ (p : Place). Pending p text) same pending

-- a first letter
step_first : (days : Days) (text : List ℕ) (letter : ℕ) (next : Place) → Words days text → first_letter days letter ≡ Some next → Pending next (text ++ letter ∷ [])
step_first days text letter next front same =
    let passed = cond_some (list_any (λ first. nat_eq first letter) (115 ∷ 109 ∷ 116 ∷ 119 ∷ 102 ∷ 97 ∷ [])) (Letter days letter) next same in
    there (Letter days letter) next (text ++ letter ∷ []) passed.1 (text, front, refl)

step_second : (days : Days) (first letter : ℕ) (text front : List ℕ) (next : Place) → Words days front → text ≡ front ++ first ∷ [] → second_letter days first letter ≡ Some next
    → Pending next (text ++ letter ∷ [])
step_second days first letter text front next words is same =
    let whole : text ++ letter ∷ [] ≡ front ++ first ∷ letter ∷ [] = ap (λ t. t ++ letter ∷ []) is ∙ append_assoc front (first ∷ []) (letter ∷ []) in
    elim (choice (nat_eq first 97 && nat_eq letter 110) (LettersAn days) next (option_map (λ more. Named (with_days days more)) (two_letters first letter)) same) [
      | inl an ↦ there (LettersAn days) next (text ++ letter ∷ []) an.1 (front, words, whole ∙ ap (λ t. front ++ t) (sym (both first letter 97 110 an.0)))
      | inr later ↦
          let found = mapped (λ (more : ℕ × ℕ). Named (with_days days more)) (two_letters first letter) next later in
          let word = two_word first letter found.0 found.1 in
          there (Named (with_days days found.0)) next (text ++ letter ∷ []) found.2
          (subst (λ (t : List ℕ). Named' (with_days days found.0) t) (ap (λ t. front ++ t) word.text ∙ sym whole)
          (subst (λ (more : ℕ × ℕ). Named' (with_days days more) (front ++ word_text word.word)) word.days (one-more days front word.word words)))
    ]

-- digits of the time at which hours begin
clock_of : (a b c d digits : ℕ) (text : List ℕ) → a < 10 → b < 10 → c < 10 → d < 10 → digits ≡ 0 + a * 1000 + b * 100 + c * 10 + d * 1
    → text ≡ (48 + a) ∷ (48 + b) ∷ (48 + c) ∷ (48 + d) ∷ [] → (passes : ℕ → ℕ → Type 0) → passes (10 * a + b) (10 * c + d) → Clock passes digits text
clock_of a b c d digits text a_in b_in c_in d_in value is passes holds =
    let first : (10 * a + b) / 10 ≡ a = omega arith in
    let second : (10 * a + b) % 10 ≡ b = omega arith in
    let third : (10 * c + d) / 10 ≡ c = omega arith in
    let fourth : (10 * c + d) % 10 ≡ d = omega arith in
    record {
      hour = 10 * a + b;
      minute = 10 * c + d;
      is = holds;
      value = value ∙ omega arith;
      spelled = is
          ∙ ap (λ (x : ℕ). let l : List ℕ = (48 + x) ∷ (48 + b) ∷ (48 + c) ∷ (48 + d) ∷ [] in l) (sym first)
          ∙ ap (λ (x : ℕ). let l : List ℕ = (48 + (10 * a + b) / 10) ∷ (48 + x) ∷ (48 + c) ∷ (48 + d) ∷ [] in l) (sym second)
          ∙ ap (λ (x : ℕ). let l : List ℕ = (48 + (10 * a + b) / 10) ∷ (48 + (10 * a + b) % 10) ∷ (48 + x) ∷ (48 + d) ∷ [] in l) (sym third)
          ∙ ap (λ (x : ℕ). let l : List ℕ = (48 + (10 * a + b) / 10) ∷ (48 + (10 * a + b) % 10) ∷ (48 + (10 * c + d) / 10) ∷ (48 + x) ∷ [] in l) (sym fourth);
    }

time_from : (a b c d digits : ℕ) → b < 10 → c < 10 → d < 10 → digits ≡ 0 + a * 1000 + b * 100 + c * 10 + d * 1 → is_time digits ≡ true → IsTime (10 * a + b) (10 * c + d)
time_from a b c d digits b_in c_in d_in value is =
    let parts = and_parts (nat_lt (digits / 100) 24) (nat_lt (digits % 100) 60) is in
    let hour : digits / 100 < 24 = ltb-true (digits / 100) 24 parts.0 in
    let minute : digits % 100 < 60 = ltb-true (digits % 100) 60 parts.1 in
    (omega arith, omega arith)

end_from : (a b c d digits : ℕ) → a < 10 → b < 10 → c < 10 → d < 10 → digits ≡ 0 + a * 1000 + b * 100 + c * 10 + d * 1 → is_end digits ≡ true → IsEnd (10 * a + b) (10 * c + d)
end_from a b c d digits a_in b_in c_in d_in value is =
    elim (or_cases (is_time digits) (nat_eq digits 2400) is) [
      | inl time ↦ inl (time_from a b c d digits b_in c_in d_in value time)
      | inr last ↦ let all : digits ≡ 2400 = eqb-true digits 2400 last in inr (omega arith, omega arith)
    ]

-- the digits with one more: three, or the whole time
abbrev pub Grown : (ℕ → ℕ → Type 0) → ℕ → ℕ → List ℕ → Type 0
Grown passes unit digits text = ((nat_eq unit 1 ≡ false) × Digits (unit / 10) digits text) ⊎ ((nat_eq unit 1 ≡ true) × Clock passes digits text)

grow : (passes : ℕ → ℕ → Type 0) (unit digits : ℕ) (text : List ℕ) (d : ℕ) → Digits unit digits text → d < 10
    → ((a b c : ℕ) → a < 10 → b < 10 → c < 10 → digits + d * unit ≡ 0 + a * 1000 + b * 100 + c * 10 + d * 1 → passes (10 * a + b) (10 * c + d))
    → Grown passes unit (digits + d * unit) (text ++ (48 + d) ∷ [])
grow passes unit digits text d none d_in holds = inl (refl, one d d_in)
grow passes unit digits text d (one a a_in) d_in holds = inl (refl, two a d a_in d_in)
grow passes unit digits text d (two a b a_in b_in) d_in holds = inl (refl, three a b d a_in b_in d_in)
grow passes unit digits text d (three a b c a_in b_in c_in) d_in holds =
    inr (refl, clock_of a b c d (0 + a * 1000 + b * 100 + c * 10 + d * 1) ((48 + a) ∷ (48 + b) ∷ (48 + c) ∷ (48 + d) ∷ []) a_in b_in c_in d_in refl refl passes (holds a b c a_in b_in c_in refl))

step-from : (days : Days) (unit digits letter : ℕ) (text front part : List ℕ) (next : Place) → Named' days front → Digits unit digits part → text ≡ front ++ part
    → start_digit days unit digits letter ≡ Some next → Pending next (text ++ letter ∷ [])
step-from days unit digits letter text front part next words so_far is same =
    let led = digit_led is_time (λ more. cond (nat_eq unit 1) (Dash days more) (From days (unit / 10) more)) unit digits letter next same in
    let d = led.0 in
    let value = digits + d * unit in
    let whole : text ++ letter ∷ [] ≡ front ++ (part ++ (48 + d) ∷ []) =
    ap (λ t. t ++ letter ∷ []) is ∙ append_assoc front part (letter ∷ []) ∙ ap (λ (l : ℕ). front ++ (part ++ l ∷ [])) led.2 in
    elim (grow IsTime unit digits part d so_far led.1 (λ a b c a_in b_in c_in sum. time_from a b c d value b_in c_in led.1 sum led.3)) [
      | inl grown ↦ there (From days (unit / 10) value) next (text ++ letter ∷ []) (sym (cond-false (nat_eq unit 1) (Dash days value) (From days (unit / 10) value) grown.0) ∙ led.4)
          (front, part ++ (48 + d) ∷ [], words, grown.1, whole)
      | inr all ↦ there (Dash days value) next (text ++ letter ∷ []) (sym (cond-true (nat_eq unit 1) (Dash days value) (From days (unit / 10) value) all.0) ∙ led.4)
          (front, part ++ (48 + d) ∷ [], words, all.1, whole)
    ]

step_to : (days : Days) (start unit digits letter : ℕ) (text front part last : List ℕ) (next : Place) → Named' days front → Clock IsTime start part → Digits unit digits last
    → text ≡ front ++ (part ++ 45 ∷ last) → end_digit days start unit digits letter ≡ Some next → Pending next (text ++ letter ∷ [])
step_to days start unit digits letter text front part last next words begun so_far is same =
    let led = digit_led is_end (λ more. cond (nat_eq unit 1) (Whole days start more) (To days start (unit / 10) more)) unit digits letter next same in
    let d = led.0 in
    let value = digits + d * unit in
    let whole : text ++ letter ∷ [] ≡ front ++ (part ++ 45 ∷ (last ++ (48 + d) ∷ [])) =
    ap (λ t. t ++ letter ∷ []) is ∙ append_assoc front (part ++ 45 ∷ last) (letter ∷ []) ∙ ap (λ t. front ++ t) (append_assoc part (45 ∷ last) (letter ∷ []))
    ∙ ap (λ (l : ℕ). front ++ (part ++ 45 ∷ (last ++ l ∷ []))) led.2 in
    elim (grow IsEnd unit digits last d so_far led.1 (λ a b c a_in b_in c_in sum. end_from a b c d value a_in b_in c_in led.1 sum led.3)) [
      | inl grown ↦ there (To days start (unit / 10) value) next (text ++ letter ∷ []) (sym (cond-false (nat_eq unit 1) (Whole days start value) (To days start (unit / 10) value) grown.0) ∙ led.4)
          (front, part, last ++ (48 + d) ∷ [], words, begun, grown.1, whole)
      | inr all ↦ there (Whole days start value) next (text ++ letter ∷ []) (sym (cond-true (nat_eq unit 1) (Whole days start value) (To days start (unit / 10) value) all.0) ∙ led.4)
          (front, part, last ++ (48 + d) ∷ [], words, begun, all.1, whole)
    ]

-- each byte keeps what was read
step_next : (place next : Place) (letter : ℕ) (text : List ℕ) → next_place place letter ≡ Some next → Pending place text → Pending next (text ++ letter ∷ [])
step_next Start next letter text same pending =
    step_first no_days text letter next (subst (Words no_days) (sym pending) no-words) same
step_next (Letter days first) next letter text same (front, words, is) = step_second days first letter text front next words is same
step_next (LettersAn days) next letter text same (front, words, is) =
    let passed = cond_some (nat_eq letter 121) (Named (with_days days (0, 6))) next same in
    there (Named (with_days days (0, 6))) next (text ++ letter ∷ []) passed.1
    (subst (λ (t : List ℕ). Named' (with_days days (0, 6)) t)
    (sym (append_assoc front (97 ∷ 110 ∷ []) (121 ∷ [])) ∙ ap (λ t. t ++ 121 ∷ []) (sym is) ∙ ap (λ (l : ℕ). text ++ l ∷ []) (sym (eqb-true letter 121 passed.0)))
    (one-more days front any words))
step_next (Named days) next letter text same pending =
    elim (cases_Bool (is_ascii_digit letter)) [
      | inl digit ↦ step-from days 1000 0 letter text text [] next pending none (sym (append-nil text))
          (sym (cond-true (is_ascii_digit letter) (start_digit days 1000 0 letter) (first_letter days letter) digit) ∙ same)
      | inr other ↦ step_first days text letter next pending.front
          (sym (cond-false (is_ascii_digit letter) (start_digit days 1000 0 letter) (first_letter days letter) other) ∙ same)
    ]
step_next (From days unit digits) next letter text same (front, part, words, so_far, is) = step-from days unit digits letter text front part next words so_far is same
step_next (Dash days start) next letter text same (front, part, words, begun, is) =
    let passed = cond_some (nat_eq letter 45) (To days start 1000 0) next same in
    there (To days start 1000 0) next (text ++ letter ∷ []) passed.1 (
      front,
      part,
      [],
      words,
      begun,
      none,
      ap (λ t. t ++ letter ∷ []) is ∙ append_assoc front part (letter ∷ []) ∙ ap (λ (l : ℕ). front ++ (part ++ l ∷ [])) (eqb-true letter 45 passed.0),
    )
step_next (To days start unit digits) next letter text same (front, part, last, words, begun, so_far, is) =
    step_to days start unit digits letter text front part last next words begun so_far is same
step_next (Whole days start end) next letter text same pending = absurd (none-some next None refl same)

-- a simple string that ends
pub record Ended (text : List ℕ) (simple : Simple) : Type 0 where
  pub spelling : Spelling
  pub is : IsSpelling spelling
  pub text_is : text ≡ spelled spelling
  pub simple_is : simple ≡ simple_of spelling

ended_with : (days : Days) (hours : Option Hours) (front text : List ℕ) (simple : Simple) → AreHours hours → (words : Named' days front) → text ≡ front ++ hours_text hours
    → simple_at (place_behind days hours) ≡ Some simple → Ended text simple
ended_with days hours front text simple are words is same = record {
  spelling = record { words = words.front.words; hours = hours };
  is = (words.some, are);
  text_is = is ∙ ap (λ t. t ++ hours_text hours) words.front.spelled;
  simple_is = sym (same_Some (made days (option_map bounds_of hours)) simple (sym (simple_behind days hours are) ∙ same))
      ∙ ap (λ (d : Days). made d (option_map bounds_of hours)) words.front.named;
}

ends-at : (place : Place) (text : List ℕ) (simple : Simple) → Pending place text → simple_at place ≡ Some simple → Ended text simple
ends-at Start text simple pending same = absurd (none-some simple None refl same)
ends-at (Letter days first) text simple pending same = absurd (none-some simple None refl same)
ends-at (LettersAn days) text simple pending same = absurd (none-some simple None refl same)
ends-at (Named days) text simple pending same = ended_with days None text text simple tt pending (sym (append-nil text)) same
ends-at (From days unit digits) text simple pending same = absurd (none-some simple None refl same)
ends-at (Dash days start) text simple pending same = absurd (none-some simple None refl same)
ends-at (To days start unit digits) text simple pending same = absurd (none-some simple None refl same)
ends-at (Whole days start end) text simple (front, part, last, words, begun, ended, is) same =
    let hours : Hours = record { from_hour = begun.hour; from_minute = begun.minute; to_hour = ended.hour; to_minute = ended.minute } in
    ended_with days (Some hours) front text simple (begun.is, ended.is) words
    (is ∙ ap (λ p. front ++ (p ++ 45 ∷ last)) begun.spelled ∙ ap (λ l. front ++ ((two_digits begun.hour ++ two_digits begun.minute) ++ 45 ∷ l)) ended.spelled)
    (ap (λ (s : ℕ). simple_at (Whole days s (written ended.hour ended.minute))) (sym begun.value) ∙ ap (λ (e : ℕ). simple_at (Whole days start e)) (sym ended.value) ∙ same)

-- the simple strings that were read are written so
pub record Written (text : List ℕ) (simples : List Simple) : Type 0 where
  pub spellings : List Spelling
  pub spells : Spells text spellings
  pub are : simples ≡ map simple_of spellings

written_one : (text : List ℕ) (simple : Simple) (simples : List Simple) → Ended text simple → simple ∷ [] ≡ simples → Written text simples
written_one text simple simples ended is = record {
  spellings = ended.spelling ∷ [];
  spells = (ended.is, ended.text_is);
  are = sym is ∙ ap (λ (s : Simple). s ∷ []) ended.simple_is;
}

written-more : (text : List ℕ) (letter : ℕ) (rest : List ℕ) (simple : Simple) (more : List Simple) → is_separator letter ≡ true → Ended text simple → Written rest more
    → (spellings : List Spelling) → Spells rest spellings → more ≡ map simple_of spellings → Written (text ++ letter ∷ rest) (simple ∷ more)
written-more text letter rest simple more cuts ended behind [] spells are = absurd spells
written-more text letter rest simple more cuts ended behind (next ∷ others) spells are = record {
  spellings = ended.spelling ∷ next ∷ others;
  spells = (ended.is, (letter, rest, cuts, ap (λ t. t ++ letter ∷ rest) ended.text_is, spells));
  are = ap (λ (s : Simple). s ∷ more) ended.simple_is ∙ ap (λ (m : List Simple). simple_of ended.spelling ∷ m) are;
}

after-ok : (front : List Simple) (read : Result (List Simple) ℕ) (simples : List Simple) → after front 1 read ≡ Ok simples → (more : List Simple) × (read ≡ Ok more) × (front ++ more ≡ simples)
after-ok front (Ok more) simples same = (more, refl, ok_same (front ++ more) simples same)
after-ok front (Err at) simples same = absurd (err-ok (1 + at) simples same)

ending_written : (place : Place) (text : List ℕ) (simples : List Simple) (o : Option Simple) → simple_at place ≡ o → Pending place text → ending o ≡ Ok simples → Written text simples
ending_written place text simples None is pending same = absurd (err-ok 0 simples same)
ending_written place text simples (Some simple) is pending same =
    written_one text simple simples (ends-at place text simple pending is) (ok_same (simple ∷ []) simples same)

abbrev pub a_step : Option Simple → Place → Found
a_step simple next = record { simple = simple; next = next }

cut_written : (letter : ℕ) (letters : List ℕ) (place : Place) (text : List ℕ) (simples : List Simple) (o : Option Simple) → simple_at place ≡ o → is_separator letter ≡ true → Pending place text
    → ((more : List Simple) → scan Start letters ≡ Ok more → Written letters more)
    → going_on (option_map (λ s. a_step (Some s) Start) o) (λ p. scan p letters) ≡ Ok simples → Written (text ++ letter ∷ letters) simples
cut_written letter letters place text simples None is cuts pending read same = absurd (err-ok 0 simples same)
cut_written letter letters place text simples (Some simple) is cuts pending read same =
    let rest = after-ok (simple ∷ []) (scan Start letters) simples same in
    let behind = read rest.0 rest.1 in
    subst (λ (all : List Simple). Written (text ++ letter ∷ letters) all) rest.2
    (written-more text letter letters simple rest.0 cuts (ends-at place text simple pending is) behind behind.spellings behind.spells behind.are)

next-written : (letter : ℕ) (letters : List ℕ) (place : Place) (text : List ℕ) (simples : List Simple) (o : Option Place) → next_place place letter ≡ o
    → ((next : Place) → next_place place letter ≡ Some next → scan next letters ≡ Ok simples → Written ((text ++ letter ∷ []) ++ letters) simples)
    → going_on (option_map (λ n. a_step None n) o) (λ p. scan p letters) ≡ Ok simples → Written (text ++ letter ∷ letters) simples
next-written letter letters place text simples None is read same = absurd (err-ok 0 simples same)
next-written letter letters place text simples (Some next) is read same =
    let rest = after-ok [] (scan next letters) simples same in
    subst (λ (t : List ℕ). Written t simples) (append_assoc text (letter ∷ []) letters) (read next is (rest.1 ∙ ap (λ (m : List Simple). let r : Result (List Simple) ℕ = Ok m in r) rest.2))

scan_written : (rest : List ℕ) (place : Place) (text : List ℕ) (simples : List Simple) → Pending place text → scan place rest ≡ Ok simples → Written (text ++ rest) simples
unfolding scan
scan_written [] place text simples pending same =
    subst (λ (t : List ℕ). Written t simples) (sym (append-nil text)) (ending_written place text simples (simple_at place) refl pending same)
scan_written (letter ∷ letters) place text simples pending same =
    elim (cases_Bool (is_separator letter)) [
      | inl cuts ↦ cut_written letter letters place text simples (simple_at place) refl cuts pending
          (λ more read. scan_written letters Start [] more refl read)
          (sym (ap (λ b. going_on (cond b (option_map (λ s. a_step (Some s) Start) (simple_at place)) (option_map (λ n. a_step None n) (next_place place letter))) (λ p. scan p letters)) cuts) ∙ same)
      | inr plain ↦ next-written letter letters place text simples (next_place place letter) refl
          (λ next leads read. scan_written letters next (text ++ letter ∷ []) simples (step_next place next letter text leads pending) read)
          (sym (ap (λ b. going_on (cond b (option_map (λ s. a_step (Some s) Start) (simple_at place)) (option_map (λ n. a_step None n) (next_place place letter))) (λ p. scan p letters)) plain) ∙ same)
    ]

-- what is read is a list of simple strings
pub reads_lists : (text : List ℕ) (simples : List Simple) → scan Start text ≡ Ok simples → Written text simples
reads_lists text simples same = scan_written text Start [] simples refl same
