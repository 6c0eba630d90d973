-- The front of a text that begins a list of simple strings, and the minutes of one that is written.
use Rattle.std.proofs.Common.{◌≡◌, inl, inr, ℕ, zero, suc, ◌+◌, ◌*◌, ◌/◌, ◌%◌, ◌<◌, ◌≤◌, Bool, true, false, ◌&&◌, ◌||◌, cond, Option, None, Some, IfSome, option_map, option_and_then, option_to_list, Result, Ok, Err, List, [], ◌∷◌, ◌++◌, length, map, take, refl, ap, sym, subst, ◌∙◌, arith, nat_eq, lit<}
use Rattle.std.proofs.lemmas.Bool.{cond_both, eqb-true, or_cases, false≢true}
use Rattle.std.proofs.Math.Bool.{or-false, or_assoc}
use Rattle.std.specs.Char.{is_ascii_digit, to_ascii_lowercase}
use Rattle.std.specs.List.{list_any}
use Rattle.uu_times.specs.declared.days.Days.{Days}
use Rattle.uu_times.specs.declared.days.Simple.{Simple}
use Rattle.uu_times.specs.declared.scan.Found.{Found}
use Rattle.uu_times.specs.declared.scan.Place.{Place}
use Rattle.uu_times.specs.declared.scan.Place.TheVariants.{Start, Letter, LettersAn, Named, From, Dash, To, Whole}
use Rattle.uu_times.specs.Days.{spans, in_hours}
use Rattle.uu_times.specs.Grammar.{DayWord, word_days, Spelling, Spells, bounds_of, has_spelled, IsLongestFront, is_separator, lower}
use Rattle.uu_times.specs.Internal.Simples.{no_days, with_days, has_day, has_minute, two_letters, days_of, simple_of}
use Rattle.uu_times.specs.Internal.Scan.{is_time, is_end, minute_of, last_minute, more_digits, start_digit, first_letter, second_letter, next_place, simple_at, after, step, ending, going_on, scan, list_of}
use Rattle.uu_times.proofs.GrammarLemmas.{scan-next, scan_ending, start-digit, end-digit, lists_read}
use Rattle.uu_times.proofs.GrammarReads.{reads_lists}

-- what the next digit counts
pub data IsUnit : ℕ → Type 0 where
  thousand : IsUnit 1000
  hundred : IsUnit 100
  ten : IsUnit 10
  unit : IsUnit 1

-- a place from which a simple string can be ended
abbrev pub Live : Place → Type 0
Live Start = Unit {0}
Live (Letter days first) = list_any (λ letter. nat_eq letter first) (115 ∷ 109 ∷ 116 ∷ 119 ∷ 102 ∷ 97 ∷ []) ≡ true
Live (LettersAn days) = Unit {0}
Live (Named days) = Unit {0}
Live (From days counts digits) = IsUnit counts × (is_time digits ≡ true)
Live (Dash days start) = Unit {0}
Live (To days start counts digits) = IsUnit counts × (is_end digits ≡ true)
Live (Whole days start end) = Unit {0}

-- a test that has to pass for a value
pub guarded : {X : Type 0} (b : Bool) (x : X) (P : X → Type 0) → (b ≡ true → P x) → IfSome (cond b (Some x) None) P
guarded true x P h = h refl
guarded false x P h = tt

-- each byte leads to such a place
live_first : (days : Days) (letter : ℕ) → IfSome (first_letter days letter) Live
live_first days letter = guarded (list_any (λ first. nat_eq first letter) (115 ∷ 109 ∷ 116 ∷ 119 ∷ 102 ∷ 97 ∷ [])) (Letter days letter) Live (λ is. is)

live_named : (found : Option (ℕ × ℕ)) (f : ℕ × ℕ → Days) → IfSome (option_map (λ more. Named (f more)) found) Live
live_named None f = tt
live_named (Some more) f = tt

live_from : (days : Days) (counts digits : ℕ) → IsUnit counts → is_time digits ≡ true → Live (cond (nat_eq counts 1) (Dash days digits) (From days (counts / 10) digits))
live_from days counts digits thousand time = (hundred, time)
live_from days counts digits hundred time = (ten, time)
live_from days counts digits ten time = (unit, time)
live_from days counts digits unit time = tt

live_to : (days : Days) (start counts digits : ℕ) → IsUnit counts → is_end digits ≡ true → Live (cond (nat_eq counts 1) (Whole days start digits) (To days start (counts / 10) digits))
live_to days start counts digits thousand time = (hundred, time)
live_to days start counts digits hundred time = (ten, time)
live_to days start counts digits ten time = (unit, time)
live_to days start counts digits unit time = tt

live_digit : (test : ℕ → Bool) (place : ℕ → Place) (found : Option ℕ) → ((digits : ℕ) → test digits ≡ true → Live (place digits))
    → IfSome (option_and_then (λ more. cond (test more) (Some (place more)) None) found) Live
live_digit test place None live = tt
live_digit test place (Some more) live = guarded (test more) (place more) Live (live more)

live_start : (days : Days) (counts digits letter : ℕ) → IsUnit counts → IfSome (start_digit days counts digits letter) Live
live_start days counts digits letter is =
    live_digit is_time (λ more. cond (nat_eq counts 1) (Dash days more) (From days (counts / 10) more)) (more_digits counts digits letter) (λ more time. live_from days counts more is time)

live_next : (place : Place) (letter : ℕ) → Live place → IfSome (next_place place letter) Live
live_next Start letter live = live_first no_days letter
live_next (Letter days first) letter live =
    cond_both (nat_eq first 97 && nat_eq letter 110) (Some (LettersAn days)) (option_map (λ more. Named (with_days days more)) (two_letters first letter)) (λ o. IfSome o Live)
    (λ yes. tt) (λ no. live_named (two_letters first letter) (λ more. with_days days more))
live_next (LettersAn days) letter live = guarded (nat_eq letter 121) (Named (with_days days (0, 6))) Live (λ e. tt)
live_next (Named days) letter live =
    cond_both (is_ascii_digit letter) (start_digit days 1000 0 letter) (first_letter days letter) (λ o. IfSome o Live)
    (λ digit. live_start days 1000 0 letter thousand) (λ other. live_first days letter)
live_next (From days counts digits) letter live = live_start days counts digits letter live.0
live_next (Dash days start) letter live = guarded (nat_eq letter 45) (To days start 1000 0) Live (λ e. (thousand, refl))
live_next (To days start counts digits) letter live =
    live_digit is_end (λ more. cond (nat_eq counts 1) (Whole days start more) (To days start (counts / 10) more)) (more_digits counts digits letter) (λ more time. live_to days start counts more live.0 time)
live_next (Whole days start end) letter live = tt

live_ended : (simple : Option Simple) → IfSome (option_map (λ s. let f : Found = record { simple = Some s; next = Start } in f) simple) (λ f. Live f.next)
live_ended None = tt
live_ended (Some simple) = tt

live_led : (next : Option Place) → IfSome next Live → IfSome (option_map (λ n. let f : Found = record { simple = None; next = n } in f) next) (λ f. Live f.next)
live_led None live = tt
live_led (Some next) live = live

live_step : (place : Place) (letter : ℕ) → Live place → IfSome (step place letter) (λ found. Live found.next)
live_step place letter live =
    cond_both (is_separator letter) (option_map (λ s. record { simple = Some s; next = Start }) (simple_at place)) (option_map (λ n. record { simple = None; next = n }) (next_place place letter)) (λ o. IfSome o (λ f. Live f.next))
    (λ yes. live_ended (simple_at place)) (λ no. live_led (next_place place letter) (live_next place letter live))

-- a text that ends the list from a place
abbrev pub Ends : Place → Type 0
Ends place = (tail : List ℕ) × (simples : List Simple) × (scan place tail ≡ Ok simples)

zero_from : (days : Days) (counts digits : ℕ) → is_time digits ≡ true → Ends (cond (nat_eq counts 1) (Dash days digits) (From days (counts / 10) digits)) → Ends (From days counts digits)
zero_from days counts digits time ends =
    let same : digits + 0 * counts ≡ digits = omega arith in (
      48 ∷ ends.0,
      ends.1,
      scan-next (From days counts digits) (cond (nat_eq counts 1) (Dash days digits) (From days (counts / 10) digits)) 48 ends.0 ends.1 refl
          (start-digit days counts digits 0 (lit< tt) (ap is_time same ∙ time) ∙ ap (λ (x : ℕ). Some (cond (nat_eq counts 1) (Dash days x) (From days (counts / 10) x))) same) ends.2,
    )

zero_to : (days : Days) (start counts digits : ℕ) → is_end digits ≡ true → Ends (cond (nat_eq counts 1) (Whole days start digits) (To days start (counts / 10) digits)) → Ends (To days start counts digits)
zero_to days start counts digits time ends =
    let same : digits + 0 * counts ≡ digits = omega arith in (
      48 ∷ ends.0,
      ends.1,
      scan-next (To days start counts digits) (cond (nat_eq counts 1) (Whole days start digits) (To days start (counts / 10) digits)) 48 ends.0 ends.1 refl
          (end-digit days start counts digits 0 (lit< tt) (ap is_end same ∙ time) ∙ ap (λ (x : ℕ). Some (cond (nat_eq counts 1) (Whole days start x) (To days start (counts / 10) x))) same) ends.2,
    )

ends_whole : (days : Days) (start end : ℕ) → Ends (Whole days start end)
ends_whole days start end =
    let simple : Simple = record { days = days; hours = Some (minute_of start, last_minute end) } in ([], simple ∷ [], scan_ending (Whole days start end) simple refl)

ends_named : (days : Days) → Ends (Named days)
ends_named days = let simple : Simple = record { days = days; hours = None } in ([], simple ∷ [], scan_ending (Named days) simple refl)

ends_to : (days : Days) (start counts digits : ℕ) → IsUnit counts → is_end digits ≡ true → Ends (To days start counts digits)
ends_to days start counts digits unit time = zero_to days start 1 digits time (ends_whole days start digits)
ends_to days start counts digits ten time = zero_to days start 10 digits time (zero_to days start 1 digits time (ends_whole days start digits))
ends_to days start counts digits hundred time =
    zero_to days start 100 digits time (zero_to days start 10 digits time (zero_to days start 1 digits time (ends_whole days start digits)))
ends_to days start counts digits thousand time =
    zero_to days start 1000 digits time (zero_to days start 100 digits time (zero_to days start 10 digits time (zero_to days start 1 digits time (ends_whole days start digits))))

ends_dash : (days : Days) (start : ℕ) → Ends (Dash days start)
ends_dash days start =
    let ends = ends_to days start 1000 0 thousand refl in
    (45 ∷ ends.0, ends.1, scan-next (Dash days start) (To days start 1000 0) 45 ends.0 ends.1 refl refl ends.2)

ends_from : (days : Days) (counts digits : ℕ) → IsUnit counts → is_time digits ≡ true → Ends (From days counts digits)
ends_from days counts digits unit time = zero_from days 1 digits time (ends_dash days digits)
ends_from days counts digits ten time = zero_from days 10 digits time (zero_from days 1 digits time (ends_dash days digits))
ends_from days counts digits hundred time = zero_from days 100 digits time (zero_from days 10 digits time (zero_from days 1 digits time (ends_dash days digits)))
ends_from days counts digits thousand time =
    zero_from days 1000 digits time (zero_from days 100 digits time (zero_from days 10 digits time (zero_from days 1 digits time (ends_dash days digits))))

ends_word : (days : Days) (first letter : ℕ) (more : ℕ × ℕ) → is_separator letter ≡ false → second_letter days first letter ≡ Some (Named (with_days days more)) → Ends (Letter days first)
ends_word days first letter more plain leads =
    let ends = ends_named (with_days days more) in
    (letter ∷ ends.0, ends.1, scan-next (Letter days first) (Named (with_days days more)) letter ends.0 ends.1 plain leads ends.2)

ends_an : (days : Days) → Ends (LettersAn days)
ends_an days =
    let ends = ends_named (with_days days (0, 6)) in
    (121 ∷ ends.0, ends.1, scan-next (LettersAn days) (Named (with_days days (0, 6))) 121 ends.0 ends.1 refl refl ends.2)

ends_a : (days : Days) → Ends (Letter days 97)
ends_a days = let ends = ends_an days in (110 ∷ ends.0, ends.1, scan-next (Letter days 97) (LettersAn days) 110 ends.0 ends.1 refl refl ends.2)

at_letter : (days : Days) (letter first : ℕ) → nat_eq letter first ≡ true → Ends (Letter days letter) → Ends (Letter days first)
at_letter days letter first same ends = subst (λ (l : ℕ). Ends (Letter days l)) (eqb-true letter first same) ends

ends_letter : (days : Days) (first : ℕ) → list_any (λ letter. nat_eq letter first) (115 ∷ 109 ∷ 116 ∷ 119 ∷ 102 ∷ 97 ∷ []) ≡ true → Ends (Letter days first)
ends_letter days first is =
    elim (or_cases (nat_eq 115 first) _ is) [
      | inl s ↦ at_letter days 115 first s (ends_word days 115 117 (0, 0) refl refl)
      | inr later ↦
          elim (or_cases (nat_eq 109 first) _ later) [
            | inl m ↦ at_letter days 109 first m (ends_word days 109 111 (1, 1) refl refl)
            | inr later ↦
                elim (or_cases (nat_eq 116 first) _ later) [
                  | inl t ↦ at_letter days 116 first t (ends_word days 116 117 (2, 2) refl refl)
                  | inr later ↦
                      elim (or_cases (nat_eq 119 first) _ later) [
                        | inl w ↦ at_letter days 119 first w (ends_word days 119 101 (3, 3) refl refl)
                        | inr later ↦
                            elim (or_cases (nat_eq 102 first) _ later) [
                              | inl f ↦ at_letter days 102 first f (ends_word days 102 114 (5, 5) refl refl)
                              | inr later ↦
                                  elim (or_cases (nat_eq 97 first) false later) [ inl a ↦ at_letter days 97 first a (ends_a days) | inr never ↦ absurd (false≢true never) ]
                            ]
                      ]
                ]
          ]
    ]

ends-start : Ends Start
ends-start =
    let ends = ends_word no_days 115 117 (0, 0) refl refl in
    (115 ∷ ends.0, ends.1, scan-next Start (Letter no_days 115) 115 ends.0 ends.1 refl refl ends.2)

ends_any : (place : Place) → Live place → Ends place
ends_any Start live = ends-start
ends_any (Letter days first) live = ends_letter days first live
ends_any (LettersAn days) live = ends_an days
ends_any (Named days) live = ends_named days
ends_any (From days counts digits) live = ends_from days counts digits live.0 live.1
ends_any (Dash days start) live = ends_dash days start
ends_any (To days start counts digits) live = ends_to days start counts digits live.0 live.1
ends_any (Whole days start end) live = ends_whole days start end

-- what equations of results say
err_same : (at other : ℕ) → let r : Result (List Simple) ℕ = Err at in r ≡ Err other → at ≡ other
err_same at other same = cc

ok-err : (simples : List Simple) (at : ℕ) → let r : Result (List Simple) ℕ = Ok simples in r ≡ Err at → ⊥
ok-err simples at same = cc

err-ok : (simples : List Simple) (at : ℕ) → let r : Result (List Simple) ℕ = Err at in r ≡ Ok simples → ⊥
err-ok simples at same = cc

after-err : (front : List Simple) (read : Result (List Simple) ℕ) (at : ℕ) → after front 1 read ≡ Err at → (less : ℕ) × (read ≡ Err less) × (at ≡ suc less)
after-err front (Ok simples) at same = absurd (ok-err (front ++ simples) at same)
after-err front (Err less) at same = (less, refl, sym (err_same (1 + less) at same) ∙ omega arith)

after-ok : (front : List Simple) (read : Result (List Simple) ℕ) (simples : List Simple) → after front 1 read ≡ Ok simples → (more : List Simple) × (read ≡ Ok more)
after-ok front (Ok more) simples same = (more, refl)
after-ok front (Err at) simples same = absurd (err-ok simples (1 + at) same)

-- the front that was read can be ended
abbrev pub Begun : Place → List ℕ → ℕ → Type 0
Begun place text at = (at ≤ length text) × ((tail : List ℕ) × (simples : List Simple) × (scan place (take at text ++ tail) ≡ Ok simples))

begun_here : (place : Place) (text : List ℕ) (at : ℕ) → 0 ≡ at → Ends place → Begun place text at
begun_here place text at here ends = subst (λ (n : ℕ). Begun place text n) here (omega arith, ends)

begun_ending : (place : Place) (text : List ℕ) (at : ℕ) (o : Option Simple) → ending o ≡ Err at → Ends place → Begun place text at
begun_ending place text at None same ends = begun_here place text at (err_same 0 at same) ends
begun_ending place text at (Some simple) same ends = absurd (ok-err (simple ∷ []) at same)

begun_step : (place : Place) (letter : ℕ) (letters : List ℕ) (at : ℕ) (o : Option Found) → step place letter ≡ o → IfSome o (λ f. Live f.next) → Ends place
    → going_on o (λ p. scan p letters) ≡ Err at → ((next : Place) (less : ℕ) → Live next → scan next letters ≡ Err less → Begun next letters less) → Begun place (letter ∷ letters) at
unfolding scan
begun_step place letter letters at None is live ends same rest = begun_here place (letter ∷ letters) at (err_same 0 at same) ends
begun_step place letter letters at (Some found) is live ends same rest =
    let read = after-err (option_to_list found.simple) (scan found.next letters) at same in
    let behind = rest found.next read.0 live read.1 in
    subst (λ (n : ℕ). Begun place (letter ∷ letters) n) (sym read.2) (
      omega (arith, behind.0),
      (
        behind.1.0,
        option_to_list found.simple ++ behind.1.1,
        ap (λ (s : Option Found). going_on s (λ p. scan p (take read.0 letters ++ behind.1.0))) is ∙ ap (after (option_to_list found.simple) 1) behind.1.2,
      ),
    )

begun : (text : List ℕ) (place : Place) (at : ℕ) → Live place → scan place text ≡ Err at → Begun place text at
unfolding scan
begun [] place at live same = begun_ending place [] at (simple_at place) same (ends_any place live)
begun (letter ∷ letters) place at live same =
    begun_step place letter letters at (step place letter) refl (live_step place letter live) (ends_any place live) same (λ next less alive read. begun letters next less alive read)

longer_step : (letters : List ℕ) (at count : ℕ) (tail : List ℕ) (simples : List Simple) (o : Option Found) → going_on o (λ p. scan p letters) ≡ Err at → at < suc count
    → going_on o (λ p. scan p (take count letters ++ tail)) ≡ Ok simples
    → ((next : Place) (less : ℕ) (some : List Simple) → scan next letters ≡ Err less → less < count → scan next (take count letters ++ tail) ≡ Ok some → ⊥) → ⊥
longer_step letters at count tail simples None same more read rest = err-ok simples 0 read
longer_step letters at count tail simples (Some found) same more read rest =
    let here = after-err (option_to_list found.simple) (scan found.next letters) at same in
    let there = after-ok (option_to_list found.simple) (scan found.next (take count letters ++ tail)) simples read in
    rest found.next here.0 there.0 here.1 (omega (arith, here.2)) there.1

-- nothing longer does
longer : (text : List ℕ) (place : Place) (at count : ℕ) (tail : List ℕ) (simples : List Simple) → scan place text ≡ Err at → at < count → count ≤ length text
    → scan place (take count text ++ tail) ≡ Ok simples → ⊥
unfolding scan
longer [] place at count tail simples same more within read = absurd (omega arith)
longer (letter ∷ letters) place at zero tail simples same more within read = absurd (omega arith)
longer (letter ∷ letters) place at (suc count) tail simples same more within read =
    longer_step letters at count tail simples (step place letter) same more read (λ next less some here above there. longer letters next less count tail some here above (omega arith) there)

-- the front of a text in lower case
lower-take : (text : List ℕ) (count : ℕ) → lower (take count text) ≡ take count (lower text)
lower-take text zero = refl
lower-take [] (suc count) = refl
lower-take (letter ∷ text) (suc count) = ap (λ rest. to_ascii_lowercase letter ∷ rest) (lower-take text count)

lower-length : (text : List ℕ) → length (lower text) ≡ length text
lower-length [] = refl
lower-length (letter ∷ text) = ap suc (lower-length text)

-- the length of the longest front of a text that begins a list
pub unread_longest : (text : List ℕ) (at : ℕ) → list_of text ≡ Err at → IsLongestFront text at
unread_longest text at same =
    let front = begun (lower text) Start at tt same in
    let written = reads_lists (take at (lower text) ++ front.1.0) front.1.1 front.1.2 in
    record {
      within = omega (arith, front.0, lower-length text);
      begins = (front.1.0, written.spellings, subst (λ (t : List ℕ). Spells (t ++ front.1.0) written.spellings) (sym (lower-take text at)) written.spells);
      longest = λ count more within list.
          longer (lower text) Start at count list.0 (map simple_of list.1) same more (omega (arith, lower-length text))
          (ap (λ (t : List ℕ). scan Start (t ++ list.0)) (sym (lower-take text count)) ∙ lists_read (lower (take count text) ++ list.0) list.1 list.2);
    }

-- the days of words
has_with : (days : Days) (more : ℕ × ℕ) (day : ℕ) → day < 7 → has_day (with_days days more) day ≡ (has_day days day || spans more day)
has_with days more zero below = refl
has_with days more (suc zero) below = refl
has_with days more (suc (suc zero)) below = refl
has_with days more (suc (suc (suc zero))) below = refl
has_with days more (suc (suc (suc (suc zero)))) below = refl
has_with days more (suc (suc (suc (suc (suc zero))))) below = refl
has_with days more (suc (suc (suc (suc (suc (suc zero)))))) below = refl
has_with days more (suc (suc (suc (suc (suc (suc (suc day))))))) below = absurd (omega arith)

has-none : (day : ℕ) → day < 7 → has_day no_days day ≡ false
has-none zero below = refl
has-none (suc zero) below = refl
has-none (suc (suc zero)) below = refl
has-none (suc (suc (suc zero))) below = refl
has-none (suc (suc (suc (suc zero)))) below = refl
has-none (suc (suc (suc (suc (suc zero))))) below = refl
has-none (suc (suc (suc (suc (suc (suc zero)))))) below = refl
has-none (suc (suc (suc (suc (suc (suc (suc day))))))) below = absurd (omega arith)

has_words : (words : List DayWord) (days : Days) (day : ℕ) → day < 7 → has_day (days_of days words) day ≡ (has_day days day || list_any (λ word. spans (word_days word) day) words)
has_words [] days day below = sym (or-false (has_day days day))
has_words (word ∷ words) days day below =
    has_words words (with_days days (word_days word)) day below
    ∙ ap (λ b. b || list_any (λ w. spans (word_days w) day) words) (has_with days (word_days word) day below)
    ∙ or_assoc (has_day days day) (spans (word_days word) day) (list_any (λ w. spans (word_days w) day) words)

pub spelled-minutes : (spelling : Spelling) (minute : ℕ) → minute < 10080 → has_minute minute (simple_of spelling) ≡ has_spelled minute spelling
spelled-minutes spelling minute below =
    ap (λ b. b && in_hours (option_map bounds_of spelling.hours) (minute % 1440))
    (has_words spelling.words no_days (minute / 1440) (omega arith)
    ∙ ap (λ b. b || list_any (λ word. spans (word_days word) (minute / 1440)) spelling.words) (has-none (minute / 1440) (omega arith)))
