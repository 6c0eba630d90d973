-- Lists of simple strings that are written are read.
use Rattle.std.proofs.Common.{◌≡◌, ◌⊎◌, inl, inr, ℕ, ◌+◌, ◌-◌, ◌*◌, ◌/◌, ◌%◌, ◌<◌, true, false, cond, Option, None, Some, option_map, option_and_then, Ok, List, [], ◌∷◌, ◌++◌, length, map, refl, ap, sym, ◌∙◌, arith, append_assoc, append-nil, nat_eq, nat_lt}
use Rattle.std.proofs.lemmas.Bool.{cond-true, cond-false, ne_eqb, eq-eqb, lt-ltb, and_from, or_from, or_left, or_right}
use Rattle.std.proofs.lemmas.Bool.Decides.{nat_tests}
use Rattle.std.specs.Char.{is_ascii_digit}
use Rattle.std.specs.List.{flat_map}
use Rattle.uu_times.specs.declared.days.Days.{Days}
use Rattle.uu_times.specs.declared.days.Simple.{Simple}
use Rattle.uu_times.specs.declared.scan.Found.{Found}
use Rattle.uu_times.specs.declared.scan.Place.{Place}
use Rattle.uu_times.specs.declared.scan.Place.TheVariants.{Start, Named, From, Dash, To, Whole}
use Rattle.uu_times.specs.Internal.Simples.{no_days, with_days, days_of, simple_of}
use Rattle.uu_times.specs.Grammar.{DayWord, su, mo, tu, we, th, fr, sa, wk, any, word_text, word_days, Hours, Spelling, two_digits, hours_text, spelled, IsTime, IsEnd, AreHours, IsSpelling, Spells, bounds_of, is_separator}
use Rattle.uu_times.specs.Internal.Scan.{is_time, is_end, minute_of, last_minute, more_digits, start_digit, end_digit, first_letter, next_place, simple_at, after, ending, going_on, scan}

-- a byte that leads on
pub scan-next : (place next : Place) (letter : ℕ) (rest : List ℕ) (simples : List Simple) → is_separator letter ≡ false → next_place place letter ≡ Some next
    → scan next rest ≡ Ok simples → scan place (letter ∷ rest) ≡ Ok simples
unfolding scan
scan-next place next letter rest simples plain leads read =
    ap (λ b. going_on (cond b (option_map (λ s. let f : Found = record { simple = Some s; next = Start } in f) (simple_at place)) (option_map (λ n. let f : Found = record { simple = None; next = n } in f) (next_place place letter))) (λ p. scan p rest)) plain
    ∙ ap (λ (o : Option Place). going_on (option_map (λ n. let f : Found = record { simple = None; next = n } in f) o) (λ p. scan p rest)) leads
    ∙ ap (after [] 1) read

-- day words
run_word : (word : DayWord) (days : Days) (rest : List ℕ) (simples : List Simple) → scan (Named (with_days days (word_days word))) rest ≡ Ok simples
    → scan (Named days) (word_text word ++ rest) ≡ Ok simples
unfolding scan
run_word su days rest simples read = ap (λ r. after [] 1 (after [] 1 r)) read
run_word mo days rest simples read = ap (λ r. after [] 1 (after [] 1 r)) read
run_word tu days rest simples read = ap (λ r. after [] 1 (after [] 1 r)) read
run_word we days rest simples read = ap (λ r. after [] 1 (after [] 1 r)) read
run_word th days rest simples read = ap (λ r. after [] 1 (after [] 1 r)) read
run_word fr days rest simples read = ap (λ r. after [] 1 (after [] 1 r)) read
run_word sa days rest simples read = ap (λ r. after [] 1 (after [] 1 r)) read
run_word wk days rest simples read = ap (λ r. after [] 1 (after [] 1 r)) read
run_word any days rest simples read = ap (λ r. after [] 1 (after [] 1 (after [] 1 r))) read

run_first : (word : DayWord) (rest : List ℕ) (simples : List Simple) → scan (Named (with_days no_days (word_days word))) rest ≡ Ok simples
    → scan Start (word_text word ++ rest) ≡ Ok simples
unfolding scan
run_first su rest simples read = ap (λ r. after [] 1 (after [] 1 r)) read
run_first mo rest simples read = ap (λ r. after [] 1 (after [] 1 r)) read
run_first tu rest simples read = ap (λ r. after [] 1 (after [] 1 r)) read
run_first we rest simples read = ap (λ r. after [] 1 (after [] 1 r)) read
run_first th rest simples read = ap (λ r. after [] 1 (after [] 1 r)) read
run_first fr rest simples read = ap (λ r. after [] 1 (after [] 1 r)) read
run_first sa rest simples read = ap (λ r. after [] 1 (after [] 1 r)) read
run_first wk rest simples read = ap (λ r. after [] 1 (after [] 1 r)) read
run_first any rest simples read = ap (λ r. after [] 1 (after [] 1 (after [] 1 r))) read

run_words : (words : List DayWord) (days : Days) (rest : List ℕ) (simples : List Simple) → scan (Named (days_of days words)) rest ≡ Ok simples
    → scan (Named days) (flat_map word_text words ++ rest) ≡ Ok simples
run_words [] days rest simples read = read
run_words (word ∷ words) days rest simples read =
    ap (scan (Named days)) (append_assoc (word_text word) (flat_map word_text words) rest)
    ∙ run_word word days (flat_map word_text words ++ rest) simples (run_words words (with_days days (word_days word)) rest simples read)

run_all : (words : List DayWord) (rest : List ℕ) (simples : List Simple) → 0 < length words → scan (Named (days_of no_days words)) rest ≡ Ok simples
    → scan Start (flat_map word_text words ++ rest) ≡ Ok simples
run_all [] rest simples some read = absurd (omega arith)
run_all (word ∷ words) rest simples some read =
    ap (scan Start) (append_assoc (word_text word) (flat_map word_text words) rest)
    ∙ run_first word (flat_map word_text words ++ rest) simples (run_words words (with_days no_days (word_days word)) rest simples read)

-- digits
pub plain_digit : (d : ℕ) → d < 10 → is_separator (48 + d) ≡ false
plain_digit d below = or_from (nat_eq (48 + d) 124) (nat_eq (48 + d) 44) (ne_eqb (48 + d) 124 (omega arith)) (ne_eqb (48 + d) 44 (omega arith))

pub is-digit : (d : ℕ) → d < 10 → is_ascii_digit (48 + d) ≡ true
is-digit d below = grind (arith, nat_tests)

more_digit : (unit digits d : ℕ) → d < 10 → more_digits unit digits (48 + d) ≡ Some (digits + d * unit)
more_digit unit digits d below =
    cond-true (is_ascii_digit (48 + d)) (Some (digits + (48 + d - 48) * unit)) None (is-digit d below) ∙ ap (λ (x : ℕ). Some (digits + x * unit)) (omega arith)

pub start-digit : (days : Days) (unit digits d : ℕ) → d < 10 → is_time (digits + d * unit) ≡ true
    → start_digit days unit digits (48 + d) ≡ Some (cond (nat_eq unit 1) (Dash days (digits + d * unit)) (From days (unit / 10) (digits + d * unit)))
start-digit days unit digits d below time =
    ap (option_and_then (λ more. cond (is_time more) (Some (cond (nat_eq unit 1) (Dash days more) (From days (unit / 10) more))) None)) (more_digit unit digits d below)
    ∙ cond-true (is_time (digits + d * unit)) (Some (cond (nat_eq unit 1) (Dash days (digits + d * unit)) (From days (unit / 10) (digits + d * unit)))) None time

pub end-digit : (days : Days) (start unit digits d : ℕ) → d < 10 → is_end (digits + d * unit) ≡ true
    → end_digit days start unit digits (48 + d) ≡ Some (cond (nat_eq unit 1) (Whole days start (digits + d * unit)) (To days start (unit / 10) (digits + d * unit)))
end-digit days start unit digits d below time =
    ap (option_and_then (λ more. cond (is_end more) (Some (cond (nat_eq unit 1) (Whole days start more) (To days start (unit / 10) more))) None)) (more_digit unit digits d below)
    ∙ cond-true (is_end (digits + d * unit)) (Some (cond (nat_eq unit 1) (Whole days start (digits + d * unit)) (To days start (unit / 10) (digits + d * unit)))) None time

time_test : (digits : ℕ) → digits / 100 < 24 → digits % 100 < 60 → is_time digits ≡ true
time_test digits hour minute = and_from (nat_lt (digits / 100) 24) (nat_lt (digits % 100) 60) (lt-ltb (digits / 100) 24 hour) (lt-ltb (digits % 100) 60 minute)

end_test : (digits : ℕ) → ((digits / 100 < 24) × (digits % 100 < 60)) ⊎ (digits ≡ 2400) → is_end digits ≡ true
end_test digits (inl time) = or_left (is_time digits) (nat_eq digits 2400) (time_test digits time.0 time.1)
end_test digits (inr last) = or_right (is_time digits) (nat_eq digits 2400) (eq-eqb digits 2400 last)

-- four digits of a time
abbrev pub written : ℕ → ℕ → ℕ
written hour minute = 0 + hour / 10 * 1000 + hour % 10 * 100 + minute / 10 * 10 + minute % 10 * 1

run_start : (days : Days) (hour minute : ℕ) (rest : List ℕ) (simples : List Simple) → IsTime hour minute → scan (Dash days (written hour minute)) rest ≡ Ok simples
    → scan (Named days) (two_digits hour ++ (two_digits minute ++ rest)) ≡ Ok simples
run_start days hour minute rest simples time read =
    let d1 = hour / 10 in let d2 = hour % 10 in let d3 = minute / 10 in let d4 = minute % 10 in
    let p1 = 0 + d1 * 1000 in let p2 = p1 + d2 * 100 in let p3 = p2 + d3 * 10 in
    scan-next (Named days) (From days 100 p1) (48 + d1) ((48 + d2) ∷ (two_digits minute ++ rest)) simples (plain_digit d1 (omega arith))
    (cond-true (is_ascii_digit (48 + d1)) (start_digit days 1000 0 (48 + d1)) (first_letter days (48 + d1)) (is-digit d1 (omega arith)) ∙ start-digit days 1000 0 d1 (omega arith) (time_test p1 (omega arith) (omega arith)))
    (scan-next (From days 100 p1) (From days 10 p2) (48 + d2) (two_digits minute ++ rest) simples (plain_digit d2 (omega arith))
    (start-digit days 100 p1 d2 (omega arith) (time_test p2 (omega arith) (omega arith)))
    (scan-next (From days 10 p2) (From days 1 p3) (48 + d3) ((48 + d4) ∷ rest) simples (plain_digit d3 (omega arith))
    (start-digit days 10 p2 d3 (omega arith) (time_test p3 (omega arith) (omega arith)))
    (scan-next (From days 1 p3) (Dash days (written hour minute)) (48 + d4) rest simples (plain_digit d4 (omega arith))
    (start-digit days 1 p3 d4 (omega arith) (time_test (written hour minute) (omega arith) (omega arith)))
    read)))

-- the digits of an end
end_parts : (hour minute : ℕ) → IsEnd hour minute
    → let p1 = 0 + hour / 10 * 1000 in let p2 = p1 + hour % 10 * 100 in let p3 = p2 + minute / 10 * 10 in
    (hour < 100) × (minute < 100) × (is_end p1 ≡ true) × (is_end p2 ≡ true) × (is_end p3 ≡ true) × (is_end (written hour minute) ≡ true)
end_parts hour minute (inl time) =
    let p1 = 0 + hour / 10 * 1000 in let p2 = p1 + hour % 10 * 100 in let p3 = p2 + minute / 10 * 10 in (
      omega arith,
      omega arith,
      end_test p1 (inl (omega arith, omega arith)),
      end_test p2 (inl (omega arith, omega arith)),
      end_test p3 (inl (omega arith, omega arith)),
      end_test (written hour minute) (inl (omega arith, omega arith)),
    )
end_parts hour minute (inr last) =
    let p1 = 0 + hour / 10 * 1000 in let p2 = p1 + hour % 10 * 100 in let p3 = p2 + minute / 10 * 10 in (
      omega arith,
      omega arith,
      end_test p1 (inl (omega arith, omega arith)),
      end_test p2 (inr (omega arith)),
      end_test p3 (inr (omega arith)),
      end_test (written hour minute) (inr (omega arith)),
    )

run_end : (days : Days) (start hour minute : ℕ) (rest : List ℕ) (simples : List Simple) → IsEnd hour minute → scan (Whole days start (written hour minute)) rest ≡ Ok simples
    → scan (To days start 1000 0) (two_digits hour ++ (two_digits minute ++ rest)) ≡ Ok simples
run_end days start hour minute rest simples end read =
    let d1 = hour / 10 in let d2 = hour % 10 in let d3 = minute / 10 in let d4 = minute % 10 in
    let p1 = 0 + d1 * 1000 in let p2 = p1 + d2 * 100 in let p3 = p2 + d3 * 10 in
    let parts = end_parts hour minute end in
    let small : hour < 100 = parts.0 in
    let short : minute < 100 = parts.1 in
    scan-next (To days start 1000 0) (To days start 100 p1) (48 + d1) ((48 + d2) ∷ (two_digits minute ++ rest)) simples (plain_digit d1 (omega arith))
    (end-digit days start 1000 0 d1 (omega arith) parts.2)
    (scan-next (To days start 100 p1) (To days start 10 p2) (48 + d2) (two_digits minute ++ rest) simples (plain_digit d2 (omega arith))
    (end-digit days start 100 p1 d2 (omega arith) parts.3)
    (scan-next (To days start 10 p2) (To days start 1 p3) (48 + d3) ((48 + d4) ∷ rest) simples (plain_digit d3 (omega arith))
    (end-digit days start 10 p2 d3 (omega arith) parts.4)
    (scan-next (To days start 1 p3) (Whole days start (written hour minute)) (48 + d4) rest simples (plain_digit d4 (omega arith))
    (end-digit days start 1 p3 d4 (omega arith) parts.5)
    read)))

-- the place of the reading after a simple string
abbrev pub place_behind : Days → Option Hours → Place
place_behind days None = Named days
place_behind days (Some hours) = Whole days (written hours.from_hour hours.from_minute) (written hours.to_hour hours.to_minute)

run_hours : (days : Days) (hours : Option Hours) (rest : List ℕ) (simples : List Simple) → AreHours hours → scan (place_behind days hours) rest ≡ Ok simples
    → scan (Named days) (hours_text hours ++ rest) ≡ Ok simples
run_hours days None rest simples are read = read
run_hours days (Some hours) rest simples are read =
    let start = written hours.from_hour hours.from_minute in
    run_start days hours.from_hour hours.from_minute (45 ∷ (two_digits hours.to_hour ++ (two_digits hours.to_minute ++ rest))) simples are.0
    (scan-next (Dash days start) (To days start 1000 0) 45 (two_digits hours.to_hour ++ (two_digits hours.to_minute ++ rest)) simples refl refl
    (run_end days start hours.to_hour hours.to_minute rest simples are.1 read))

-- the minutes of the hours
minute_start : (hour minute : ℕ) → IsTime hour minute → minute_of (written hour minute) ≡ 60 * hour + minute
minute_start hour minute time = omega arith

minute_end : (hour minute : ℕ) → IsEnd hour minute → last_minute (written hour minute) ≡ cond (nat_eq hour 24) 1439 (60 * hour + minute)
minute_end hour minute (inl time) =
    cond-false (nat_eq (written hour minute) 2400) 1439 (minute_of (written hour minute)) (ne_eqb (written hour minute) 2400 (omega arith))
    ∙ minute_start hour minute time
    ∙ sym (cond-false (nat_eq hour 24) 1439 (60 * hour + minute) (ne_eqb hour 24 (omega arith)))
minute_end hour minute (inr last) =
    cond-true (nat_eq (written hour minute) 2400) 1439 (minute_of (written hour minute)) (eq-eqb (written hour minute) 2400 (omega arith))
    ∙ sym (cond-true (nat_eq hour 24) 1439 (60 * hour + minute) (eq-eqb hour 24 last.0))

abbrev pub made : Days → Option (ℕ × ℕ) → Simple
made days hours = record { days = days; hours = hours }

pub simple_behind : (days : Days) (hours : Option Hours) → AreHours hours → simple_at (place_behind days hours) ≡ Some (made days (option_map bounds_of hours))
simple_behind days None are = refl
simple_behind days (Some hours) are =
    ap (λ (m : ℕ). let h : ℕ × ℕ = (m, last_minute (written hours.to_hour hours.to_minute)) in Some (made days (Some h))) (minute_start hours.from_hour hours.from_minute are.0)
    ∙ ap (λ (m : ℕ). let h : ℕ × ℕ = (60 * hours.from_hour + hours.from_minute, m) in Some (made days (Some h))) (minute_end hours.to_hour hours.to_minute are.1)

-- a simple string before a separator
scan_separator : (place : Place) (simple : Simple) (letter : ℕ) (rest : List ℕ) (simples : List Simple) → is_separator letter ≡ true → simple_at place ≡ Some simple
    → scan Start rest ≡ Ok simples → scan place (letter ∷ rest) ≡ Ok (simple ∷ simples)
unfolding scan
scan_separator place simple letter rest simples cuts is read =
    ap (λ b. going_on (cond b (option_map (λ s. let f : Found = record { simple = Some s; next = Start } in f) (simple_at place)) (option_map (λ n. let f : Found = record { simple = None; next = n } in f) (next_place place letter))) (λ p. scan p rest)) cuts
    ∙ ap (λ (o : Option Simple). going_on (option_map (λ s. let f : Found = record { simple = Some s; next = Start } in f) o) (λ p. scan p rest)) is
    ∙ ap (after (simple ∷ []) 1) read

-- and at the end
pub scan_ending : (place : Place) (simple : Simple) → simple_at place ≡ Some simple → scan place [] ≡ Ok (simple ∷ [])
unfolding scan
scan_ending place simple is = ap ending is

-- a simple string is read
run_spelling : (spelling : Spelling) (rest : List ℕ) (simples : List Simple) → IsSpelling spelling → scan (place_behind (days_of no_days spelling.words) spelling.hours) rest ≡ Ok simples
    → scan Start (spelled spelling ++ rest) ≡ Ok simples
run_spelling spelling rest simples is read =
    ap (scan Start) (append_assoc (flat_map word_text spelling.words) (hours_text spelling.hours) rest)
    ∙ run_all spelling.words (hours_text spelling.hours ++ rest) simples is.0 (run_hours (days_of no_days spelling.words) spelling.hours rest simples is.1 read)

-- a list that is written is read
pub lists_read : (text : List ℕ) (spellings : List Spelling) → Spells text spellings → scan Start text ≡ Ok (map simple_of spellings)
lists_read text [] spells = absurd spells
lists_read text (spelling ∷ []) spells =
    ap (scan Start) (spells.1 ∙ sym (append-nil (spelled spelling)))
    ∙ run_spelling spelling [] (simple_of spelling ∷ []) spells.0
    (scan_ending (place_behind (days_of no_days spelling.words) spelling.hours) (simple_of spelling) (simple_behind (days_of no_days spelling.words) spelling.hours spells.0.1))
lists_read text (spelling ∷ next ∷ more) (is, (letter, rest, cuts, same, spells)) =
    ap (scan Start) same
    ∙ run_spelling spelling (letter ∷ rest) (simple_of spelling ∷ map simple_of (next ∷ more)) is
    (scan_separator (place_behind (days_of no_days spelling.words) spelling.hours) (simple_of spelling) letter rest (map simple_of (next ∷ more)) cuts
    (simple_behind (days_of no_days spelling.words) spelling.hours is.1) (lists_read rest (next ∷ more) spells))
