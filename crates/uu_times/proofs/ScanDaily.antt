-- The hours that a scan finds end within the day.
use Rattle.std.proofs.Common.{◌≡◌, ℕ, ◌/◌, ◌%◌, ◌<◌, Bool, true, false, ◌&&◌, ◌||◌, cond, Option, None, Some, IfSome, Result, Ok, Err, IfOk, List, [], ◌∷◌, All, refl, arith, nat_eq, nat_lt, lit<, option_map, option_and_then, option_to_list}
use Rattle.std.proofs.lemmas.Bool.{cond_both, and_parts, ltb-true, both_ways}
use Rattle.std.proofs.lemmas.Result.{IfOk-at_ok}
use Rattle.std.proofs.lemmas.List.Elements.{All-nil, All-cons, All-append}
use Rattle.std.specs.Char.{is_ascii_digit}
use Rattle.std.specs.Str.{byte}
use Rattle.uu_times.proofs.GrammarFronts.{guarded}
use Rattle.uu_times.specs.declared.days.Days.{Days}
use Rattle.uu_times.specs.declared.days.Simple.{Simple}
use Rattle.uu_times.specs.declared.scan.Found.{Found}
use Rattle.uu_times.specs.declared.scan.Place.{Place}
use Rattle.uu_times.specs.declared.scan.Place.TheVariants.{Start, Letter, LettersAn, Named, From, Dash, To, Whole}
use Rattle.uu_times.specs.Internal.Scan.{is_time, is_end, minute_of, last_minute, first_letter, second_letter, more_digits, start_digit, next_place, simple_at, after, step, ending, going_on, scan, list_of}
use Rattle.uu_times.specs.Grammar.{is_separator, lower}
use Rattle.uu_times.specs.Internal.Simples.{no_days, with_days, two_letters}
use Rattle.uu_times.specs.Internal.Union.{IsDaily}

-- the digits at a place are of times
abbrev pub HasTimes : Place → Type 0
HasTimes Start = Unit {0}
HasTimes (Letter days first) = Unit {0}
HasTimes (LettersAn days) = Unit {0}
HasTimes (Named days) = Unit {0}
HasTimes (From days unit digits) = Unit {0}
HasTimes (Dash days start) = is_time start ≡ true
HasTimes (To days start unit digits) = is_time start ≡ true
HasTimes (Whole days start end) = (is_time start ≡ true) × (is_end end ≡ true)

times_first : (days : Days) (letter : ℕ) → IfSome (first_letter days letter) HasTimes
times_first days letter = guarded _ (Letter days letter) HasTimes (λ e. tt)

times_map : (days : Days) (found : Option (ℕ × ℕ)) (f : ℕ × ℕ → Days) → IfSome (option_map (λ more. Named (f more)) found) HasTimes
times_map days None f = tt
times_map days (Some more) f = tt

times_second : (days : Days) (first letter : ℕ) → IfSome (second_letter days first letter) HasTimes
times_second days first letter =
    cond_both (nat_eq first (byte "a") && nat_eq letter (byte "n")) (Some (LettersAn days)) (option_map (λ more. Named (with_days days more)) (two_letters first letter)) (λ o. IfSome o HasTimes)
    (λ yes. tt) (λ no. times_map days (two_letters first letter) (λ more. with_days days more))

times_start_digits : (days : Days) (unit : ℕ) (found : Option ℕ)
    → IfSome (option_and_then (λ more. cond (is_time more) (Some (cond (nat_eq unit 1) (Dash days more) (From days (unit / 10) more))) None) found) HasTimes
times_start_digits days unit None = tt
times_start_digits days unit (Some more) =
    guarded (is_time more) (cond (nat_eq unit 1) (Dash days more) (From days (unit / 10) more)) HasTimes
    (λ is. cond_both (nat_eq unit 1) (Dash days more) (From days (unit / 10) more) HasTimes (λ one. is) (λ more_units. tt))

times_end_digits : (days : Days) (start unit : ℕ) (found : Option ℕ) → is_time start ≡ true
    → IfSome (option_and_then (λ more. cond (is_end more) (Some (cond (nat_eq unit 1) (Whole days start more) (To days start (unit / 10) more))) None) found) HasTimes
times_end_digits days start unit None begins = tt
times_end_digits days start unit (Some more) begins =
    guarded (is_end more) (cond (nat_eq unit 1) (Whole days start more) (To days start (unit / 10) more)) HasTimes
    (λ is. cond_both (nat_eq unit 1) (Whole days start more) (To days start (unit / 10) more) HasTimes (λ one. (begins, is)) (λ more_units. begins))

-- each byte keeps it so
times_next : (place : Place) (letter : ℕ) → HasTimes place → IfSome (next_place place letter) HasTimes
times_next Start letter has = times_first no_days letter
times_next (Letter days first) letter has = times_second days first letter
times_next (LettersAn days) letter has = guarded (nat_eq letter (byte "y")) (Named (with_days days (0, 6))) HasTimes (λ e. tt)
times_next (Named days) letter has =
    cond_both (is_ascii_digit letter) (start_digit days 1000 0 letter) (first_letter days letter) (λ o. IfSome o HasTimes)
    (λ digit. times_start_digits days 1000 (more_digits 1000 0 letter)) (λ other. times_first days letter)
times_next (From days unit digits) letter has = times_start_digits days unit (more_digits unit digits letter)
times_next (Dash days start) letter has = guarded (nat_eq letter (byte "-")) (To days start 1000 0) HasTimes (λ e. has)
times_next (To days start unit digits) letter has = times_end_digits days start unit (more_digits unit digits letter) has
times_next (Whole days start end) letter has = tt

-- one of two
or_left_only : (a b : Bool) → (a || b) ≡ true → b ≡ false → a ≡ true
or_left_only true b either other = refl
or_left_only false b either other = absurd (both_ways b other either)

-- the minute of a time
minute_time : (digits : ℕ) → is_time digits ≡ true → minute_of digits < 1440
minute_time digits is =
    let parts = and_parts (nat_lt (digits / 100) 24) (nat_lt (digits % 100) 60) is in
    omega (arith, ltb-true (digits / 100) 24 parts.0, ltb-true (digits % 100) 60 parts.1)

minute_end : (digits : ℕ) → is_end digits ≡ true → last_minute digits < 1440
minute_end digits is =
    cond_both (nat_eq digits 2400) 1439 (minute_of digits) (λ m. m < 1440) (λ last. lit< tt)
    (λ other. minute_time digits (or_left_only (is_time digits) (nat_eq digits 2400) is other))

daily_at : (place : Place) → HasTimes place → IfSome (simple_at place) IsDaily
daily_at Start has = tt
daily_at (Letter days first) has = tt
daily_at (LettersAn days) has = tt
daily_at (Named days) has = tt
daily_at (From days unit digits) has = tt
daily_at (Dash days start) has = tt
daily_at (To days start unit digits) has = tt
daily_at (Whole days start end) has = (minute_time start has.0, minute_end end has.1)

abbrev pub LeadsOn : Found → Type 0
LeadsOn found = IfSome found.simple IsDaily × HasTimes found.next

ended : (simple : Option Simple) → IfSome simple IsDaily → IfSome (option_map (λ s. let f : Found = record { simple = Some s; next = Start } in f) simple) LeadsOn
ended None daily = tt
ended (Some simple) daily = (daily, tt)

led : (next : Option Place) → IfSome next HasTimes → IfSome (option_map (λ n. let f : Found = record { simple = None; next = n } in f) next) LeadsOn
led None has = tt
led (Some next) has = (tt, has)

leads : (place : Place) (letter : ℕ) → HasTimes place → IfSome (step place letter) LeadsOn
leads place letter has =
    cond_both (is_separator letter) (option_map (λ s. record { simple = Some s; next = Start }) (simple_at place)) (option_map (λ n. record { simple = None; next = n }) (next_place place letter)) (λ o. IfSome o LeadsOn)
    (λ yes. ended (simple_at place) (daily_at place has)) (λ no. led (next_place place letter) (times_next place letter has))

daily_ending : (simple : Option Simple) → IfSome simple IsDaily → IfOk (ending simple) (All IsDaily)
daily_ending None daily = tt
daily_ending (Some simple) daily = All-cons IsDaily simple [] daily (All-nil IsDaily)

daily_option : (simple : Option Simple) → IfSome simple IsDaily → All IsDaily (option_to_list simple)
daily_option None daily = All-nil IsDaily
daily_option (Some simple) daily = All-cons IsDaily simple [] daily (All-nil IsDaily)

daily_after : (front : List Simple) (count : ℕ) (rest : Result (List Simple) ℕ) → All IsDaily front → IfOk rest (All IsDaily) → IfOk (after front count rest) (All IsDaily)
daily_after front count (Ok simples) first more = All-append IsDaily front simples first more
daily_after front count (Err at) first more = tt

daily_going : (found : Option Found) (rest : Place → Result (List Simple) ℕ) → IfSome found LeadsOn → ((next : Place) → HasTimes next → IfOk (rest next) (All IsDaily))
    → IfOk (going_on found rest) (All IsDaily)
daily_going None rest leads each = tt
daily_going (Some found) rest leads each = daily_after (option_to_list found.simple) 1 (rest found.next) (daily_option found.simple leads.0) (each found.next leads.1)

daily_scan : (place : Place) (text : List ℕ) → HasTimes place → IfOk (scan place text) (All IsDaily)
unfolding scan
daily_scan place [] has = daily_ending (simple_at place) (daily_at place has)
daily_scan place (letter ∷ letters) has = daily_going (step place letter) (λ next. scan next letters) (leads place letter has) (λ next there. daily_scan next letters there)

-- the hours of a list of simple strings end within the day
pub daily_list_of : (text : List ℕ) (simples : List Simple) → list_of text ≡ Ok simples → All IsDaily simples
daily_list_of text simples is = IfOk-at_ok (All IsDaily) is (daily_scan Start (lower text) tt)
