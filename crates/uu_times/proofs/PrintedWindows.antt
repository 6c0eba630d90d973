-- The time string that is printed of a set of minutes is read as that set.
use Rattle.std.proofs.Common.{◌≡◌, inl, inr, ℕ, zero, suc, ◌+◌, ◌-◌, ◌*◌, ◌/◌, ◌%◌, ◌<◌, ◌≤◌, Bool, true, false, ◌&&◌, ◌||◌, cond, Option, None, Some, IfSome, option_map, Result, Ok, Err, List, [], ◌∷◌, ◌++◌, map, refl, ap, sym, subst, ◌∙◌, arith, nat_eq, nat_le, append_assoc, append-nil, codes, max, min}
use Rattle.std.proofs.lemmas.Bool.{cond_both, cond-true, cond-false, leb-true, leb-false, and_parts, eqb-true, false≢true, ne_eqb, cases_Bool}
use Rattle.std.proofs.lemmas.Bool.Decides.{nat_tests}
use Rattle.std.proofs.lemmas.List.{map-append}
use Rattle.std.proofs.lemmas.List.Folds.{list_any-append}
use Rattle.std.proofs.Math.Bool.{or-false}
use Rattle.std.specs.Char.{to_ascii_lowercase}
use Rattle.std.specs.List.{flat_map, filter_map, list_any, cons_option}
use Rattle.std.specs.Str.{byte, bytes_eq}
use Rattle.uu_times.specs.declared.days.Simple.{Simple}
use Rattle.uu_times.specs.Days.{spans, in_hours}
use Rattle.uu_times.specs.Grammar.{DayWord, su, mo, tu, we, th, fr, sa, wk, any, word_text, word_days, Hours, Spelling, two_digits, hours_text, spelled, IsSpelling, Spells, AreHours, bounds_of, has_spelled, lower}
use Rattle.uu_times.specs.Ranges.{within, holds, AreSeparateRanges, maximal_runs}
use Rattle.uu_times.specs.Internal.Simples.{any_has, simple_of}
use Rattle.uu_times.specs.Internal.Scan.{scan}
use Rattle.uu_times.specs.Printed.{behind, on_day, Piece, pieces_on, days_of_week, same_range, same_ranges, are_alike, weekdays_alike, ends_alike, weekdays_and_ends, groups_of, pieces_of, word_name, hours_of, piece_text, pieces_text, time_text}
use Rattle.uu_times.specs.Tables.{predefined_tables, table_at, is_table_name, spelled_minutes, unreadable, windows_in, time_of}
use Rattle.uu_times.proofs.GrammarLemmas.{lists_read}
use Rattle.uu_times.proofs.Runs.{maximal_runs_runs, pair_same}
use Rattle.uu_times.proofs.StringLemmas.{read_minutes}
use Rattle.uu_times.proofs.TableLemmas.{found}

-- a piece as it is spelled
abbrev pub spelling_of : Piece → Spelling
spelling_of piece = record { words = piece.0 ∷ []; hours = hours_of piece.1 }

-- minutes of one day
abbrev pub IsPart : ℕ × ℕ → Type 0
IsPart minutes = (minutes.0 ≤ minutes.1) × (minutes.1 < 1440)

abbrev pub AreParts : List Piece → Type 0
AreParts [] = Unit {0}
AreParts (piece ∷ pieces) = IsPart piece.1 × AreParts pieces

-- what is printed, in lower case
lower-word : (word : DayWord) → lower (word_name word) ≡ word_text word
lower-word su = refl
lower-word mo = refl
lower-word tu = refl
lower-word we = refl
lower-word th = refl
lower-word fr = refl
lower-word sa = refl
lower-word wk = refl
lower-word any = refl

lower_digit : (d : ℕ) → d < 10 → to_ascii_lowercase (48 + d) ≡ 48 + d
lower_digit d below = grind (arith, nat_tests)

lower_two : (n : ℕ) → n < 100 → lower (two_digits n) ≡ two_digits n
lower_two n below =
    ap (λ b. b ∷ to_ascii_lowercase (48 + n % 10) ∷ []) (lower_digit (n / 10) (omega arith)) ∙ ap (λ b. (48 + n / 10) ∷ b ∷ []) (lower_digit (n % 10) (omega arith))

lower_both : (a b c d : List ℕ) → lower a ≡ c → lower b ≡ d → lower (a ++ b) ≡ c ++ d
lower_both a b c d front back = map-append to_ascii_lowercase a b ∙ ap (λ x. x ++ lower b) front ∙ ap (λ x. c ++ x) back

lower-hours : (hours : Hours) → hours.from_hour < 100 → hours.from_minute < 100 → hours.to_hour < 100 → hours.to_minute < 100 → lower (hours_text (Some hours)) ≡ hours_text (Some hours)
lower-hours hours a b c d =
    lower_both (two_digits hours.from_hour) (two_digits hours.from_minute ++ (byte "-" ∷ (two_digits hours.to_hour ++ two_digits hours.to_minute))) _ _ (lower_two hours.from_hour a)
    (lower_both (two_digits hours.from_minute) (byte "-" ∷ (two_digits hours.to_hour ++ two_digits hours.to_minute)) _ _ (lower_two hours.from_minute b)
    (ap (λ x. byte "-" ∷ x) (lower_both (two_digits hours.to_hour) (two_digits hours.to_minute) _ _ (lower_two hours.to_hour c) (lower_two hours.to_minute d))))

abbrev made_hours : ℕ × ℕ → Hours
made_hours minutes = record { from_hour = minutes.0 / 60; from_minute = minutes.0 % 60; to_hour = minutes.1 / 60; to_minute = minutes.1 % 60 }

lower-hours_of : (minutes : ℕ × ℕ) → IsPart minutes → lower (hours_text (hours_of minutes)) ≡ hours_text (hours_of minutes)
lower-hours_of minutes is =
    cond_both (nat_eq minutes.0 0 && nat_eq minutes.1 1439) None (Some (made_hours minutes)) (λ (h : Option Hours). lower (hours_text h) ≡ hours_text h)
    (λ whole. refl)
    (λ part. lower-hours (made_hours minutes) (omega arith) (omega arith) (omega arith) (omega arith))

lower-piece : (piece : Piece) → IsPart piece.1 → lower (piece_text piece) ≡ spelled (spelling_of piece)
lower-piece piece is =
    lower_both (word_name piece.0) (hours_text (hours_of piece.1)) (word_text piece.0 ++ []) (hours_text (hours_of piece.1))
    (lower-word piece.0 ∙ sym (append-nil (word_text piece.0))) (lower-hours_of piece.1 is)

spelling_piece : (piece : Piece) → IsPart piece.1 → IsSpelling (spelling_of piece)
spelling_piece piece is = (
  omega arith,
  cond_both (nat_eq piece.1.0 0 && nat_eq piece.1.1 1439) None (Some (made_hours piece.1)) AreHours (λ whole. tt) (λ part. ((omega arith, omega arith), inl (omega arith, omega arith))),
)

-- what is printed is a list of simple strings
spells : (piece : Piece) (pieces : List Piece) → AreParts (piece ∷ pieces)
    → Spells (lower (piece_text piece ++ behind 44 (map piece_text pieces))) (map spelling_of (piece ∷ pieces))
spells piece [] parts = (
  spelling_piece piece parts.0,
  ap lower (append-nil (piece_text piece)) ∙ lower-piece piece parts.0,
)
spells piece (next ∷ pieces) parts = (
  spelling_piece piece parts.0,
  (
    44,
    lower (piece_text next ++ behind 44 (map piece_text pieces)),
    refl,
    lower_both (piece_text piece) (44 ∷ (piece_text next ++ behind 44 (map piece_text pieces))) _ _ (lower-piece piece parts.0) refl,
    spells next pieces parts.1,
  ),
)

-- the pieces of a set are parts of days
parts_option : (word : DayWord) (o : Option (ℕ × ℕ)) (rest : List (ℕ × ℕ)) → IfSome o IsPart → AreParts (map (λ m. (word, m)) rest)
    → AreParts (map (λ m. (word, m)) (cons_option o rest))
parts_option word None rest is others = others
parts_option word (Some part) rest is others = (is, others)

part_day : (day : ℕ) (range : ℕ × ℕ) → IfSome (on_day day range) IsPart
part_day day range =
    cond_both (nat_le (max range.0 (1440 * day)) (min range.1 (1440 * day + 1439)))
    (Some (max range.0 (1440 * day) - 1440 * day, min range.1 (1440 * day + 1439) - 1440 * day)) None
    (λ o. IfSome o IsPart)
    (λ there. let le = leb-true (max range.0 (1440 * day)) (min range.1 (1440 * day + 1439)) there in (omega (arith, le), omega (arith, le)))
    (λ none. tt)

parts_on : (runs : List (ℕ × ℕ)) (day : DayWord × ℕ) → AreParts (pieces_on runs day)
parts_on [] day = tt
parts_on (range ∷ runs) day = parts_option day.0 (on_day day.1 range) (filter_map (on_day day.1) runs) (part_day day.1 range) (parts_on runs day)

parts_append : (a b : List Piece) → AreParts a → AreParts b → AreParts (a ++ b)
parts_append [] b front back = back
parts_append (piece ∷ a) b front back = (front.0, parts_append a b front.1 back)

parts_days : (runs : List (ℕ × ℕ)) (days : List (DayWord × ℕ)) → AreParts (flat_map (pieces_on runs) days)
parts_days runs [] = tt
parts_days runs (day ∷ days) = parts_append (pieces_on runs day) (flat_map (pieces_on runs) days) (parts_on runs day) (parts_days runs days)

pub parts-of : (runs : List (ℕ × ℕ)) → AreParts (pieces_of runs)
parts-of runs = parts_days runs (groups_of runs)

-- whether a piece has the minute of the week
abbrev has_piece : ℕ → Piece → Bool
has_piece minute piece = spans (word_days piece.0) (minute / 1440) && within (minute % 1440) piece.1

in-hours : (minutes : ℕ × ℕ) (minute : ℕ) → IsPart minutes → minute < 1440 → in_hours (option_map bounds_of (hours_of minutes)) minute ≡ within minute minutes
in-hours minutes minute is below =
    cond_both (nat_eq minutes.0 0 && nat_eq minutes.1 1439) None (Some (made_hours minutes)) (λ h. in_hours (option_map bounds_of h) minute ≡ within minute minutes)
    (λ whole. let both = and_parts (nat_eq minutes.0 0) (nat_eq minutes.1 1439) whole in
    let low : minutes.0 ≡ 0 = eqb-true minutes.0 0 both.0 in let high : minutes.1 ≡ 1439 = eqb-true minutes.1 1439 both.1 in grind (arith, nat_tests))
    (λ part. in_made minutes minute is)
  where
    start_made : (m : ℕ × ℕ) → 60 * (m.0 / 60) + m.0 % 60 ≡ m.0
    start_made m = omega arith

    end_made : (m : ℕ × ℕ) → m.1 < 1440 → cond (nat_eq (m.1 / 60) 24) 1439 (60 * (m.1 / 60) + m.1 % 60) ≡ m.1
    end_made m below = cond-false (nat_eq (m.1 / 60) 24) 1439 (60 * (m.1 / 60) + m.1 % 60) (ne_eqb (m.1 / 60) 24 (λ e. omega arith)) ∙ omega arith

    in_made : (m : ℕ × ℕ) (minute : ℕ) → IsPart m → in_hours (Some (bounds_of (made_hours m))) minute ≡ within minute m
    in_made m minute is =
        ap (λ s. in_hours (Some (s, cond (nat_eq (m.1 / 60) 24) 1439 (60 * (m.1 / 60) + m.1 % 60))) minute) (start_made m)
        ∙ ap (λ e. in_hours (Some (m.0, e)) minute) (end_made m is.1)
        ∙ cond-true (nat_le m.0 m.1) (nat_le m.0 minute && nat_le minute m.1) (nat_le m.0 minute || nat_le minute m.1) (grind (arith, nat_tests))

has_spelling : (minute : ℕ) (piece : Piece) → IsPart piece.1 → has_spelled minute (spelling_of piece) ≡ has_piece minute piece
has_spelling minute piece is =
    ap (λ b. b && in_hours (option_map bounds_of (hours_of piece.1)) (minute % 1440)) (or-false (spans (word_days piece.0) (minute / 1440)))
    ∙ ap (λ b. spans (word_days piece.0) (minute / 1440) && b) (in-hours piece.1 (minute % 1440) is (omega arith))

any_piece : (minute : ℕ) (pieces : List Piece) → AreParts pieces → list_any (has_spelled minute) (map spelling_of pieces) ≡ list_any (has_piece minute) pieces
any_piece minute [] parts = refl
any_piece minute (piece ∷ pieces) parts =
    ap (λ b. b || list_any (has_spelled minute) (map spelling_of pieces)) (has_spelling minute piece parts.0)
    ∙ ap (λ b. has_piece minute piece || b) (any_piece minute pieces parts.1)

-- the minutes of the pieces of a day
and-or : (a b c : Bool) → ((a && b) || (a && c)) ≡ (a && (b || c))
and-or true b c = refl
and-or false b c = refl

and_nothing : (a : Bool) → false ≡ (a && false)
and_nothing true = refl
and_nothing false = refl

has_option : (word : DayWord) (minute : ℕ) (o : Option (ℕ × ℕ)) (rest : List (ℕ × ℕ)) (b : Bool)
    → list_any (has_piece minute) (map (λ m. (word, m)) rest) ≡ (spans (word_days word) (minute / 1440) && b)
    → list_any (has_piece minute) (map (λ m. (word, m)) (cons_option o rest)) ≡ (spans (word_days word) (minute / 1440) && (elim o [ Some m ↦ within (minute % 1440) m | None ↦ false ] || b))
has_option word minute None rest b others = others
has_option word minute (Some m) rest b others =
    ap (λ x. (spans (word_days word) (minute / 1440) && within (minute % 1440) m) || x) others
    ∙ and-or (spans (word_days word) (minute / 1440)) (within (minute % 1440) m) b

same-day : (day minute : ℕ) (range : ℕ × ℕ) → minute / 1440 ≡ day → elim (on_day day range) [ Some m ↦ within (minute % 1440) m | None ↦ false ] ≡ within minute range
same-day day minute range is =
    cond_both (nat_le (max range.0 (1440 * day)) (min range.1 (1440 * day + 1439)))
    (Some (max range.0 (1440 * day) - 1440 * day, min range.1 (1440 * day + 1439) - 1440 * day)) None
    (λ (o : Option (ℕ × ℕ)). elim o [ Some m ↦ within (minute % 1440) m | None ↦ false ] ≡ within minute range)
    (λ there. inside range.0 range.1 day minute (leb-true (max range.0 (1440 * day)) (min range.1 (1440 * day + 1439)) there) is)
    (λ none. outside range.0 range.1 day minute (leb-false (max range.0 (1440 * day)) (min range.1 (1440 * day + 1439)) none) is)
  where
    inside : (low high day minute : ℕ) → max low (1440 * day) ≤ min high (1440 * day + 1439) → minute / 1440 ≡ day
        → (nat_le (max low (1440 * day) - 1440 * day) (minute % 1440) && nat_le (minute % 1440) (min high (1440 * day + 1439) - 1440 * day)) ≡ (nat_le low minute && nat_le minute high)
    inside low high day minute le is = grind (arith, nat_tests)

    outside : (low high day minute : ℕ) → min high (1440 * day + 1439) < max low (1440 * day) → minute / 1440 ≡ day → false ≡ (nat_le low minute && nat_le minute high)
    outside low high day minute lt is = grind (arith, nat_tests)

-- and of a set on a day
has_day : (word : DayWord) (day minute : ℕ) (runs : List (ℕ × ℕ)) → minute / 1440 ≡ day
    → list_any (has_piece minute) (pieces_on runs (word, day)) ≡ (spans (word_days word) (minute / 1440) && holds runs minute)
has_day word day minute [] is = and_nothing (spans (word_days word) (minute / 1440))
has_day word day minute (range ∷ runs) is =
    has_option word minute (on_day day range) (filter_map (on_day day) runs) (holds runs minute) (has_day word day minute runs is)
    ∙ ap (λ b. spans (word_days word) (minute / 1440) && (b || holds runs minute)) (same-day day minute range is)

-- other days have none of them
has_other : (word : DayWord) (day minute : ℕ) (rest : List (ℕ × ℕ)) → spans (word_days word) (minute / 1440) ≡ false
    → list_any (has_piece minute) (map (λ m. (word, m)) rest) ≡ false
has_other word day minute [] other = refl
has_other word day minute (m ∷ rest) other =
    or_from_parts (spans (word_days word) (minute / 1440)) (within (minute % 1440) m) (list_any (has_piece minute) (map (λ m. (word, m)) rest)) other (has_other word day minute rest other)
  where
    or_from_parts : (a b c : Bool) → a ≡ false → c ≡ false → ((a && b) || c) ≡ false
    or_from_parts a b c off none = ap (λ x. (x && b) || c) off ∙ none

one_day : (word : DayWord) (day minute : ℕ) (runs : List (ℕ × ℕ)) → word_days word ≡ (day, day)
    → list_any (has_piece minute) (pieces_on runs (word, day)) ≡ (nat_eq day (minute / 1440) && holds runs minute)
one_day word day minute runs named =
    elim (cases_Bool (nat_eq day (minute / 1440))) [
      | inl same ↦
          let is : minute / 1440 ≡ day = sym (eqb-true day (minute / 1440) same) in
          has_day word day minute runs is
          ∙ ap (λ (d : ℕ × ℕ). spans d (minute / 1440) && holds runs minute) named
          ∙ ap (λ b. b && holds runs minute) (spans_same day (minute / 1440) is ∙ sym same)
      | inr other ↦
          has_other word day minute (filter_map (on_day day) runs) (ap (λ (d : ℕ × ℕ). spans d (minute / 1440)) named ∙ spans_other day (minute / 1440) other)
          ∙ ap (λ b. b && holds runs minute) (sym other)
    ]
  where
    spans_same : (day at : ℕ) → at ≡ day → (nat_le day at && nat_le at day) ≡ true
    spans_same day at is = grind (arith, nat_tests)

    spans_other : (day at : ℕ) → nat_eq day at ≡ false → (nat_le day at && nat_le at day) ≡ false
    spans_other day at other = grind (arith, nat_tests)

days_have : (minute : ℕ) (runs : List (ℕ × ℕ)) (days : List (DayWord × ℕ))
    → list_any (has_piece minute) (flat_map (pieces_on runs) days) ≡ list_any (λ day. list_any (has_piece minute) (pieces_on runs day)) days
days_have minute runs [] = refl
days_have minute runs (day ∷ days) =
    list_any-append (has_piece minute) (pieces_on runs day) (flat_map (pieces_on runs) days)
    ∙ ap (λ b. list_any (has_piece minute) (pieces_on runs day) || b) (days_have minute runs days)

picked : (at : ℕ) (b : Bool) → at < 7
    → ((nat_eq 0 at && b) || ((nat_eq 1 at && b) || ((nat_eq 2 at && b) || ((nat_eq 3 at && b) || ((nat_eq 4 at && b) || ((nat_eq 5 at && b) || ((nat_eq 6 at && b) || false))))))) ≡ b
picked zero true below = refl
picked zero false below = refl
picked (suc zero) true below = refl
picked (suc zero) false below = refl
picked (suc (suc zero)) true below = refl
picked (suc (suc zero)) false below = refl
picked (suc (suc (suc zero))) true below = refl
picked (suc (suc (suc zero))) false below = refl
picked (suc (suc (suc (suc zero)))) true below = refl
picked (suc (suc (suc (suc zero)))) false below = refl
picked (suc (suc (suc (suc (suc zero))))) true below = refl
picked (suc (suc (suc (suc (suc zero))))) false below = refl
picked (suc (suc (suc (suc (suc (suc zero)))))) true below = refl
picked (suc (suc (suc (suc (suc (suc zero)))))) false below = refl
picked (suc (suc (suc (suc (suc (suc (suc at))))))) b below = absurd (omega arith)

-- each day by its own word
days_hold : (runs : List (ℕ × ℕ)) (minute : ℕ) → minute < 10080 → list_any (has_piece minute) (flat_map (pieces_on runs) days_of_week) ≡ holds runs minute
days_hold runs minute below =
    let p = λ (word : DayWord) (day : ℕ). list_any (has_piece minute) (pieces_on runs (word, day)) in
    let at = λ (day : ℕ). nat_eq day (minute / 1440) && holds runs minute in
    days_have minute runs days_of_week
    ∙ ap (λ b. b || (p mo 1 || (p tu 2 || (p we 3 || (p th 4 || (p fr 5 || (p sa 6 || false))))))) (one_day su 0 minute runs refl)
    ∙ ap (λ b. at 0 || (b || (p tu 2 || (p we 3 || (p th 4 || (p fr 5 || (p sa 6 || false))))))) (one_day mo 1 minute runs refl)
    ∙ ap (λ b. at 0 || (at 1 || (b || (p we 3 || (p th 4 || (p fr 5 || (p sa 6 || false))))))) (one_day tu 2 minute runs refl)
    ∙ ap (λ b. at 0 || (at 1 || (at 2 || (b || (p th 4 || (p fr 5 || (p sa 6 || false))))))) (one_day we 3 minute runs refl)
    ∙ ap (λ b. at 0 || (at 1 || (at 2 || (at 3 || (b || (p fr 5 || (p sa 6 || false))))))) (one_day th 4 minute runs refl)
    ∙ ap (λ b. at 0 || (at 1 || (at 2 || (at 3 || (at 4 || (b || (p sa 6 || false))))))) (one_day fr 5 minute runs refl)
    ∙ ap (λ b. at 0 || (at 1 || (at 2 || (at 3 || (at 4 || (at 5 || (b || false))))))) (one_day sa 6 minute runs refl)
    ∙ picked (minute / 1440) (holds runs minute) (omega arith)

-- days that are alike
range_same : (a b : ℕ × ℕ) → (nat_eq a.0 b.0 && nat_eq a.1 b.1) ≡ true → a ≡ b
range_same a b same =
    let both = and_parts (nat_eq a.0 b.0) (nat_eq a.1 b.1) same in pair_same a.0 a.1 b (sym (eqb-true a.0 b.0 both.0)) (sym (eqb-true a.1 b.1 both.1))

pub ranges_same : (xs ys : List (ℕ × ℕ)) → same_ranges xs ys ≡ true → xs ≡ ys
ranges_same [] [] same = refl
ranges_same [] (y ∷ ys) same = absurd (false≢true same)
ranges_same (x ∷ xs) [] same = absurd (false≢true same)
ranges_same (x ∷ xs) (y ∷ ys) same =
    let both = and_parts (same_range x y) (same_ranges xs ys) same in
    ap (λ (r : ℕ × ℕ). r ∷ xs) (range_same x y both.0) ∙ ap (λ (rs : List (ℕ × ℕ)). y ∷ rs) (ranges_same xs ys both.1)

abbrev on : List (ℕ × ℕ) → ℕ → List (ℕ × ℕ)
on runs day = filter_map (on_day day) runs

alike_same : (runs : List (ℕ × ℕ)) (day other : ℕ) → are_alike runs day other ≡ true → on runs day ≡ on runs other
unfolding are_alike
alike_same runs day other alike = ranges_same (on runs day) (on runs other) alike

record Weekdays (runs : List (ℕ × ℕ)) : Type 0 where
  two : on runs 1 ≡ on runs 2
  three : on runs 2 ≡ on runs 3
  four : on runs 3 ≡ on runs 4
  five : on runs 4 ≡ on runs 5

weekdays_same : (runs : List (ℕ × ℕ)) → weekdays_alike runs ≡ true → Weekdays runs
weekdays_same runs alike =
    let a = are_alike runs 1 2 in let b = are_alike runs 2 3 in let c = are_alike runs 3 4 in let d = are_alike runs 4 5 in
    let abc = and_parts (a && b && c) d alike in let ab = and_parts (a && b) c abc.0 in let aa = and_parts a b ab.0 in
    record { two = alike_same runs 1 2 aa.0; three = alike_same runs 2 3 aa.1; four = alike_same runs 3 4 ab.1; five = alike_same runs 4 5 abc.1 }

weekday_same : (runs : List (ℕ × ℕ)) → Weekdays runs → (day : ℕ) → day < 7 → spans (1, 5) day ≡ true → on runs 1 ≡ on runs day
weekday_same runs same zero below in_span = absurd (false≢true in_span)
weekday_same runs same (suc zero) below in_span = refl
weekday_same runs same (suc (suc zero)) below in_span = same.two
weekday_same runs same (suc (suc (suc zero))) below in_span = same.two ∙ same.three
weekday_same runs same (suc (suc (suc (suc zero)))) below in_span = same.two ∙ same.three ∙ same.four
weekday_same runs same (suc (suc (suc (suc (suc zero))))) below in_span = same.two ∙ same.three ∙ same.four ∙ same.five
weekday_same runs same (suc (suc (suc (suc (suc (suc zero)))))) below in_span = absurd (false≢true in_span)
weekday_same runs same (suc (suc (suc (suc (suc (suc (suc day))))))) below in_span = absurd (omega arith)

any_same : (runs : List (ℕ × ℕ)) → Weekdays runs → on runs 0 ≡ on runs 1 → on runs 5 ≡ on runs 6 → (day : ℕ) → day < 7 → on runs 0 ≡ on runs day
any_same runs same first last zero below = refl
any_same runs same first last (suc zero) below = first
any_same runs same first last (suc (suc zero)) below = first ∙ same.two
any_same runs same first last (suc (suc (suc zero))) below = first ∙ same.two ∙ same.three
any_same runs same first last (suc (suc (suc (suc zero)))) below = first ∙ same.two ∙ same.three ∙ same.four
any_same runs same first last (suc (suc (suc (suc (suc zero))))) below = first ∙ same.two ∙ same.three ∙ same.four ∙ same.five
any_same runs same first last (suc (suc (suc (suc (suc (suc zero)))))) below = first ∙ same.two ∙ same.three ∙ same.four ∙ same.five ∙ last
any_same runs same first last (suc (suc (suc (suc (suc (suc (suc day))))))) below = absurd (omega arith)

-- a word whose days have the minutes of one day
one_group : (word : DayWord) (day minute : ℕ) (runs : List (ℕ × ℕ)) → (spans (word_days word) (minute / 1440) ≡ true → on runs day ≡ on runs (minute / 1440))
    → list_any (has_piece minute) (pieces_on runs (word, day)) ≡ (spans (word_days word) (minute / 1440) && holds runs minute)
one_group word day minute runs same =
    elim (cases_Bool (spans (word_days word) (minute / 1440))) [
      | inl in_span ↦
          ap (λ (ms : List (ℕ × ℕ)). list_any (has_piece minute) (map (λ m. (word, m)) ms)) (same in_span) ∙ has_day word (minute / 1440) minute runs refl
      | inr out ↦ has_other word day minute (on runs day) out ∙ ap (λ b. b && holds runs minute) (sym out)
    ]

picked_any : (at : ℕ) (b : Bool) → at < 7 → ((spans (0, 6) at && b) || false) ≡ b
picked_any at b below = or-false (spans (0, 6) at && b) ∙ ap (λ t. t && b) (all_days at below)
  where
    all_days : (at : ℕ) → at < 7 → (nat_le 0 at && nat_le at 6) ≡ true
    all_days at below = grind (arith, nat_tests)

picked-parts : (at : ℕ) (b : Bool) → at < 7 → ((spans (1, 5) at && b) || ((spans (6, 6) at && b) || ((spans (0, 0) at && b) || false))) ≡ b
picked-parts zero true below = refl
picked-parts zero false below = refl
picked-parts (suc zero) true below = refl
picked-parts (suc zero) false below = refl
picked-parts (suc (suc zero)) true below = refl
picked-parts (suc (suc zero)) false below = refl
picked-parts (suc (suc (suc zero))) true below = refl
picked-parts (suc (suc (suc zero))) false below = refl
picked-parts (suc (suc (suc (suc zero)))) true below = refl
picked-parts (suc (suc (suc (suc zero)))) false below = refl
picked-parts (suc (suc (suc (suc (suc zero))))) true below = refl
picked-parts (suc (suc (suc (suc (suc zero))))) false below = refl
picked-parts (suc (suc (suc (suc (suc (suc zero)))))) true below = refl
picked-parts (suc (suc (suc (suc (suc (suc zero)))))) false below = refl
picked-parts (suc (suc (suc (suc (suc (suc (suc at))))))) b below = absurd (omega arith)

any-holds : (runs : List (ℕ × ℕ)) (minute : ℕ) → minute < 10080 → Weekdays runs → ends_alike runs ≡ true
    → list_any (has_piece minute) (flat_map (pieces_on runs) ((any, 0) ∷ [])) ≡ holds runs minute
any-holds runs minute below same ends =
    let both = and_parts (are_alike runs 0 1) (are_alike runs 5 6) ends in
    days_have minute runs ((any, 0) ∷ [])
    ∙ ap (λ b. b || false) (one_group any 0 minute runs (λ in_span. any_same runs same (alike_same runs 0 1 both.0) (alike_same runs 5 6 both.1) (minute / 1440) (omega arith)))
    ∙ picked_any (minute / 1440) (holds runs minute) (omega arith)

own_day : (day at : ℕ) (runs : List (ℕ × ℕ)) → spans (day, day) at ≡ true → on runs day ≡ on runs at
own_day day at runs in_span =
    let both = and_parts (nat_le day at) (nat_le at day) in_span in
    let low : day ≤ at = leb-true day at both.0 in let up : at ≤ day = leb-true at day both.1 in
    ap (on runs) (omega arith)

parts_hold : (runs : List (ℕ × ℕ)) (minute : ℕ) → minute < 10080 → Weekdays runs → list_any (has_piece minute) (flat_map (pieces_on runs) weekdays_and_ends) ≡ holds runs minute
parts_hold runs minute below same =
    let p = λ (word : DayWord) (day : ℕ). list_any (has_piece minute) (pieces_on runs (word, day)) in
    let at = minute / 1440 in
    let has = holds runs minute in
    days_have minute runs weekdays_and_ends
    ∙ ap (λ b. b || (p sa 6 || (p su 0 || false))) (one_group wk 1 minute runs (weekday_same runs same (minute / 1440) (omega arith)))
    ∙ ap (λ b. (spans (1, 5) at && has) || (b || (p su 0 || false))) (one_group sa 6 minute runs (own_day 6 (minute / 1440) runs))
    ∙ ap (λ b. (spans (1, 5) at && has) || ((spans (6, 6) at && has) || (b || false))) (one_group su 0 minute runs (own_day 0 (minute / 1440) runs))
    ∙ picked-parts (minute / 1440) (holds runs minute) (omega arith)

-- the pieces of a set hold its minutes
pieces_have : (runs : List (ℕ × ℕ)) (minute : ℕ) → minute < 10080 → list_any (has_piece minute) (pieces_of runs) ≡ holds runs minute
unfolding groups_of
pieces_have runs minute below =
    cond_both (weekdays_alike runs) (cond (ends_alike runs) ((any, 0) ∷ []) weekdays_and_ends) days_of_week
    (λ (days : List (DayWord × ℕ)). list_any (has_piece minute) (flat_map (pieces_on runs) days) ≡ holds runs minute)
    (λ alike.
    let same = weekdays_same runs alike in
    cond_both (ends_alike runs) ((any, 0) ∷ []) weekdays_and_ends
    (λ (days : List (DayWord × ℕ)). list_any (has_piece minute) (flat_map (pieces_on runs) days) ≡ holds runs minute)
    (λ ends. any-holds runs minute below same ends)
    (λ apart. parts_hold runs minute below same))
    (λ apart. days_hold runs minute below)

spelled_runs : (runs : List (ℕ × ℕ)) → AreSeparateRanges runs → spelled_minutes (map spelling_of (pieces_of runs)) ≡ runs
spelled_runs runs are =
    maximal_runs_runs (λ minute. list_any (has_spelled minute) (map spelling_of (pieces_of runs))) runs are
    (λ minute below. any_piece minute (pieces_of runs) (parts-of runs) ∙ pieces_have runs minute below)

-- neither `Never` nor a timetable's name begins with a day word's letters
not-never : (word : DayWord) (rest : List ℕ) → bytes_eq (lower (word_name word ++ rest)) (codes "never") ≡ false
not-never su rest = refl
not-never mo rest = refl
not-never tu rest = refl
not-never we rest = refl
not-never th rest = refl
not-never fr rest = refl
not-never sa rest = refl
not-never wk rest = refl
not-never any rest = refl

no-table : (word : DayWord) (rest : List ℕ) → found predefined_tables (lower (word_name word ++ rest)) ≡ None
unfolding scan predefined_tables
no-table su rest = refl
no-table mo rest = refl
no-table tu rest = refl
no-table we rest = refl
no-table th rest = refl
no-table fr rest = refl
no-table sa rest = refl
no-table wk rest = refl
no-table any rest = refl

table_none : (text : List ℕ) → found predefined_tables (lower text) ≡ None → table_at predefined_tables text ≡ None
table_none text none = cond_both (is_table_name text) (found predefined_tables (lower text)) None (λ (o : Option (List (ℕ × ℕ))). o ≡ None) (λ is. none) (λ other. refl)

list_text : (line : ℕ) (word : DayWord) (rest text : List ℕ) (runs : List (ℕ × ℕ)) → text ≡ word_name word ++ rest
    → windows_in line text ≡ Ok runs → time_of predefined_tables line text ≡ Ok runs
list_text line word rest text runs is read =
    cond-false (bytes_eq (lower text) (codes "never")) (Ok []) (elim (table_at predefined_tables text) [ Some windows ↦ Ok windows | None ↦ windows_in line text ])
    (ap (λ t. bytes_eq (lower t) (codes "never")) is ∙ not-never word rest)
    ∙ ap (λ (o : Option (List (ℕ × ℕ))). elim o [ Some windows ↦ Ok windows | None ↦ windows_in line text ])
    (table_none text (ap (λ t. found predefined_tables (lower t)) is ∙ no-table word rest))
    ∙ read

nothing_runs : (runs : List (ℕ × ℕ)) → AreSeparateRanges runs → pieces_of runs ≡ [] → runs ≡ []
nothing_runs runs are none = sym (spelled_runs runs are) ∙ ap (λ (ps : List Piece). spelled_minutes (map spelling_of ps)) none ∙ maximal_runs_runs (λ minute. false) [] tt (λ minute below. refl)

text_read : (line : ℕ) (runs : List (ℕ × ℕ)) → AreSeparateRanges runs → (pieces : List Piece) → pieces_of runs ≡ pieces → time_of predefined_tables line (pieces_text pieces) ≡ Ok runs
text_read line runs are [] is = ap Ok (sym (nothing_runs runs are is))
text_read line runs are (piece ∷ pieces) is =
    let text = pieces_text (piece ∷ pieces) in
    let parts : AreParts (piece ∷ pieces) = subst AreParts is (parts-of runs) in
    list_text line piece.0 (hours_text (hours_of piece.1) ++ behind 44 (map piece_text pieces)) text runs
    (append_assoc (word_name piece.0) (hours_text (hours_of piece.1)) (behind 44 (map piece_text pieces)))
    (ap (λ (r : Result (List Simple) ℕ). elim r [ Ok simples ↦ Ok (maximal_runs (any_has simples)) | Err at ↦ Err (unreadable line text at) ])
    (lists_read (lower text) (map spelling_of (piece ∷ pieces)) (spells piece pieces parts))
    ∙ ap Ok (read_minutes (map simple_of (map spelling_of (piece ∷ pieces))) (map spelling_of (piece ∷ pieces)) refl
    ∙ ap (λ (ps : List Piece). spelled_minutes (map spelling_of ps)) (sym is) ∙ spelled_runs runs are))

-- the string is read as the set
pub time_read : (line : ℕ) (runs : List (ℕ × ℕ)) → AreSeparateRanges runs → time_of predefined_tables line (time_text runs) ≡ Ok runs
unfolding time_text
time_read line runs are = text_read line runs are (pieces_of runs) refl
