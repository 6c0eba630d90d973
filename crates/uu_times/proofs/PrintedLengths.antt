-- How long a system's text can be.
use Rattle.std.proofs.Common.{◌≡◌, ℕ, suc, ◌+◌, ◌-◌, ◌*◌, ◌<◌, ◌≤◌, ◌^◌, cond, Option, None, Some, IfSome, option_map, List, [], ◌∷◌, ◌++◌, length, length-append, map, refl, ap, sym, subst, arith, nat_eq, nat_le, codes, max, min, All}
use Rattle.std.specs.Prelude.{option_to_list}
use Rattle.std.proofs.lemmas.Bool.{cond_both, leb-true, and_parts}
use Rattle.std.proofs.lemmas.Fmt.{length-decimal-le}
use Rattle.std.proofs.lemmas.List.Elements.{All-head, All-tail}
use Rattle.std.specs.Fmt.{decimal}
use Rattle.std.specs.List.{flat_map, filter_map, cons_option}
use Rattle.uu_names.proofs.GradeTables.{grade_bytes_at}
use Rattle.uu_names.specs.Name.{is_site_byte, has_form}
use Rattle.uu_times.specs.declared.system.Line.{Line}
use Rattle.uu_times.specs.Grammar.{DayWord, su, mo, tu, we, th, fr, sa, wk, any, Hours, hours_text}
use Rattle.uu_times.specs.Printed.{behind, on_day, Piece, pieces_on, days_of_week, weekdays_alike, ends_alike, weekdays_and_ends, groups_of, pieces_of, word_name, hours_of, piece_text, pieces_text, time_text, grade_text, time_words, line_text, system_text, IsLine, IsSystem}
use Rattle.uu_times.specs.Ranges.{AreSeparateRanges, AreRunsFrom}
use Rattle.uu_times.specs.System.{System, HasRetry}
use Rattle.uu_times.proofs.PrintedText.{times_text}

-- a day has at most 720 runs
count_option : (o : Option (ℕ × ℕ)) (rest : List (ℕ × ℕ)) (start next day : ℕ) → IfSome o (λ m. (start ≤ 1440 * day + 1439) × (1440 * day ≤ next - 2) × (start + 2 ≤ next)) → start + 2 ≤ next
    → 2 * length rest ≤ 1441 - (next - 1440 * day) → 2 * length (cons_option o rest) ≤ 1441 - (start - 1440 * day)
count_option None rest start next day there later few = omega arith
count_option (Some m) rest start next day there later few = omega arith

count_day : (day start : ℕ) (runs : List (ℕ × ℕ)) → AreRunsFrom start runs → 2 * length (filter_map (on_day day) runs) ≤ 1441 - (start - 1440 * day)
count_day day start [] are = omega arith
count_day day start (range ∷ runs) are =
    count_option (on_day day range) (filter_map (on_day day) runs) start (range.1 + 2) day
    (cond_both (nat_le (max range.0 (1440 * day)) (min range.1 (1440 * day + 1439)))
    (Some (max range.0 (1440 * day) - 1440 * day, min range.1 (1440 * day + 1439) - 1440 * day)) None
    (λ (o : Option (ℕ × ℕ)). IfSome o (λ m. (start ≤ 1440 * day + 1439) × (1440 * day ≤ range.1 + 2 - 2) × (start + 2 ≤ range.1 + 2)))
    (λ there. let le = leb-true (max range.0 (1440 * day)) (min range.1 (1440 * day + 1439)) there in
    let low : start ≤ range.0 = are.0 in let up : range.0 ≤ range.1 = are.1 in (omega arith, omega arith, omega arith))
    (λ none. tt))
    (let low : start ≤ range.0 = are.0 in let up : range.0 ≤ range.1 = are.1 in omega arith)
    (count_day day (range.1 + 2) runs are.3)

length-pieces : (word : DayWord) (minutes : List (ℕ × ℕ)) → length (map (λ (m : ℕ × ℕ). let p : Piece = (word, m) in p) minutes) ≡ length minutes
length-pieces word [] = refl
length-pieces word (m ∷ minutes) = ap suc (length-pieces word minutes)

count_days : (runs : List (ℕ × ℕ)) (days : List (DayWord × ℕ)) → AreSeparateRanges runs → length (flat_map (pieces_on runs) days) ≤ 720 * length days
count_days runs [] are = omega arith
count_days runs (day ∷ days) are =
    omega (arith, length-append (pieces_on runs day) (flat_map (pieces_on runs) days), length-pieces day.0 (filter_map (on_day day.1) runs), count_day day.1 0 runs are, count_days runs days are)

-- a piece has at most 12 bytes
length-word : (word : DayWord) → length (word_name word) ≤ 3
length-word su = omega arith
length-word mo = omega arith
length-word tu = omega arith
length-word we = omega arith
length-word th = omega arith
length-word fr = omega arith
length-word sa = omega arith
length-word wk = omega arith
length-word any = omega arith

length-hours : (hours : Option Hours) → length (hours_text hours) ≤ 9
length-hours None = omega arith
length-hours (Some hours) = omega arith

length-behind : (pieces : List Piece) → length (behind 44 (map piece_text pieces)) ≤ 13 * length pieces
length-behind [] = omega arith
length-behind (piece ∷ pieces) =
    omega (arith, length-append (piece_text piece) (behind 44 (map piece_text pieces)), length-append (word_name piece.0) (hours_text (hours_of piece.1)), length-word piece.0, length-hours (hours_of piece.1), length-behind pieces)

length_text : (pieces : List Piece) → length (pieces_text pieces) ≤ 13 * length pieces + 5
length_text [] = omega arith
length_text (piece ∷ pieces) = omega (arith, length-behind (piece ∷ pieces))

few_groups : (runs : List (ℕ × ℕ)) → length (groups_of runs) ≤ 7
unfolding groups_of
few_groups runs =
    cond_both (weekdays_alike runs) (cond (ends_alike runs) ((any, 0) ∷ []) weekdays_and_ends) days_of_week (λ (days : List (DayWord × ℕ)). length days ≤ 7)
    (λ alike. cond_both (ends_alike runs) ((any, 0) ∷ []) weekdays_and_ends (λ (days : List (DayWord × ℕ)). length days ≤ 7) (λ ends. omega arith) (λ apart. omega arith))
    (λ apart. omega arith)

length_time : (runs : List (ℕ × ℕ)) → AreSeparateRanges runs → length (time_text runs) ≤ 65525
unfolding time_text
length_time runs are = omega (arith, length_text (pieces_of runs), count_days runs (groups_of runs) are, few_groups runs)

-- a time line
length-retry : (retry : Option ℕ) → IfSome retry (λ minutes. minutes < 10 ^ 9) → length (behind 32 (option_to_list (option_map decimal retry))) ≤ 10
length-retry None below = omega arith
length-retry (Some minutes) below = omega (arith, length-append (decimal minutes) [], length-decimal-le 9 minutes (omega arith) below (omega arith))

retry_below : (retry : Option ℕ) → IfSome retry (λ minutes. (1 ≤ minutes) × (minutes ≤ 525600)) → IfSome retry (λ minutes. minutes < 10 ^ 9)
retry_below None is = tt
retry_below (Some minutes) is = omega (arith, is.1)

length-grade : (grade : ℕ) → grade < 62 → length (grade_text grade) ≡ 1
length-grade grade below = ap (λ (o : Option ℕ). length (option_to_list o)) (grade_bytes_at grade below)

length-line : (line : Line) → IsLine line → HasRetry line → length (line_text (time_words line)) ≤ 65548
length-line line is retry =
    let text = time_text line.windows in
    let behind_text = behind 32 (option_to_list (option_map decimal line.retry)) in
    let a : length text ≤ 65525 = length_time line.windows is.1 in
    let b : length behind_text ≤ 10 = length-retry line.retry (retry_below line.retry retry) in
    let g : length (grade_text line.grade) ≡ 1 = length-grade line.grade is.0 in
    cond_both (nat_eq line.grade 61) (codes "time" ∷ []) (codes "timegrade" ∷ grade_text line.grade ∷ [])
    (λ (front : List (List ℕ)). length (line_text (front ++ text ∷ option_to_list (option_map decimal line.retry))) ≤ 65548)
    (λ lowest. lowest_length text behind_text a b)
    (λ higher. higher_length (grade_text line.grade) text behind_text g a b)
  where
    lowest_length : (text more : List ℕ) → length text ≤ 65525 → length more ≤ 10 → length ((codes "time" ++ ((32 ∷ text) ++ more)) ++ 10 ∷ []) ≤ 65548
    lowest_length text more a b = omega (arith, length-append (codes "time" ++ ((32 ∷ text) ++ more)) (10 ∷ []), length-append (codes "time") ((32 ∷ text) ++ more), length-append (32 ∷ text) more)

    higher_length : (grade text more : List ℕ) → length grade ≡ 1 → length text ≤ 65525 → length more ≤ 10
        → length ((codes "timegrade" ++ ((32 ∷ grade) ++ ((32 ∷ text) ++ more))) ++ 10 ∷ []) ≤ 65548
    higher_length grade text more g a b =
        omega (
          arith,
          length-append (codes "timegrade" ++ ((32 ∷ grade) ++ ((32 ∷ text) ++ more))) (10 ∷ []),
          length-append (codes "timegrade") ((32 ∷ grade) ++ ((32 ∷ text) ++ more)),
          length-append (32 ∷ grade) ((32 ∷ text) ++ more),
          length-append (32 ∷ text) more,
        )

length-lines : (lines : List Line) → All IsLine lines → All HasRetry lines → length (flat_map (λ line. line_text (time_words line)) lines) ≤ 65548 * length lines
length-lines [] are retries = omega arith
length-lines (line ∷ lines) are retries =
    omega (
      arith,
      length-append (line_text (time_words line)) (flat_map (λ l. line_text (time_words l)) lines),
      length-line line (All-head IsLine line lines are) (All-head HasRetry line lines retries),
      length-lines lines (All-tail IsLine line lines are) (All-tail HasRetry line lines retries),
    )

-- a system
length_setting : (keyword : List ℕ) (text : List ℕ) → length (line_text (keyword ∷ text ∷ [])) ≡ length keyword + length text + 2
length_setting keyword text =
    omega (arith, length-append (keyword ++ ((32 ∷ text) ++ [])) (10 ∷ []), length-append keyword ((32 ∷ text) ++ []), length-append (32 ∷ text) [])

length_number : (n : ℕ) → n < 10 ^ 9 → length (decimal n) ≤ 9
length_number n below = length-decimal-le 9 n (omega arith) below (omega arith)

pub length-system : (system : System) → IsSystem system → length (system_text system) ≤ 2097652
length-system system is =
    let a = line_text (codes "system" ∷ system.name ∷ []) in
    let b = line_text (codes "max-retries" ∷ decimal system.max_retries ∷ []) in
    let c = line_text (codes "success-wait" ∷ decimal system.success_wait ∷ []) in
    let d = flat_map line_text (map time_words system.lines) in
    let few : length system.lines ≤ 32 = is.1.0 in
    let name : length system.name ≤ 63 = leb-true (length system.name) 63 (and_parts (has_form is_site_byte system.name) (nat_le (length system.name) 63) is.0).1 in
    let one : length a ≤ 71 = omega (arith, length_setting (codes "system") system.name) in
    let two : length b ≤ 22 = omega (arith, length_setting (codes "max-retries") (decimal system.max_retries), length_number system.max_retries (omega (arith, is.1.2))) in
    let three : length c ≤ 23 = omega (arith, length_setting (codes "success-wait") (decimal system.success_wait), length_number system.success_wait (omega (arith, is.1.3))) in
    let rest : length d ≤ 65548 * length system.lines = subst (λ (t : List ℕ). length t ≤ 65548 * length system.lines) (sym (times_text system.lines)) (length-lines system.lines is.2 is.1.1) in
    summed a b c d (length system.lines) one two three rest few
  where
    summed : (a b c d : List ℕ) (n : ℕ) → length a ≤ 71 → length b ≤ 22 → length c ≤ 23 → length d ≤ 65548 * n → n ≤ 32 → length (a ++ (b ++ (c ++ d))) ≤ 2097652
    summed a b c d n one two three rest few = omega (arith, length-append a (b ++ (c ++ d)), length-append b (c ++ d), length-append c d)
