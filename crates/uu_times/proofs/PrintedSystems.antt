-- The sys file that is printed of systems is read as these systems.
use Rattle.std.proofs.Common.{◌≡◌, ℕ, ◌+◌, ◌/◌, ◌%◌, ◌<◌, ◌≤◌, true, false, ◌&&◌, ◌||◌, cond, Option, None, Some, IfSome, option_map, Ok, Err, List, [], ◌∷◌, ◌++◌, length, length-append, map, refl, ap, sym, subst, ◌∙◌, arith, nat_eq, nat_le, append_assoc, append-nil, All, codes}
use Rattle.std.specs.Prelude.{option_to_list}
use Rattle.std.proofs.lemmas.Bool.{cond_both, cond-true, cond-false, and_parts, ne_eqb, eqb-true, leb-true, lt-leb, and_from, false_from_ne_true}
use Rattle.std.proofs.lemmas.Bool.Decides.{nat_tests}
use Rattle.std.proofs.lemmas.Grind.{flat_map-append}
use Rattle.std.proofs.lemmas.List.Elements.{All-head, All-tail}
use Rattle.std.proofs.lemmas.Slice.Eq.{bytes_eq-Decides}
use Rattle.std.specs.Fmt.{decimal}
use Rattle.std.specs.List.{flat_map, list_all}
use Rattle.std.specs.Str.{bytes_eq}
use Rattle.std.specs.Str.Lines.{lines}
use Rattle.uu_names.proofs.GradeTables.{letter_at, grade_bytes_at, rank_of_letter}
use Rattle.uu_names.specs.Name.{is_site_byte, is_site_name, has_form, site_name_of}
use Rattle.uu_names.specs.declared.fault.NameFault.TheVariants.{TooLong}
use Rattle.uu_names.proofs.Basics.{list_all_both}
use Rattle.uu_times.specs.declared.directive.Directive.TheVariants.{Begin, Time, Retries, SuccessWait}
use Rattle.uu_times.specs.declared.fault.TimeFault.TheVariants.{SystemTwice, TooManyLines}
use Rattle.uu_times.specs.declared.system.Line.{Line}
use Rattle.uu_times.specs.declared.system.SysFile.{SysFile}
use Rattle.uu_times.specs.Directives.{◌>>=◌, begun, retried, waited, retry_number, retry_of, timed, grade_of, graded, directive_of, words_say}
use Rattle.uu_times.specs.Grammar.{DayWord, su, mo, tu, we, th, fr, sa, wk, any, Hours, two_digits, hours_text}
use Rattle.uu_times.specs.Internal.Reading.{Reading, Seen, has_seen, with_seen, no_reading, absorbed_if, file_of, file_read}
use Rattle.uu_times.specs.Internal.Section.{Parts, no_part, no_parts, all_systems, defaults_with, begin_part, with_line}
use Rattle.uu_times.specs.Printed.{behind, Piece, pieces_of, word_name, hours_of, piece_text, pieces_text, time_text, grade_text, time_words, system_words, line_text, system_text, sys_text, IsLine, IsSystem, NamesDiffer}
use Rattle.uu_times.specs.Ranges.{AreSeparateRanges}
use Rattle.uu_times.specs.SysFile.{Part, lines_or, system_of, sys_file_of}
use Rattle.uu_times.specs.System.{System, HasRetry, IsRetry, most_retries, most_retry_minutes, most_success_wait}
use Rattle.uu_times.specs.Tables.{predefined_tables}
use Rattle.uu_times.proofs.FileLemmas.{seen_with, file_agrees}
use Rattle.uu_times.proofs.PrintedLines.{is_sound, IsWord, AreWords, AreLines, digit_sound, one_true, taken, lines-taken, number-word, number-read}
use Rattle.uu_times.proofs.PrintedWindows.{IsPart, AreParts, parts-of, time_read}

-- ---- words

-- a site's name
site_sound : (letter : ℕ) → is_site_byte letter ≡ true → is_sound letter ≡ true
site_sound letter site = grind (arith, nat_tests)

name_sound : (name : List ℕ) → list_all is_site_byte name ≡ true → list_all is_sound name ≡ true
name_sound [] site = refl
name_sound (letter ∷ name) site =
    let both = and_parts (is_site_byte letter) (list_all is_site_byte name) site in
    and_from (is_sound letter) (list_all is_sound name) (site_sound letter both.0) (name_sound name both.1)

name_word : (name : List ℕ) → is_site_name name ≡ true → IsWord name
name_word name is =
    let form = and_parts (has_form is_site_byte name) (nat_le (length name) 63) is in
    let some = and_parts (nat_le 1 (length name)) (list_all is_site_byte name) form.0 in
    (omega (arith, leb-true 1 (length name) some.0), name_sound name some.1)

name_read : (name : List ℕ) → is_site_name name ≡ true → site_name_of name ≡ Ok name
name_read name is =
    let form = and_parts (has_form is_site_byte name) (nat_le (length name) 63) is in
    cond-true (has_form is_site_byte name) (cond (nat_le (length name) 63) (Ok name) (Err TooLong)) _ form.0
    ∙ cond-true (nat_le (length name) 63) (Ok name) (Err TooLong) form.1

-- a time string
two_sound : (n : ℕ) → n < 100 → list_all is_sound (two_digits n) ≡ true
two_sound n below =
    and_from (is_sound (48 + n / 10)) (is_sound (48 + n % 10) && true) (digit_sound (n / 10) (omega arith)) (one_true (is_sound (48 + n % 10)) (digit_sound (n % 10) (omega arith)))

hours_sound : (hours : Hours) → hours.from_hour < 100 → hours.from_minute < 100 → hours.to_hour < 100 → hours.to_minute < 100 → list_all is_sound (hours_text (Some hours)) ≡ true
hours_sound hours a b c d =
    list_all_both is_sound (two_digits hours.from_hour) (two_digits hours.from_minute ++ (45 ∷ (two_digits hours.to_hour ++ two_digits hours.to_minute))) (two_sound hours.from_hour a)
    (list_all_both is_sound (two_digits hours.from_minute) (45 ∷ (two_digits hours.to_hour ++ two_digits hours.to_minute)) (two_sound hours.from_minute b)
    (list_all_both is_sound (two_digits hours.to_hour) (two_digits hours.to_minute) (two_sound hours.to_hour c) (two_sound hours.to_minute d)))

hours_of_sound : (minutes : ℕ × ℕ) → IsPart minutes → list_all is_sound (hours_text (hours_of minutes)) ≡ true
hours_of_sound minutes is =
    cond_both (nat_eq minutes.0 0 && nat_eq minutes.1 1439) None
    (Some (record { from_hour = minutes.0 / 60; from_minute = minutes.0 % 60; to_hour = minutes.1 / 60; to_minute = minutes.1 % 60 }))
    (λ (h : Option Hours). list_all is_sound (hours_text h) ≡ true)
    (λ whole. refl)
    (λ part. hours_sound (record { from_hour = minutes.0 / 60; from_minute = minutes.0 % 60; to_hour = minutes.1 / 60; to_minute = minutes.1 % 60 }) (omega arith) (omega arith) (omega arith) (omega arith))

day_sound : (word : DayWord) → list_all is_sound (word_name word) ≡ true
day_sound su = refl
day_sound mo = refl
day_sound tu = refl
day_sound we = refl
day_sound th = refl
day_sound fr = refl
day_sound sa = refl
day_sound wk = refl
day_sound any = refl

day_some : (word : DayWord) (rest : List ℕ) → 0 < length (word_name word ++ rest)
day_some su rest = omega arith
day_some mo rest = omega arith
day_some tu rest = omega arith
day_some we rest = omega arith
day_some th rest = omega arith
day_some fr rest = omega arith
day_some sa rest = omega arith
day_some wk rest = omega arith
day_some any rest = omega arith

piece_sound : (piece : Piece) → IsPart piece.1 → list_all is_sound (piece_text piece) ≡ true
piece_sound piece is = list_all_both is_sound (word_name piece.0) (hours_text (hours_of piece.1)) (day_sound piece.0) (hours_of_sound piece.1 is)

behind_sound : (pieces : List Piece) → AreParts pieces → list_all is_sound (behind 44 (map piece_text pieces)) ≡ true
behind_sound [] are = refl
behind_sound (piece ∷ pieces) are =
    list_all_both is_sound (piece_text piece) (behind 44 (map piece_text pieces)) (piece_sound piece are.0) (behind_sound pieces are.1)

pieces_word : (pieces : List Piece) → AreParts pieces → IsWord (pieces_text pieces)
pieces_word [] are = (omega arith, refl)
pieces_word (piece ∷ pieces) are = (
  subst (λ (t : List ℕ). 0 < length t) (sym (append_assoc (word_name piece.0) (hours_text (hours_of piece.1)) (behind 44 (map piece_text pieces))))
      (day_some piece.0 (hours_text (hours_of piece.1) ++ behind 44 (map piece_text pieces))),
  list_all_both is_sound (piece_text piece) (behind 44 (map piece_text pieces)) (piece_sound piece are.0) (behind_sound pieces are.1),
)

time_word : (runs : List (ℕ × ℕ)) → IsWord (time_text runs)
unfolding time_text
time_word runs = pieces_word (pieces_of runs) (parts-of runs)

-- a grade
letter_sound : (grade : ℕ) → grade < 62 → is_sound (letter_at grade) ≡ true
letter_sound grade below = grind (arith, nat_tests)

grade_is : (grade : ℕ) → grade < 62 → grade_text grade ≡ letter_at grade ∷ []
grade_is grade below = ap (λ (o : Option ℕ). option_to_list o) (grade_bytes_at grade below)

grade_word : (grade : ℕ) → grade < 62 → IsWord (grade_text grade)
grade_word grade below =
    subst IsWord (sym (grade_is grade below)) (omega arith, one_true (is_sound (letter_at grade)) (letter_sound grade below))

grade_read : (grade : ℕ) → grade < 62 → grade_of (grade_text grade) ≡ Some grade
grade_read grade below = ap grade_of (grade_is grade below) ∙ rank_of_letter grade grade (letter_at grade) refl below refl

-- ---- lines

retry_words : (retry : Option ℕ) → IfSome retry IsRetry → AreWords (option_to_list (option_map decimal retry))
retry_words None is = tt
retry_words (Some minutes) is = (number-word minutes (omega arith), tt)

words_time : (line : Line) → IsLine line → HasRetry line → AreWords (time_words line)
words_time line is retry =
    cond_both (nat_eq line.grade 61) (codes "time" ∷ []) (codes "timegrade" ∷ grade_text line.grade ∷ [])
    (λ (front : List (List ℕ)). AreWords (front ++ time_text line.windows ∷ option_to_list (option_map decimal line.retry)))
    (λ lowest. ((omega arith, refl), (time_word line.windows, retry_words line.retry retry)))
    (λ higher. ((omega arith, refl), (grade_word line.grade is.0, (time_word line.windows, retry_words line.retry retry))))

some_time : (line : Line) → 0 < length (time_words line)
some_time line =
    cond_both (nat_eq line.grade 61) (codes "time" ∷ []) (codes "timegrade" ∷ grade_text line.grade ∷ [])
    (λ (front : List (List ℕ)). 0 < length (front ++ time_text line.windows ∷ option_to_list (option_map decimal line.retry)))
    (λ lowest. omega arith) (λ higher. omega arith)

lines_times : (lines : List Line) (more : List (List (List ℕ))) → All IsLine lines → All HasRetry lines → AreLines more → AreLines (map time_words lines ++ more)
lines_times [] more are retries rest = rest
lines_times (line ∷ lines) more are retries rest = (
  some_time line,
  words_time line (All-head IsLine line lines are) (All-head HasRetry line lines retries),
  lines_times lines more (All-tail IsLine line lines are) (All-tail HasRetry line lines retries) rest,
)

lines_system : (system : System) (more : List (List (List ℕ))) → IsSystem system → AreLines more → AreLines (system_words system ++ more)
lines_system system more is rest = (
  omega arith,
  ((omega arith, refl), (name_word system.name is.0, tt)),
  (
    omega arith,
    ((omega arith, refl), (number-word system.max_retries (omega (arith, is.1.2)), tt)),
    (
      omega arith,
      ((omega arith, refl), (number-word system.success_wait (omega (arith, is.1.3)), tt)),
      lines_times system.lines more is.2 is.1.1 rest,
    ),
  ),
)

abbrev pub AreSystems : List System → Type 0
AreSystems [] = Unit {0}
AreSystems (system ∷ systems) = IsSystem system × AreSystems systems

lines_systems : (systems : List System) → AreSystems systems → AreLines (flat_map system_words systems)
lines_systems [] are = tt
lines_systems (system ∷ systems) are = lines_system system (flat_map system_words systems) are.0 (lines_systems systems are.1)

-- what a time line says
retry_read : (number : ℕ) (retry : Option ℕ) → IfSome retry IsRetry → retry_of number (option_map decimal retry) ≡ Ok retry
retry_read number None is = refl
retry_read number (Some minutes) is =
    ap (retry_number number) (number-read most_retry_minutes minutes is.1 (omega arith))
    ∙ ap Ok (cond-false (nat_eq minutes 0) None (Some minutes) (ne_eqb minutes 0 (λ e. omega arith)))

timed_read : (number grade : ℕ) (windows : List (ℕ × ℕ)) (retry : Option ℕ) → AreSeparateRanges windows → IfSome retry IsRetry
    → timed predefined_tables number grade (time_text windows, option_map decimal retry) ≡ Ok (Time (record { grade = grade; windows = windows; retry = retry }))
timed_read number grade windows retry runs is =
    ap (λ r. r >>= λ w. retry_of number (option_map decimal retry) >>= λ m. Ok (Time (record { grade = grade; windows = w; retry = m }))) (time_read number windows runs)
    ∙ ap (λ r. r >>= λ m. Ok (Time (record { grade = grade; windows = windows; retry = m }))) (retry_read number retry is)

said_lowest : (number : ℕ) (text : List ℕ) (retry : Option ℕ)
    → words_say predefined_tables number (codes "time" ∷ text ∷ option_to_list (option_map decimal retry)) ≡ (timed predefined_tables number 61 (text, option_map decimal retry) >>= λ d. Ok (Some d))
unfolding directive_of
said_lowest number text None = refl
said_lowest number text (Some minutes) = refl

said_graded : (number grade : ℕ) (text : List ℕ) (retry : Option ℕ) → grade < 62
    → words_say predefined_tables number (codes "timegrade" ∷ grade_text grade ∷ text ∷ option_to_list (option_map decimal retry)) ≡ (timed predefined_tables number grade (text, option_map decimal retry) >>= λ d. Ok (Some d))
unfolding directive_of
said_graded number grade text None below =
    ap (λ (g : Option ℕ). graded predefined_tables number g (Some (text, None)) >>= λ d. Ok (Some d)) (grade_read grade below)
said_graded number grade text (Some minutes) below =
    ap (λ (g : Option ℕ). graded predefined_tables number g (Some (text, Some (decimal minutes))) >>= λ d. Ok (Some d)) (grade_read grade below)

said_time : (number : ℕ) (line : Line) → IsLine line → HasRetry line → words_say predefined_tables number (time_words line) ≡ Ok (Some (Time line))
said_time number line is retry =
    cond_both (nat_eq line.grade 61) (codes "time" ∷ []) (codes "timegrade" ∷ grade_text line.grade ∷ [])
    (λ (front : List (List ℕ)). words_say predefined_tables number (front ++ time_text line.windows ∷ option_to_list (option_map decimal line.retry)) ≡ Ok (Some (Time line)))
    (λ lowest.
    said_lowest number (time_text line.windows) line.retry
    ∙ ap (λ (g : ℕ). timed predefined_tables number g (time_text line.windows, option_map decimal line.retry) >>= λ d. Ok (Some d)) (sym (eqb-true line.grade 61 lowest))
    ∙ ap (λ r. r >>= λ d. Ok (Some d)) (timed_read number line.grade line.windows line.retry is.1 retry))
    (λ higher.
    said_graded number line.grade (time_text line.windows) line.retry is.0
    ∙ ap (λ r. r >>= λ d. Ok (Some d)) (timed_read number line.grade line.windows line.retry is.1 retry))

said_system : (number : ℕ) (name : List ℕ) → is_site_name name ≡ true → words_say predefined_tables number (codes "system" ∷ name ∷ []) ≡ Ok (Some (Begin name))
unfolding directive_of
said_system number name is = ap (λ r. begun number r >>= λ d. Ok (Some d)) (name_read name is)

said_retries : (number retries : ℕ) → retries ≤ most_retries → words_say predefined_tables number (codes "max-retries" ∷ decimal retries ∷ []) ≡ Ok (Some (Retries retries))
unfolding directive_of
said_retries number retries within = ap (λ r. retried number r >>= λ d. Ok (Some d)) (number-read most_retries retries within (omega arith))

said_wait : (number seconds : ℕ) → seconds ≤ most_success_wait → words_say predefined_tables number (codes "success-wait" ∷ decimal seconds ∷ []) ≡ Ok (Some (SuccessWait seconds))
unfolding directive_of
said_wait number seconds within = ap (λ r. waited number r >>= λ d. Ok (Some d)) (number-read most_success_wait seconds within (omega arith))

-- ---- systems

-- a reading that has seen systems alone
abbrev state : Seen → Parts → Reading
state named parts = record { tables = predefined_tables; tabled = []; named = named; parts = parts; skipped = [] }

abbrev with_times : Parts → List Line → Parts
with_times parts times = record {
  done = parts.done;
  name = parts.name;
  part = record { lines = times; max_retries = parts.part.max_retries; success_wait = parts.part.success_wait };
  defaults = parts.defaults;
}

times-taken : (times : List Line) (named : Seen) (parts : Parts) (number : ℕ) (more : List (List (List ℕ))) → All IsLine times → All HasRetry times
    → length parts.part.lines + length times ≤ 32
    → taken (state named parts) number (map time_words times ++ more) ≡ taken (state named (with_times parts (parts.part.lines ++ times))) (number + length times) more
times-taken [] named parts number more are retries few =
    ap (λ (ls : List Line). taken (state named (with_times parts ls)) number more) (sym (append-nil parts.part.lines))
    ∙ ap (λ n. taken (state named (with_times parts (parts.part.lines ++ []))) n more) (omega arith)
times-taken (line ∷ times) named parts number more are retries few =
    let room : nat_le 32 (length parts.part.lines) ≡ false = lt-leb 32 (length parts.part.lines) (omega arith) in
    let next = with_line parts line in
    let longer : length (parts.part.lines ++ line ∷ []) + length times ≤ 32 = omega (arith, length-append parts.part.lines (line ∷ [])) in
    ap (λ r. (r >>= λ d. absorbed_if (state named parts) number d) >>= λ s. taken s (number + 1) (map time_words times ++ more))
    (said_time number line (All-head IsLine line times are) (All-head HasRetry line times retries))
    ∙ ap (λ r. r >>= λ s. taken s (number + 1) (map time_words times ++ more)) (cond-false (nat_le 32 (length parts.part.lines)) (Err (TooManyLines number)) (Ok (state named next)) room)
    ∙ times-taken times named next (number + 1) more (All-tail IsLine line times are) (All-tail HasRetry line times retries) longer
    ∙ ap (λ (ls : List Line). taken (state named (with_times parts ls)) (number + 1 + length times) more) (append_assoc parts.part.lines (line ∷ []) times)
    ∙ ap (λ n. taken (state named (with_times parts (parts.part.lines ++ line ∷ times))) n more) (omega arith)

abbrev parts_after : Parts → System → Parts
parts_after parts system = record {
  done = all_systems parts.done parts.name parts.part parts.defaults;
  name = Some system.name;
  part = record { lines = system.lines; max_retries = Some system.max_retries; success_wait = Some system.success_wait };
  defaults = defaults_with parts.name parts.part parts.defaults;
}

abbrev parts_begun : Parts → System → Parts
parts_begun parts system = with_times (parts_after parts system) []

system-taken : (system : System) (named : Seen) (parts : Parts) (number : ℕ) (more : List (List (List ℕ))) → IsSystem system → has_seen named system.name ≡ false
    → taken (state named parts) number (system_words system ++ more) ≡ taken (state (with_seen named system.name) (parts_after parts system)) (number + 1 + 1 + 1 + length system.lines) more
system-taken system named parts number more is new =
    let times = map time_words system.lines ++ more in
    let seen = with_seen named system.name in
    let begun_parts = begin_part parts system.name in
    ap (λ r. (r >>= λ d. absorbed_if (state named parts) number d) >>= λ s. taken s (number + 1) ((codes "max-retries" ∷ decimal system.max_retries ∷ []) ∷ (codes "success-wait" ∷ decimal system.success_wait ∷ []) ∷ times))
    (said_system number system.name is.0)
    ∙ ap (λ r. r >>= λ s. taken s (number + 1) ((codes "max-retries" ∷ decimal system.max_retries ∷ []) ∷ (codes "success-wait" ∷ decimal system.success_wait ∷ []) ∷ times))
    (cond-false (has_seen named system.name) (Err (SystemTwice number)) (Ok (state seen begun_parts)) new)
    ∙ ap (λ r. (r >>= λ d. absorbed_if (state seen begun_parts) (number + 1) d) >>= λ s. taken s (number + 1 + 1) ((codes "success-wait" ∷ decimal system.success_wait ∷ []) ∷ times))
    (said_retries (number + 1) system.max_retries is.1.2)
    ∙ ap (λ r. (r >>= λ d. absorbed_if (state seen (record begun_parts { part = record no_part { max_retries = Some system.max_retries } })) (number + 1 + 1) d) >>= λ s. taken s (number + 1 + 1 + 1) times)
    (said_wait (number + 1 + 1) system.success_wait is.1.3)
    ∙ times-taken system.lines seen (parts_begun parts system) (number + 1 + 1 + 1) more is.2 is.1.1 (omega (arith, is.1.0))

-- names that are still to come were not seen
abbrev AreNew : Seen → List System → Type 0
AreNew named [] = Unit {0}
AreNew named (system ∷ systems) = (has_seen named system.name ≡ false) × AreNew named systems

apart : (m n : List ℕ) → ¬ (m ≡ n) → bytes_eq n m ≡ false
apart m n differ = false_from_ne_true (bytes_eq n m) (λ same. differ (sym ((bytes_eq-Decides n m).0 same)))

still_new : (named : Seen) (name : List ℕ) (systems : List System) → All (λ (other : System). ¬ (name ≡ other.name)) systems → AreNew named systems → AreNew (with_seen named name) systems
still_new named name [] differ new = tt
still_new named name (system ∷ systems) differ new = (
  seen_with named name system.name
      ∙ ap (λ b. b || has_seen named system.name) (apart name system.name (All-head (λ (other : System). ¬ (name ≡ other.name)) system systems differ))
      ∙ new.0,
  still_new named name systems (All-tail (λ (other : System). ¬ (name ≡ other.name)) system systems differ) new.1,
)

own_lines : (times : List Line) → lines_or times [] ≡ times
own_lines [] = refl
own_lines (line ∷ times) = refl

abbrev file_with : List System → SysFile
file_with systems = record { systems = systems; skipped = [] }

system_same : (system : System) (defaults : Part) → defaults ≡ no_part
    → system_of system.name (record { lines = system.lines; max_retries = Some system.max_retries; success_wait = Some system.success_wait }) defaults ≡ system
system_same system defaults none =
    ap (λ (d : Part). system_of system.name (record { lines = system.lines; max_retries = Some system.max_retries; success_wait = Some system.success_wait }) d) none
    ∙ ap (λ (ls : List Line). let same : System = record { name = system.name; lines = ls; max_retries = system.max_retries; success_wait = system.success_wait } in same) (own_lines system.lines)

systems-taken : (systems : List System) (named : Seen) (parts : Parts) (number : ℕ) → AreSystems systems → NamesDiffer systems → AreNew named systems
    → defaults_with parts.name parts.part parts.defaults ≡ no_part
    → (taken (state named parts) number (flat_map system_words systems) >>= λ r. Ok (file_of r)) ≡ Ok (file_with (all_systems parts.done parts.name parts.part parts.defaults ++ systems))
systems-taken [] named parts number are differ new none =
    ap (λ (ss : List System). Ok (file_with ss)) (sym (append-nil (all_systems parts.done parts.name parts.part parts.defaults)))
systems-taken (system ∷ systems) named parts number are differ new none =
    let done = all_systems parts.done parts.name parts.part parts.defaults in
    let next = parts_after parts system in
    ap (λ r. r >>= λ s. Ok (file_of s)) (system-taken system named parts number (flat_map system_words systems) are.0 new.0)
    ∙ systems-taken systems (with_seen named system.name) next (number + 1 + 1 + 1 + length system.lines) are.1 differ.1 (still_new named system.name systems differ.0 new.1) none
    ∙ ap (λ (s : System). Ok (file_with ((done ++ s ∷ []) ++ systems))) (system_same system (defaults_with parts.name parts.part parts.defaults) none)
    ∙ ap (λ (ss : List System). Ok (file_with ss)) (append_assoc done (system ∷ []) systems)

-- ---- the text

text_lines : (systems : List System) → sys_text systems ≡ flat_map line_text (flat_map system_words systems)
text_lines [] = refl
text_lines (system ∷ systems) =
    ap (λ (rest : List ℕ). system_text system ++ rest) (text_lines systems) ∙ sym (flat_map-append line_text (system_words system) (flat_map system_words systems))

all-new : (systems : List System) → AreNew [] systems
all-new [] = tt
all-new (system ∷ systems) = (refl, all-new systems)

each_system : (systems : List System) → All IsSystem systems → AreSystems systems
each_system [] are = tt
each_system (system ∷ systems) are = (All-head IsSystem system systems are, each_system systems (All-tail IsSystem system systems are))

-- the law
pub printed_read : (systems : List System) → All IsSystem systems → NamesDiffer systems → sys_file_of (sys_text systems) ≡ Ok (file_with systems)
printed_read systems are differ =
    let each = each_system systems are in
    sym (file_agrees (sys_text systems))
    ∙ ap file_read (text_lines systems)
    ∙ ap (λ r. r >>= λ s. Ok (file_of s)) (lines-taken (flat_map system_words systems) no_reading 1 (lines_systems systems each))
    ∙ systems-taken systems [] no_parts 1 each differ (all-new systems) refl
