-- The sys file that is printed of systems, which `read_sys` reads back (the form is this project's
-- choice).
use Rattle.std.specs.Prelude.{◌≡◌, ℕ, Bool, true, false, ◌-◌, ◌*◌, ◌+◌, ◌/◌, ◌%◌, ◌<◌, max, min, ◌&&◌, ◌==◌, nat_le, if◌then◌else◌, Option, None, Some, option_map, option_to_list, List, [], ◌∷◌, ◌++◌, map, codes, slice_get, All, IsTrue, ⊤}
use Rattle.std.specs.Fmt.{decimal}
use Rattle.std.specs.List.{flat_map, filter_map}
use Rattle.std.specs.Str.{byte}
use Rattle.uu_names.specs.Grade.{grade_bytes, grade_count, lowest_grade}
use Rattle.uu_names.specs.Name.{is_site_name}
use Rattle.uu_names.specs.Text.{space, line_feed}
use Rattle.uu_times.specs.declared.system.Line.{Line}
use Rattle.uu_times.specs.Days.{day_minutes}
use Rattle.uu_times.specs.Grammar.{DayWord, su, mo, tu, we, th, fr, sa, wk, any, Hours, hours_text}
use Rattle.uu_times.specs.Ranges.{AreSeparateRanges}
use Rattle.uu_times.specs.System.{System, AreWithinLimits}

-- each text after a byte; and texts with the byte between them
abbrev pub behind : ℕ → List (List ℕ) → List ℕ
behind letter texts = flat_map (λ text. letter ∷ text) texts

abbrev pub parted : ℕ → List (List ℕ) → List ℕ
parted letter [] = []
parted letter (text ∷ texts) = text ++ behind letter texts

-- the minutes that a range has on a day, counted from its midnight
abbrev pub on_day : ℕ → ℕ × ℕ → Option (ℕ × ℕ)
on_day day range =
    if nat_le (max range.0 (day_minutes * day)) (min range.1 (day_minutes * day + 1439))
    then Some (max range.0 (day_minutes * day) - day_minutes * day, min range.1 (day_minutes * day + 1439) - day_minutes * day) else None

-- a day word with minutes of its days, from first to last
abbrev pub Piece : Type 0
Piece = DayWord × (ℕ × ℕ)

abbrev pub pieces_on : List (ℕ × ℕ) → DayWord × ℕ → List Piece
pieces_on runs day = map (λ minutes. (day.0, minutes)) (filter_map (on_day day.1) runs)

-- the days of the week
abbrev pub days_of_week : List (DayWord × ℕ)
days_of_week = (su, 0) ∷ (mo, 1) ∷ (tu, 2) ∷ (we, 3) ∷ (th, 4) ∷ (fr, 5) ∷ (sa, 6) ∷ []

-- ranges are the same, one by one
abbrev pub same_range : ℕ × ℕ → ℕ × ℕ → Bool
same_range range other = range.0 == other.0 && range.1 == other.1

abbrev pub same_ranges : List (ℕ × ℕ) → List (ℕ × ℕ) → Bool
same_ranges [] [] = true
same_ranges [] (other ∷ others) = false
same_ranges (range ∷ ranges) [] = false
same_ranges (range ∷ ranges) (other ∷ others) = same_range range other && same_ranges ranges others

-- a set has the same minutes on two days
unfoldable pub are_alike : List (ℕ × ℕ) → ℕ → ℕ → Bool
are_alike runs day other = same_ranges (filter_map (on_day day) runs) (filter_map (on_day other) runs)

-- Monday to Friday are alike, and Sunday and Saturday are as the days beside them
abbrev pub weekdays_alike : List (ℕ × ℕ) → Bool
weekdays_alike runs = are_alike runs 1 2 && are_alike runs 2 3 && are_alike runs 3 4 && are_alike runs 4 5

abbrev pub ends_alike : List (ℕ × ℕ) → Bool
ends_alike runs = are_alike runs 0 1 && are_alike runs 5 6

-- Monday to Friday by one word, and Saturday and Sunday by their own
abbrev pub weekdays_and_ends : List (DayWord × ℕ)
weekdays_and_ends = (wk, 1) ∷ (sa, 6) ∷ (su, 0) ∷ []

-- the day words, each with a day that has their minutes: `Any` if all days are alike, `Wk` if
-- Monday to Friday are
unfoldable pub groups_of : List (ℕ × ℕ) → List (DayWord × ℕ)
groups_of runs = if weekdays_alike runs then (if ends_alike runs then (any, 0) ∷ [] else weekdays_and_ends) else days_of_week

-- the pieces of a set of minutes
abbrev pub pieces_of : List (ℕ × ℕ) → List Piece
pieces_of runs = flat_map (pieces_on runs) (groups_of runs)

-- a day word as it is printed
abbrev pub word_name : DayWord → List ℕ
word_name su = codes "Su"
word_name mo = codes "Mo"
word_name tu = codes "Tu"
word_name we = codes "We"
word_name th = codes "Th"
word_name fr = codes "Fr"
word_name sa = codes "Sa"
word_name wk = codes "Wk"
word_name any = codes "Any"

-- for a whole day no hours are printed
abbrev pub hours_of : ℕ × ℕ → Option Hours
hours_of minutes =
    if minutes.0 == 0 && minutes.1 == 1439 then None
    else Some (record { from_hour = minutes.0 / 60; from_minute = minutes.0 % 60; to_hour = minutes.1 / 60; to_minute = minutes.1 % 60 })

abbrev pub piece_text : Piece → List ℕ
piece_text piece = word_name piece.0 ++ hours_text (hours_of piece.1)

-- a comma and the piece of a word, if it has minutes
abbrev pub part_text : List ℕ → Option (ℕ × ℕ) → List ℕ
part_text word None = []
part_text word (Some minutes) = byte "," ∷ (word ++ hours_text (hours_of minutes))

-- `Never`, or the pieces with commas between them
abbrev pub pieces_text : List Piece → List ℕ
pieces_text [] = codes "Never"
pieces_text (piece ∷ pieces) = parted (byte ",") (map piece_text (piece ∷ pieces))

-- a set of minutes as a time string
unfoldable pub time_text : List (ℕ × ℕ) → List ℕ
time_text runs = pieces_text (pieces_of runs)

-- the letter of a grade
abbrev pub grade_text : ℕ → List ℕ
grade_text grade = option_to_list (slice_get grade_bytes grade)

-- the words of a time line: `time`, or `timegrade` and the grade if it isn't the lowest
abbrev pub time_words : Line → List (List ℕ)
time_words line =
    (if line.grade == lowest_grade then codes "time" ∷ [] else codes "timegrade" ∷ grade_text line.grade ∷ [])
    ++ time_text line.windows ∷ option_to_list (option_map decimal line.retry)

-- the words of a system's lines
abbrev pub system_words : System → List (List (List ℕ))
system_words system =
    (codes "system" ∷ system.name ∷ []) ∷ (codes "max-retries" ∷ decimal system.max_retries ∷ [])
    ∷ (codes "success-wait" ∷ decimal system.success_wait ∷ []) ∷ map time_words system.lines

-- what comes before the time string of a line, and what comes after it
abbrev pub keyword_text : ℕ → List ℕ
keyword_text grade = if grade == lowest_grade then codes "time " else codes "timegrade " ++ grade_text grade ++ space ∷ []

abbrev pub retry_text : Option ℕ → List ℕ
retry_text None = []
retry_text (Some minutes) = space ∷ decimal minutes

-- words as a line
abbrev pub line_text : List (List ℕ) → List ℕ
line_text words = parted space words ++ line_feed ∷ []

-- the lines of a system
abbrev pub system_text : System → List ℕ
system_text system = flat_map line_text (system_words system)

-- systems as a sys file
abbrev pub sys_text : List System → List ℕ
sys_text systems = flat_map system_text systems

-- what always holds of a time line and of a system
abbrev pub IsLine : Line → Type 0
IsLine line = (line.grade < grade_count) × AreSeparateRanges line.windows

abbrev pub IsSystem : System → Type 0
IsSystem system =
    IsTrue (is_site_name system.name) × AreWithinLimits system.lines system.max_retries system.success_wait × All IsLine system.lines

-- no two systems have the same name
abbrev pub NamesDiffer : List System → Type 0
NamesDiffer [] = ⊤
NamesDiffer (system ∷ systems) = All (λ other. ¬ (system.name ≡ other.name)) systems × NamesDiffer systems
