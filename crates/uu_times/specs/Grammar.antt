-- Lists of simple strings as they are written, in lower case, and the minutes that they mean
-- (Taylor UUCP 1.07 manual, "Time Strings"). This project chose that day words may follow each
-- other, that hours don't go past their days, and that both end minutes count.
use Rattle.std.specs.Prelude.{◌≡◌, ◌⊎◌, ℕ, ◌+◌, ◌*◌, ◌/◌, ◌%◌, ◌<◌, ◌≤◌, Bool, true, ◌&&◌, ◌||◌, ◌==◌, if◌then◌else◌, Option, None, Some, IfSome, option_map, List, [], ◌∷◌, ◌++◌, length, take, map, codes}
use Rattle.std.specs.List.{flat_map, list_any}
use Rattle.std.specs.Char.{to_ascii_lowercase}
use Rattle.std.specs.Str.{byte}
use Rattle.uu_times.specs.Days.{day_minutes, spans, in_hours}

-- a text in lower case, since case doesn't count
abbrev pub lower : List ℕ → List ℕ
lower text = map to_ascii_lowercase text

-- simple strings are separated by `|` or `,`
abbrev pub is_separator : ℕ → Bool
is_separator letter = letter == byte "|" || letter == byte ","

-- the day words
pub data DayWord : Type 0 where
  su : DayWord
  mo : DayWord
  tu : DayWord
  we : DayWord
  th : DayWord
  fr : DayWord
  sa : DayWord
  wk : DayWord
  any : DayWord

abbrev pub word_text : DayWord → List ℕ
word_text su = codes "su"
word_text mo = codes "mo"
word_text tu = codes "tu"
word_text we = codes "we"
word_text th = codes "th"
word_text fr = codes "fr"
word_text sa = codes "sa"
word_text wk = codes "wk"
word_text any = codes "any"

-- the first and the last day that a word names: `wk` is Monday to Friday, `any` the whole week
abbrev pub word_days : DayWord → ℕ × ℕ
word_days su = (0, 0)
word_days mo = (1, 1)
word_days tu = (2, 2)
word_days we = (3, 3)
word_days th = (4, 4)
word_days fr = (5, 5)
word_days sa = (6, 6)
word_days wk = (1, 5)
word_days any = (0, 6)

-- all day words
abbrev pub day_words : List DayWord
day_words = su ∷ mo ∷ tu ∷ we ∷ th ∷ fr ∷ sa ∷ wk ∷ any ∷ []

-- hours from one time of day to another
pub record Hours : Type 0 where
  pub from_hour : ℕ
  pub from_minute : ℕ
  pub to_hour : ℕ
  pub to_minute : ℕ

-- a simple string: day words, and maybe hours
pub record Spelling : Type 0 where
  pub words : List DayWord
  pub hours : Option Hours

abbrev pub two_digits : ℕ → List ℕ
two_digits number = (byte "0" + number / 10) ∷ (byte "0" + number % 10) ∷ []

abbrev pub hours_text : Option Hours → List ℕ
hours_text None = []
hours_text (Some hours) =
    two_digits hours.from_hour ++ (two_digits hours.from_minute
    ++ (byte "-" ∷ (two_digits hours.to_hour ++ two_digits hours.to_minute)))

-- a simple string as it is written
abbrev pub spelled : Spelling → List ℕ
spelled spelling = flat_map word_text spelling.words ++ hours_text spelling.hours

-- a time of day; as an end, 24:00 is allowed too
abbrev pub IsTime : ℕ → ℕ → Type 0
IsTime hour minute = (hour < 24) × (minute < 60)

abbrev pub IsEnd : ℕ → ℕ → Type 0
IsEnd hour minute = IsTime hour minute ⊎ ((hour ≡ 24) × (minute ≡ 0))

abbrev pub AreHours : Option Hours → Type 0
AreHours hours = IfSome hours (λ h. IsTime h.from_hour h.from_minute × IsEnd h.to_hour h.to_minute)

-- one day word or more
abbrev pub IsSpelling : Spelling → Type 0
IsSpelling spelling = (0 < length spelling.words) × AreHours spelling.hours

-- a text in lower case is a list of simple strings, with `|` or `,` between two
abbrev pub Spells : List ℕ → List Spelling → Type 0
Spells text [] = ⊥
Spells text (spelling ∷ []) = IsSpelling spelling × (text ≡ spelled spelling)
Spells text (spelling ∷ next ∷ more) =
    IsSpelling spelling
    × ((letter : ℕ) × (rest : List ℕ) × (is_separator letter ≡ true) × (text ≡ spelled spelling ++ letter ∷ rest) × Spells rest (next ∷ more))

-- the first minute of the hours, and the last, which is 23:59 for 24:00
abbrev pub bounds_of : Hours → ℕ × ℕ
bounds_of hours =
    (60 * hours.from_hour + hours.from_minute, if hours.to_hour == 24 then 1439 else 60 * hours.to_hour + hours.to_minute)

-- the minute of the week is on one of the days, and within the hours
abbrev pub has_spelled : ℕ → Spelling → Bool
has_spelled minute spelling =
    list_any (λ word. spans (word_days word) (minute / day_minutes)) spelling.words
    && in_hours (option_map bounds_of spelling.hours) (minute % day_minutes)

-- a text begins a list of simple strings, in any case of letters
abbrev pub BeginsList : List ℕ → Type 0
BeginsList text = (rest : List ℕ) × (spellings : List Spelling) × Spells (lower text ++ rest) spellings

-- the length of the longest prefix of a text that begins a list of simple strings
pub record IsLongestFront (text : List ℕ) (at : ℕ) : Type 0 where
  pub within : at ≤ length text
  pub begins : BeginsList (take at text)
  pub longest : (longer : ℕ) → at < longer → longer ≤ length text → BeginsList (take longer text) → ⊥
