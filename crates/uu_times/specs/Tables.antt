-- Time strings and the timetables that they may name (Taylor UUCP 1.07 manual, "Time Strings"; how
-- a timetable is named and the predefined ones are this project's choice).
use Rattle.std.specs.Prelude.{◌≡◌, ℕ, Bool, false, ◌&&◌, ◌||◌, not, nat_le, nat_eq, ◌==◌, if◌then◌else◌, Option, None, Some, Result, Ok, Err, List, [], ◌∷◌, length, codes, ⊤}
use Rattle.std.specs.Cmp.Lexicographic.{slice_cmp}
use Rattle.std.specs.Ordering.{nat_cmp}
use Rattle.std.specs.BTreeMap.{insert_entry, is_at}
use Rattle.std.specs.Map.{lookup}
use Rattle.std.specs.List.{list_all, list_any, starts_with}
use Rattle.std.specs.Char.{is_ascii_alphabetic, is_ascii_alphanumeric}
use Rattle.std.specs.Str.{byte, bytes_eq}
use Rattle.uu_times.specs.declared.fault.TimeFault.{TimeFault}
use Rattle.uu_times.specs.declared.fault.TimeFault.TheVariants.{BadTime, UnknownTable}
use Rattle.uu_times.specs.Grammar.{word_text, day_words, Spelling, Spells, has_spelled, IsLongestFront, lower}
use Rattle.uu_times.specs.Ranges.{maximal_runs}
use Rattle.uu_times.specs.Internal.Scan.{list_of}
use Rattle.uu_times.specs.Internal.Simples.{any_has}

-- timetables: their names in lower case, in order, and the runs of their minutes
abbrev pub Tables : Type 0
Tables = List (List ℕ × List (ℕ × ℕ))

-- a byte of a timetable's name after the first
abbrev pub is_table_byte : ℕ → Bool
is_table_byte letter = is_ascii_alphanumeric letter || letter == byte "-" || letter == byte "_"

-- how many bytes may follow the first
abbrev pub most_table_rest : ℕ
most_table_rest = 31

abbrev pub is_table_rest : List ℕ → Bool
is_table_rest rest = nat_le (length rest) most_table_rest && list_all is_table_byte rest

-- a timetable's name is a letter, and then 0 to 31 letters, digits, `-` or `_`
abbrev pub is_table_name : List ℕ → Bool
is_table_name [] = false
is_table_name (first ∷ rest) = is_ascii_alphabetic first && is_table_rest rest

-- the timetable of a name, in any case of letters
abbrev pub table_at : Tables → List ℕ → Option (List (ℕ × ℕ))
table_at tables name = if is_table_name name then lookup (is_at (slice_cmp nat_cmp (lower name))) tables else None

-- a timetable that replaces one of the same name
abbrev pub with_table : Tables → List ℕ → List (ℕ × ℕ) → Tables
with_table tables name windows = insert_entry (slice_cmp nat_cmp) tables (lower name) windows

-- the text, in lower case, begins with a day word
abbrev pub begins_with_day : List ℕ → Bool
begins_with_day text = list_any (λ word. starts_with nat_eq text (word_text word)) day_words

-- a text that isn't a time string; so many of its bytes begin a list of simple strings
abbrev pub unreadable : ℕ → List ℕ → ℕ → TimeFault
unreadable line text at =
    if is_table_name text && not (begins_with_day (lower text)) then UnknownTable line else BadTime line at

-- the place in a text's fault is the length of its longest prefix that begins a list of simple
-- strings
abbrev pub TellsFront : List ℕ → TimeFault → Type 0
TellsFront text (BadTime line at) = IsLongestFront text at
TellsFront text fault = ⊤

-- the runs of a list of simple strings
abbrev pub windows_in : ℕ → List ℕ → Result (List (ℕ × ℕ)) TimeFault
windows_in line text = elim (list_of text) [ Ok simples ↦ Ok (maximal_runs (any_has simples)) | Err at ↦ Err (unreadable line text at) ]

-- The set of a time string on a line. `Never` is the empty set, a timetable's name is its set, and
-- otherwise it is the set of a list of simple strings. The whole text is compared, in this order.
-- `laws::time_strings_are_read` ties it to `IsTimeString`.
abbrev pub time_of : Tables → ℕ → List ℕ → Result (List (ℕ × ℕ)) TimeFault
time_of tables line text =
    if bytes_eq (lower text) (codes "never") then Ok []
    else elim (table_at tables text) [ Some windows ↦ Ok windows | None ↦ windows_in line text ]

-- the runs of the minutes that simple strings mean
abbrev pub spelled_minutes : List Spelling → List (ℕ × ℕ)
spelled_minutes spellings = maximal_runs (λ minute. list_any (has_spelled minute) spellings)

-- `Never`, in any case of letters
abbrev pub IsNever : List ℕ → Type 0
IsNever text = lower text ≡ codes "never"

-- What a time string means: no minute for `Never`, else those of the timetable that it names, and
-- else those of the list of simple strings that it is.
pub data IsTimeString (tables : Tables) (text : List ℕ) : List (ℕ × ℕ) → Type 0 where
  never : IsNever text → IsTimeString tables text []
  named : (windows : List (ℕ × ℕ)) → ¬ IsNever text → table_at tables text ≡ Some windows → IsTimeString tables text windows
  listed : (spellings : List Spelling) → ¬ IsNever text → table_at tables text ≡ None → Spells (lower text) spellings → IsTimeString tables text (spelled_minutes spellings)

-- the runs of a list of simple strings, if the text is one
abbrev pub listed_windows : List ℕ → Option (List (ℕ × ℕ))
listed_windows text = elim (list_of text) [ Ok simples ↦ Some (maximal_runs (any_has simples)) | Err at ↦ None ]

-- a timetable of simple strings
abbrev pub with_list : Tables → List ℕ → List ℕ → Tables
with_list tables name text = elim (listed_windows text) [ Some windows ↦ with_table tables name windows | None ↦ tables ]

-- the names and the strings of the timetables that are there from the start
abbrev pub predefined_strings : List (List ℕ × List ℕ)
predefined_strings =
    (codes "Evening", codes "Wk1705-0755,Sa,Su") ∷ (codes "Night", codes "Wk2305-0755,Sa,Su2305-1655") ∷ (codes "NonPeak", codes "Wk1805-0655,Sa,Su")
    ∷ []

-- the name means, in the timetables, what the string means
abbrev pub IsReadAs : Tables → List ℕ × List ℕ → Type 0
IsReadAs tables table = (spellings : List Spelling) × Spells (lower table.1) spellings × (table_at tables table.0 ≡ Some (spelled_minutes spellings))

-- The timetables that are there from the start. `laws::predefined_tables_are_read` says that each
-- of their strings is read.
unfoldable pub predefined_tables : Tables
predefined_tables =
    with_list (with_list (with_list [] (codes "Evening") (codes "Wk1705-0755,Sa,Su"))
    (codes "Night") (codes "Wk2305-0755,Sa,Su2305-1655"))
    (codes "NonPeak") (codes "Wk1805-0655,Sa,Su")
