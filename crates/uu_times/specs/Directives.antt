-- What a line of a sys file says (Taylor UUCP 1.07 manual, "The Sys File"; that a timetable is
-- defined here is this project's choice).
use Rattle.std.specs.Prelude.{ℕ, ◌+◌, ◌-◌, ◌*◌, ◌&&◌, nat_le, ◌==◌, if◌then◌else◌, Option, None, Some, Result, Ok, Err, List, [], ◌∷◌, length, codes, ◌≤◌, ⊤}
use Rattle.std.specs.List.{list_all}
use Rattle.std.specs.Char.{is_ascii_digit}
use Rattle.std.specs.Str.{byte, bytes_eq}
use Rattle.uu_names.specs.Grade.{rank_of, lowest_grade}
use Rattle.uu_names.specs.Name.{site_name_of}
use Rattle.uu_names.specs.declared.fault.NameFault.{NameFault}
use Rattle.uu_times.specs.declared.directive.Directive.{Directive}
use Rattle.uu_times.specs.declared.directive.Directive.TheVariants.{Begin, Time, Retries, SuccessWait, Table, Skip}
use Rattle.uu_times.specs.declared.fault.TimeFault.{TimeFault}
use Rattle.uu_times.specs.declared.fault.TimeFault.TheVariants.{BadNumber, BadSystem, BadWords}
use Rattle.uu_times.specs.Lines.{one_word, one_or_two, words_of, uncommented}
use Rattle.uu_times.specs.Grammar.{lower}
use Rattle.uu_times.specs.System.{most_retry_minutes, most_retries, most_success_wait, HasRetry}
use Rattle.uu_times.specs.Tables.{Tables, is_table_name, time_of}

-- what follows if there was no fault
infixl 10 ◌>>=◌
abbrev pub ◌>>=◌ : {A B : Type 0} → Result A TimeFault → (A → Result B TimeFault) → Result B TimeFault
(Ok value) >>= next = next value
(Err fault) >>= next = Err fault

-- the value of decimal digits after a number
abbrev pub value_behind : ℕ → List ℕ → ℕ
value_behind value [] = value
value_behind value (digit ∷ digits) = value_behind (value * 10 + (digit - byte "0")) digits

-- the most digits of a number
abbrev pub most_digits : ℕ
most_digits = 9

-- a number is 1 to 9 digits, and within its limit
abbrev pub number_of : ℕ → List ℕ → Option ℕ
number_of limit text =
    if nat_le 1 (length text) && nat_le (length text) most_digits && list_all is_ascii_digit text && nat_le (value_behind 0 text) limit
    then Some (value_behind 0 text) else None

-- the retry number of a time line; 0 minutes count as no number
abbrev pub retry_number : ℕ → Option ℕ → Result (Option ℕ) TimeFault
retry_number line None = Err (BadNumber line)
retry_number line (Some minutes) = Ok (if minutes == 0 then None else Some minutes)

abbrev pub retry_of : ℕ → Option (List ℕ) → Result (Option ℕ) TimeFault
retry_of line None = Ok None
retry_of line (Some text) = retry_number line (number_of most_retry_minutes text)

-- `system NAME` begins a section
abbrev pub begun : ℕ → Result (List ℕ) NameFault → Result Directive TimeFault
begun line (Ok name) = Ok (Begin name)
begun line (Err fault) = Err (BadSystem line)

abbrev pub system_directive : ℕ → List (List ℕ) → Result Directive TimeFault
system_directive line arguments = elim (one_word arguments) [ None ↦ Err (BadSystem line) | Some name ↦ begun line (site_name_of name) ]

-- a time line of a grade
abbrev pub timed : Tables → ℕ → ℕ → List ℕ × Option (List ℕ) → Result Directive TimeFault
timed tables line grade arguments =
    time_of tables line arguments.0 >>= λ windows. retry_of line arguments.1
    >>= λ retry. Ok (Time (record { grade = grade; windows = windows; retry = retry }))

-- `time STRING [MINUTES]` is `timegrade z STRING [MINUTES]`
abbrev pub time_directive : Tables → ℕ → List (List ℕ) → Result Directive TimeFault
time_directive tables line arguments =
    elim (one_or_two arguments) [ None ↦ Err (BadWords line) | Some words ↦ timed tables line lowest_grade words ]

-- the rank of a word that is a grade
abbrev pub grade_of : List ℕ → Option ℕ
grade_of [] = None
grade_of (byte ∷ []) = rank_of byte
grade_of (byte ∷ next ∷ more) = None

-- `timegrade GRADE STRING [MINUTES]`
abbrev pub graded : Tables → ℕ → Option ℕ → Option (List ℕ × Option (List ℕ)) → Result Directive TimeFault
graded tables line (Some grade) (Some words) = timed tables line grade words
graded tables line (Some grade) None = Err (BadWords line)
graded tables line None words = Err (BadWords line)

abbrev pub timegrade_directive : Tables → ℕ → List (List ℕ) → Result Directive TimeFault
timegrade_directive tables line [] = Err (BadWords line)
timegrade_directive tables line (grade ∷ arguments) = graded tables line (grade_of grade) (one_or_two arguments)

-- `max-retries N`
abbrev pub retried : ℕ → Option ℕ → Result Directive TimeFault
retried line None = Err (BadNumber line)
retried line (Some number) = Ok (Retries number)

abbrev pub retries_directive : ℕ → List (List ℕ) → Result Directive TimeFault
retries_directive line arguments = elim (one_word arguments) [ None ↦ Err (BadWords line) | Some text ↦ retried line (number_of most_retries text) ]

-- `success-wait SECONDS`
abbrev pub waited : ℕ → Option ℕ → Result Directive TimeFault
waited line None = Err (BadNumber line)
waited line (Some seconds) = Ok (SuccessWait seconds)

abbrev pub success_wait_directive : ℕ → List (List ℕ) → Result Directive TimeFault
success_wait_directive line arguments = elim (one_word arguments) [ None ↦ Err (BadWords line) | Some text ↦ waited line (number_of most_success_wait text) ]

-- `timetable NAME STRING`; the name counts in lower case
abbrev pub tabled : Tables → ℕ → List ℕ → Option (List ℕ) → Result Directive TimeFault
tabled tables line name None = Err (BadWords line)
tabled tables line name (Some text) =
    if is_table_name name then (time_of tables line text >>= λ windows. Ok (Table (lower name) windows)) else Err (BadWords line)

abbrev pub timetable_directive : Tables → ℕ → List (List ℕ) → Result Directive TimeFault
timetable_directive tables line [] = Err (BadWords line)
timetable_directive tables line (name ∷ arguments) = tabled tables line name (one_word arguments)

-- a line with this keyword, in any case of letters; any other keyword is skipped
unfoldable pub directive_of : Tables → ℕ → List ℕ → List (List ℕ) → Result Directive TimeFault
directive_of tables line keyword arguments =
    if bytes_eq (lower keyword) (codes "system") then system_directive line arguments
    else (if bytes_eq (lower keyword) (codes "time") then time_directive tables line arguments
    else (if bytes_eq (lower keyword) (codes "timegrade") then timegrade_directive tables line arguments
    else (if bytes_eq (lower keyword) (codes "max-retries") then retries_directive line arguments
    else (if bytes_eq (lower keyword) (codes "success-wait") then success_wait_directive line arguments
    else (if bytes_eq (lower keyword) (codes "timetable") then timetable_directive tables line arguments
    else Ok (Skip line))))))

-- a line without words says nothing
abbrev pub words_say : Tables → ℕ → List (List ℕ) → Result (Option Directive) TimeFault
words_say tables line [] = Ok None
words_say tables line (keyword ∷ arguments) = directive_of tables line keyword arguments >>= λ directive. Ok (Some directive)

-- what a joined line says
abbrev pub line_says : Tables → ℕ → List ℕ → Result (Option Directive) TimeFault
line_says tables line text = words_say tables line (words_of (uncommented text))

-- numbers are within their limits
abbrev pub IsValid : Directive → Type 0
IsValid (Begin name) = ⊤
IsValid (Time line) = HasRetry line
IsValid (Retries number) = number ≤ most_retries
IsValid (SuccessWait seconds) = seconds ≤ most_success_wait
IsValid (Table name windows) = ⊤
IsValid (Skip line) = ⊤
