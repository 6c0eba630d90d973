-- What a sys file says (Taylor UUCP 1.07 manual, "The Sys File"; this project chose the faults, and
-- that a section's own lines replace the defaults).
use Rattle.std.specs.Prelude.{ℕ, nat_le, if◌then◌else◌, Option, None, Some, unwrap_or, Result, Ok, Err, List, [], ◌∷◌, ◌++◌, length}
use Rattle.std.specs.Cmp.Lexicographic.{slice_cmp}
use Rattle.std.specs.BTreeMap.{insert_entry}
use Rattle.std.specs.Ordering.{nat_cmp}
use Rattle.std.specs.Option.{option_or}
use Rattle.std.specs.List.{list_any, filter_map, last_or}
use Rattle.std.specs.Str.{bytes_eq}
use Rattle.std.specs.Str.Lines.{lines}
use Rattle.uu_times.specs.declared.directive.Directive.{Directive}
use Rattle.uu_times.specs.declared.directive.Directive.TheVariants.{Begin, Time, Retries, SuccessWait, Table, Skip}
use Rattle.uu_times.specs.declared.fault.TimeFault.{TimeFault}
use Rattle.uu_times.specs.declared.fault.TimeFault.TheVariants.{SystemTwice, TableTwice, TooManyLines}
use Rattle.uu_times.specs.declared.system.Line.{Line}
use Rattle.uu_times.specs.declared.system.SysFile.{SysFile}
use Rattle.uu_times.specs.Directives.{◌>>=◌, line_says}
use Rattle.uu_times.specs.Lines.{Numbered, joined}
use Rattle.uu_times.specs.System.{System, most_lines, default_retries, default_success_wait}
use Rattle.uu_times.specs.Tables.{Tables, predefined_tables}

-- what a directive has of these: a time line, a number of failures, a wait after a successful call,
-- the name of a system or of a timetable, the number of a skipped line
abbrev pub time_in : Directive → Option Line
time_in (Time line) = Some line
time_in _ = None

abbrev pub number_in : Directive → Option ℕ
number_in (Retries number) = Some number
number_in _ = None

abbrev pub success_wait_in : Directive → Option ℕ
success_wait_in (SuccessWait seconds) = Some seconds
success_wait_in _ = None

abbrev pub name_in : Directive → Option (List ℕ)
name_in (Begin name) = Some name
name_in _ = None

abbrev pub table_in : Directive → Option (List ℕ)
table_in (Table name windows) = Some name
table_in _ = None

abbrev pub skip_in : Directive → Option ℕ
skip_in (Skip line) = Some line
skip_in _ = None

-- the minutes that a line gives the timetable of this name, which is in lower case
abbrev pub windows_named : List ℕ → Directive → Option (List (ℕ × ℕ))
windows_named name (Table other windows) = if bytes_eq name other then Some windows else None
windows_named name _ = None

-- The timetables after these lines: each definition replaces one of the same name.
-- `laws::the_last_timetable_counts` says which one a name stands for.
abbrev pub known : Tables → List Directive → Tables
known tables [] = tables
known tables (Table name windows ∷ directives) = known (insert_entry (slice_cmp nat_cmp) tables name windows) directives
known tables (directive ∷ directives) = known tables directives

-- the lines up to the next `system` line
abbrev pub section : List Directive → List Directive
section [] = []
section (Begin name ∷ directives) = []
section (directive ∷ directives) = directive ∷ section directives

-- the lines since the last `system` line, if the first ones come before the others
abbrev pub present : List Directive → List Directive → List Directive
present before [] = before
present before (Begin name ∷ directives) = present [] directives
present before (directive ∷ directives) = present (before ++ directive ∷ []) directives

-- the first list, or another if it is empty
abbrev pub lines_or : List Line → List Line → List Line
lines_or [] others = others
lines_or (line ∷ lines) others = line ∷ lines

-- the time lines of a section, its last number of failures, and its last wait after a successful
-- call
pub record Part : Type 0 where
  pub lines : List Line
  pub max_retries : Option ℕ
  pub success_wait : Option ℕ

-- the system of a section: what the section doesn't say is taken from the defaults
abbrev pub system_of : List ℕ → Part → Part → System
system_of name part defaults = record {
  name = name;
  lines = lines_or part.lines defaults.lines;
  max_retries = unwrap_or (option_or part.max_retries defaults.max_retries) default_retries;
  success_wait = unwrap_or (option_or part.success_wait defaults.success_wait) default_success_wait;
}

-- what the lines of a section say about a system: its time lines, and the last of its numbers of
-- failures and of its waits
abbrev pub part_of : List Directive → Part
part_of directives = record {
  lines = filter_map time_in directives;
  max_retries = last_or None (filter_map number_in directives);
  success_wait = last_or None (filter_map success_wait_in directives);
}

-- the systems: for each `system` line its section, and the defaults for what it doesn't say
abbrev pub systems_of : Part → List Directive → List System
systems_of defaults [] = []
systems_of defaults (Begin name ∷ directives) = system_of name (part_of (section directives)) defaults ∷ systems_of defaults directives
systems_of defaults (directive ∷ directives) = systems_of defaults directives

-- what can be wrong with a line after these: a second section of a system, a 33rd time line of a
-- section, a second definition of a timetable
abbrev pub checked : List Directive → ℕ → Directive → Result Directive TimeFault
checked before line (Begin name) = if list_any (bytes_eq name) (filter_map name_in before) then Err (SystemTwice line) else Ok (Begin name)
checked before line (Time time) = if nat_le most_lines (length (filter_map time_in (present [] before))) then Err (TooManyLines line) else Ok (Time time)
checked before line (Retries number) = Ok (Retries number)
checked before line (SuccessWait seconds) = Ok (SuccessWait seconds)
checked before line (Table name windows) = if list_any (bytes_eq name) (filter_map table_in before) then Err (TableTwice line) else Ok (Table name windows)
checked before line (Skip number) = Ok (Skip number)

abbrev pub checked_if : List Directive → ℕ → Option Directive → Result (List Directive) TimeFault
checked_if before line None = Ok before
checked_if before line (Some directive) = checked before line directive >>= λ said. Ok (before ++ said ∷ [])

-- a line's own fault, or a fault because of the lines before it, or these lines and what it says
abbrev pub line_taken : List Directive → ℕ → List ℕ → Result (List Directive) TimeFault
line_taken before line text = line_says (known predefined_tables before) line text >>= λ said. checked_if before line said

-- What the lines say after the first ones. The fault is that of the first faulty line.
unfoldable pub directives_of : List Directive → List Numbered → Result (List Directive) TimeFault
directives_of before [] = Ok before
directives_of before (line ∷ more) = line_taken before line.number line.line >>= λ directives. directives_of directives more

-- the lines before the first `system` line are the defaults
abbrev pub file_with : List Directive → SysFile
file_with directives = record { systems = systems_of (part_of (section directives)) directives; skipped = filter_map skip_in directives }

-- what a sys file says, or the fault of its first faulty line
abbrev pub sys_file_of : List ℕ → Result SysFile TimeFault
sys_file_of text = directives_of [] (joined 1 (lines text)) >>= λ directives. Ok (file_with directives)
