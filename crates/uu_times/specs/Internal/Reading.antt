-- A sys file read line by line. `SysFile` says what the answer is.
use Rattle.std.specs.Prelude.{◌≡◌, ⊤, ℕ, Bool, nat_le, if◌then◌else◌, Option, None, Some, Result, Ok, Err, List, [], ◌∷◌, ◌++◌, length}
use Rattle.std.specs.BTreeMap.{insert_entry, is_at}
use Rattle.std.specs.Cmp.Lexicographic.{slice_cmp}
use Rattle.std.specs.BTreeSet.{insert_key}
use Rattle.std.specs.List.{list_any}
use Rattle.std.specs.Ordering.{nat_cmp}
use Rattle.std.specs.Str.Lines.{lines}
use Rattle.uu_times.specs.declared.directive.Directive.{Directive}
use Rattle.uu_times.specs.declared.directive.Directive.TheVariants.{Begin, Time, Retries, SuccessWait, Table, Skip}
use Rattle.uu_times.specs.declared.fault.TimeFault.{TimeFault}
use Rattle.uu_times.specs.declared.fault.TimeFault.TheVariants.{SystemTwice, TableTwice, TooManyLines, Memory}
use Rattle.uu_times.specs.declared.system.SysFile.{SysFile}
use Rattle.uu_times.specs.Directives.{◌>>=◌, line_says}
use Rattle.uu_times.specs.Lines.{Numbered, joined}
use Rattle.uu_times.specs.Internal.Section.{Parts, no_parts, begin_part, with_line, with_retries, with_success_wait, all_systems}
use Rattle.uu_times.specs.System.{most_lines}
use Rattle.uu_times.specs.Tables.{Tables, predefined_tables}

-- names seen so far, in order
abbrev pub Seen : Type 0
Seen = List (List ℕ)

abbrev pub has_seen : Seen → List ℕ → Bool
has_seen seen name = list_any (is_at (slice_cmp nat_cmp name)) seen

abbrev pub with_seen : Seen → List ℕ → Seen
with_seen seen name = insert_key (slice_cmp nat_cmp) seen name

-- what the lines so far said
pub record Reading : Type 0 where
  pub tables : Tables
  pub tabled : Seen
  pub named : Seen
  pub parts : Parts
  pub skipped : List ℕ

abbrev pub no_reading : Reading
no_reading = record { tables = predefined_tables; tabled = []; named = []; parts = no_parts; skipped = [] }

-- the lines so far and one more directive
abbrev pub absorbed : Reading → ℕ → Directive → Result Reading TimeFault
absorbed reading line (Begin name) =
    if has_seen reading.named name then Err (SystemTwice line)
    else Ok (record {
      tables = reading.tables;
      tabled = reading.tabled;
      named = with_seen reading.named name;
      parts = begin_part reading.parts name;
      skipped = reading.skipped;
    })
absorbed reading line (Time time) =
    if nat_le most_lines (length reading.parts.part.lines) then Err (TooManyLines line)
    else Ok (record {
      tables = reading.tables;
      tabled = reading.tabled;
      named = reading.named;
      parts = with_line reading.parts time;
      skipped = reading.skipped;
    })
absorbed reading line (Retries number) = Ok (record {
  tables = reading.tables;
  tabled = reading.tabled;
  named = reading.named;
  parts = with_retries reading.parts number;
  skipped = reading.skipped;
})
absorbed reading line (SuccessWait seconds) = Ok (record {
  tables = reading.tables;
  tabled = reading.tabled;
  named = reading.named;
  parts = with_success_wait reading.parts seconds;
  skipped = reading.skipped;
})
absorbed reading line (Table name windows) =
    if has_seen reading.tabled name then Err (TableTwice line)
    else Ok (record {
      tables = insert_entry (slice_cmp nat_cmp) reading.tables name windows;
      tabled = with_seen reading.tabled name;
      named = reading.named;
      parts = reading.parts;
      skipped = reading.skipped;
    })
absorbed reading line (Skip number) = Ok (record {
  tables = reading.tables;
  tabled = reading.tabled;
  named = reading.named;
  parts = reading.parts;
  skipped = reading.skipped ++ number ∷ [];
})

abbrev pub absorbed_if : Reading → ℕ → Option Directive → Result Reading TimeFault
absorbed_if reading line None = Ok reading
absorbed_if reading line (Some directive) = absorbed reading line directive

-- a line is read
abbrev pub line_read : Reading → ℕ → List ℕ → Result Reading TimeFault
line_read reading line text = line_says reading.tables line text >>= λ said. absorbed_if reading line said

-- lines are read one after the other
unfoldable pub lines_read : Reading → List Numbered → Result Reading TimeFault
lines_read reading [] = Ok reading
lines_read reading (line ∷ more) = line_read reading line.number line.line >>= λ next. lines_read next more

-- the systems and the skipped lines
abbrev pub file_of : Reading → SysFile
file_of reading = record {
  systems = all_systems reading.parts.done reading.parts.name reading.parts.part reading.parts.defaults;
  skipped = reading.skipped;
}

abbrev pub file_read : List ℕ → Result SysFile TimeFault
file_read text = lines_read no_reading (joined 1 (lines text)) >>= λ reading. Ok (file_of reading)

-- a call that takes in a line answers as expected, unless memory ran out
abbrev pub Takes : Result (Unit {0}) TimeFault → Reading → Result Reading TimeFault → Type 0
Takes (Ok done) reading expected = expected ≡ Ok reading
Takes (Err Memory) reading expected = ⊤
Takes (Err fault) reading expected = expected ≡ Err fault
