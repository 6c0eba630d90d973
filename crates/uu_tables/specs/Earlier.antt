-- The tables of a state in versions 1 to 3, as plain lists of rows, in the machine's own order: a
-- system's lines, their ranges and its success wait have tables of their own, and a job's bytes are
-- in pieces. (These tables, their keys and the size of a piece are this project's choice.)
use Rattle.std.specs.Prelude.{ℕ, zero, suc, ◌+◌, ◌*◌, ◌/◌, List, [], ◌∷◌, length, map, take, drop}
use Rattle.std.specs.List.{flat_map, range_with_len}
use Rattle.uu_times.specs.declared.system.Line.{Line}
use Rattle.uu_core.specs.declared.job.JobHead.{JobHead}
use Rattle.uu_core.specs.declared.system.SystemRow.{SystemRow}
use Rattle.uu_core.specs.State.{State, Job, head_of}
use Rattle.uu_tables.specs.declared.earlier.BareSystem.{BareSystem}
use Rattle.uu_tables.specs.declared.earlier.LineColumns.{LineColumns}
use Rattle.uu_tables.specs.declared.earlier.RangeColumns.{RangeColumns}
use Rattle.uu_tables.specs.declared.earlier.WaitColumns.{WaitColumns}
use Rattle.uu_tables.specs.declared.earlier.Piece.{Piece}
use Rattle.uu_tables.specs.declared.rows.LinkColumns.{LinkColumns}
use Rattle.uu_tables.specs.declared.rows.TakenColumns.{TakenColumns}
use Rattle.uu_tables.specs.declared.rows.EntryColumns.{EntryColumns}
use Rattle.uu_tables.specs.Tables.{call_columns, links_of, taken_rows, entry_columns}

-- a time line with its system and its place there
pub record PlacedLine : Type 0 where
  pub system : List ℕ
  pub place : ℕ
  pub line : Line

-- The number of the next job, and the rows of the other nine tables.
pub record EarlierTables : Type 0 where
  pub next : ℕ
  pub systems : List BareSystem
  pub lines : List LineColumns
  pub ranges : List RangeColumns
  pub jobs : List JobHead
  pub pieces : List Piece
  pub entries : List EntryColumns
  pub success_waits : List WaitColumns
  pub links : List LinkColumns
  pub taken : List TakenColumns

-- ---- systems, lines, ranges

abbrev pub bare_system : SystemRow → BareSystem
bare_system row = record { name = row.def.name; max_retries = row.def.max_retries; call = call_columns row.call }

-- the lines of a system, numbered from a place on
abbrev pub placed_from : List ℕ → ℕ → List Line → List PlacedLine
placed_from name place [] = []
placed_from name place (line ∷ lines) = record { system = name; place = place; line = line } ∷ placed_from name (place + 1) lines

-- the lines of a system, numbered
abbrev pub placed : SystemRow → List PlacedLine
placed row = placed_from row.def.name 0 row.def.lines

abbrev pub line_columns : PlacedLine → LineColumns
line_columns p = record { system = p.system; place = p.place; grade = p.line.grade; retry = p.line.retry }

abbrev pub range_columns : List ℕ → ℕ → ℕ × ℕ → RangeColumns
range_columns name place range = record { system = name; place = place; low = range.0; high = range.1 }

-- the ranges of a line
abbrev pub ranges_of : PlacedLine → List RangeColumns
ranges_of p = map (range_columns p.system p.place) p.line.windows

-- the success wait of a system, unless it is 0
abbrev pub waits_from : List ℕ → ℕ → List WaitColumns
waits_from name zero = []
waits_from name (suc n) = record { system = name; wait = suc n } ∷ []

abbrev pub waits_of : SystemRow → List WaitColumns
waits_of row = waits_from row.def.name row.def.success_wait

-- ---- pieces

-- the bytes of a full piece
abbrev pub piece_bytes : ℕ
piece_bytes = 16384

-- the piece of a job at a place
abbrev pub piece : ℕ → List ℕ → ℕ → Piece
piece number all place = record { job = number; place = place; bytes = take piece_bytes (drop (place * piece_bytes) all) }

-- the most pieces of a job: those of as many bytes as it may have
abbrev pub most_pieces : ℕ
most_pieces = 64

-- how many pieces so many bytes make
abbrev pub piece_count : ℕ → ℕ
piece_count size = (size + 16383) / piece_bytes

-- the pieces of a job's bytes
abbrev pub cut : ℕ → List ℕ → List Piece
cut number all = map (piece number all) (range_with_len 0 (piece_count (length all)))

abbrev pub pieces_of : Job → List Piece
pieces_of job = cut job.number job.bytes

-- ---- all of them

abbrev pub earlier_tables_of : State → EarlierTables
earlier_tables_of s = record {
  next = s.next;
  systems = map bare_system s.systems;
  lines = map line_columns (flat_map placed s.systems);
  ranges = flat_map ranges_of (flat_map placed s.systems);
  jobs = map head_of s.jobs;
  pieces = flat_map pieces_of s.jobs;
  entries = map entry_columns s.entries;
  success_waits = flat_map waits_of s.systems;
  links = flat_map links_of s.links;
  taken = flat_map taken_rows s.links;
}
