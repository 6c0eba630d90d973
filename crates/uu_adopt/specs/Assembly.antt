-- Systems assembled from the rows of four tables, and bodies from pieces, each table in the order of
-- its key.
use Rattle.std.specs.Prelude.{ℕ, Bool, ◌==◌, ◌&&◌, List, [], ◌∷◌, map, take, drop}
use Rattle.std.specs.List.{prefix_len, flat_map}
use Rattle.uu_times.specs.declared.system.Line.{Line}
use Rattle.uu_times.specs.System.{System}
use Rattle.uu_core.specs.State.{same_text}
use Rattle.uu_core.specs.declared.job.JobHead.{JobHead}
use Rattle.uu_tables.specs.declared.rows.SystemColumns.{SystemColumns}
use Rattle.uu_tables.specs.declared.rows.Body.{Body}
use Rattle.uu_tables.specs.declared.earlier.Piece.{Piece}
use Rattle.uu_tables.specs.declared.earlier.BareSystem.{BareSystem}
use Rattle.uu_tables.specs.declared.earlier.LineColumns.{LineColumns}
use Rattle.uu_tables.specs.declared.earlier.RangeColumns.{RangeColumns}
use Rattle.uu_tables.specs.declared.earlier.WaitColumns.{WaitColumns}

-- ---- which rows belong to which

abbrev pub is_line_of : BareSystem → LineColumns → Bool
is_line_of system line = same_text line.system system.name

abbrev pub is_range_of : BareSystem → RangeColumns → Bool
is_range_of system range = same_text range.system system.name

abbrev pub is_wait_of : BareSystem → WaitColumns → Bool
is_wait_of system wait = same_text wait.system system.name

abbrev pub is_range_of_line : LineColumns → RangeColumns → Bool
is_range_of_line line range = same_text range.system line.system && (range.place == line.place)

-- what belongs to it at the beginning, and the rest
abbrev pub own_rows : {P C : Type 0} → (P → C → Bool) → P → List C → List C
own_rows owns owner children = take (prefix_len (owns owner) children) children

abbrev pub rows_behind : {P C : Type 0} → (P → C → Bool) → P → List C → List C
rows_behind owns owner children = drop (prefix_len (owns owner) children) children

-- ---- systems

abbrev pub range_of : RangeColumns → ℕ × ℕ
range_of r = (r.low, r.high)

abbrev pub line_from : LineColumns → List RangeColumns → Line
line_from line ranges = record { grade = line.grade; windows = map range_of ranges; retry = line.retry }

abbrev pub lines_from : List LineColumns → List RangeColumns → List Line
lines_from [] ranges = []
lines_from (line ∷ lines) ranges = line_from line (own_rows is_range_of_line line ranges) ∷ lines_from lines (rows_behind is_range_of_line line ranges)

-- the seconds of the first row, or 0 if there is none
abbrev pub wait_from : List WaitColumns → ℕ
wait_from [] = 0
wait_from (wait ∷ waits) = wait.wait

abbrev pub definition_from : BareSystem → List LineColumns → List RangeColumns → ℕ → System
definition_from s lines ranges wait = record { name = s.name; lines = lines_from lines ranges; max_retries = s.max_retries; success_wait = wait }

abbrev pub system_from : BareSystem → List LineColumns → List RangeColumns → ℕ → SystemColumns
system_from s lines ranges wait = record { def = definition_from s lines ranges wait; call = s.call }

-- each system, from the rows at the beginning that belong to it
abbrev pub systems_from : List BareSystem → List LineColumns → List RangeColumns → List WaitColumns → List SystemColumns
systems_from [] lines ranges waits = []
systems_from (s ∷ systems) lines ranges waits =
    system_from s (own_rows is_line_of s lines) (own_rows is_range_of s ranges) (wait_from (own_rows is_wait_of s waits))
    ∷ systems_from systems (rows_behind is_line_of s lines) (rows_behind is_range_of s ranges) (rows_behind is_wait_of s waits)

-- ---- bodies

abbrev pub owns_piece : JobHead → Piece → Bool
owns_piece job piece = piece.job == job.number

-- the bytes of pieces, one after the other
abbrev pub joined : List Piece → List ℕ
joined pieces = flat_map (λ piece. piece.bytes) pieces

-- the body of each job, from the pieces at the beginning that belong to it
abbrev pub bodies_from : List JobHead → List Piece → List Body
bodies_from [] pieces = []
bodies_from (job ∷ jobs) pieces = record { job = job.number; bytes = joined (own_rows owns_piece job pieces) } ∷ bodies_from jobs (rows_behind owns_piece job pieces)
