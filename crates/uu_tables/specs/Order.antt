-- The orders of the tables' keys: names and hosts in order of their bytes, numbers in order of
-- their size. (SQLite: ORDER BY over BINARY texts and integers.)
use Rattle.std.specs.declared.cmp.Ordering.{Ordering}
use Rattle.std.specs.Ordering.{nat_cmp, ordering_then}
use Rattle.std.specs.Cmp.Lexicographic.{slice_cmp}
use Rattle.uu_core.specs.declared.job.JobHead.{JobHead}
use Rattle.uu_tables.specs.declared.rows.SystemColumns.{SystemColumns}
use Rattle.uu_tables.specs.declared.earlier.LineColumns.{LineColumns}
use Rattle.uu_tables.specs.declared.earlier.RangeColumns.{RangeColumns}
use Rattle.uu_tables.specs.declared.earlier.WaitColumns.{WaitColumns}
use Rattle.uu_tables.specs.declared.rows.LinkColumns.{LinkColumns}
use Rattle.uu_tables.specs.declared.rows.TakenColumns.{TakenColumns}
use Rattle.uu_tables.specs.declared.earlier.Piece.{Piece}
use Rattle.uu_tables.specs.declared.earlier.BareSystem.{BareSystem}
use Rattle.uu_tables.specs.declared.rows.Body.{Body}
use Rattle.uu_tables.specs.declared.rows.BodySize.{BodySize}
use Rattle.uu_tables.specs.declared.rows.EntryColumns.{EntryColumns}

-- by name
abbrev pub system_cmp : SystemColumns → SystemColumns → Ordering
system_cmp a b = slice_cmp nat_cmp a.def.name b.def.name

-- by system
abbrev pub link_cmp : LinkColumns → LinkColumns → Ordering
link_cmp a b = slice_cmp nat_cmp a.system b.system

-- by system, then by the number there
abbrev pub taken_cmp : TakenColumns → TakenColumns → Ordering
taken_cmp a b = ordering_then (slice_cmp nat_cmp a.system b.system) (nat_cmp a.taken.number b.taken.number)

-- by number
abbrev pub head_cmp : JobHead → JobHead → Ordering
head_cmp a b = nat_cmp a.number b.number

-- by job
abbrev pub body_cmp : Body → Body → Ordering
body_cmp a b = nat_cmp a.job b.job

abbrev pub size_cmp : BodySize → BodySize → Ordering
size_cmp a b = nat_cmp a.job b.job

-- by host
abbrev pub entry_cmp : EntryColumns → EntryColumns → Ordering
entry_cmp a b = slice_cmp nat_cmp a.host b.host

-- ---- in earlier versions

-- by name
abbrev pub bare_system_cmp : BareSystem → BareSystem → Ordering
bare_system_cmp a b = slice_cmp nat_cmp a.name b.name

-- by system, then by place
abbrev pub line_cmp : LineColumns → LineColumns → Ordering
line_cmp a b = ordering_then (slice_cmp nat_cmp a.system b.system) (nat_cmp a.place b.place)

-- by system, place, and first minute
abbrev pub range_cmp : RangeColumns → RangeColumns → Ordering
range_cmp a b = ordering_then (slice_cmp nat_cmp a.system b.system) (ordering_then (nat_cmp a.place b.place) (nat_cmp a.low b.low))

-- by system
abbrev pub wait_cmp : WaitColumns → WaitColumns → Ordering
wait_cmp a b = slice_cmp nat_cmp a.system b.system

-- by job, then by place
abbrev pub piece_cmp : Piece → Piece → Ordering
piece_cmp a b = ordering_then (nat_cmp a.job b.job) (nat_cmp a.place b.place)
