-- Rows within the limits of a spool, which fit the types in which they are read.
use Rattle.std.specs.Prelude.{◌≡◌, ◌<◌, ◌≤◌, length, IsTrue, IfSome, true}
use Rattle.std.specs.List.{AllByRecursion}
use Rattle.uu_names.specs.Grade.{grade_count}
use Rattle.uu_names.specs.Name.{is_site_name, is_word}
use Rattle.uu_times.specs.Ranges.{week_minutes}
use Rattle.uu_times.specs.System.{IsRetry, most_lines, most_retries, most_success_wait}
use Rattle.uu_map.specs.Text.{most_entry}
use Rattle.uu_core.specs.declared.job.JobHead.{JobHead}
use Rattle.uu_core.specs.Marks.{marks_end}
use Rattle.uu_core.specs.State.{IsDefinition, most_bytes, last_second, most_failures, most_wait, numbers_end}
use Rattle.uu_tables.specs.declared.earlier.BareSystem.{BareSystem}
use Rattle.uu_tables.specs.declared.rows.SystemColumns.{SystemColumns}
use Rattle.uu_tables.specs.declared.rows.Body.{Body}
use Rattle.uu_tables.specs.Tables.{Tables}
use Rattle.uu_tables.specs.declared.earlier.LineColumns.{LineColumns}
use Rattle.uu_tables.specs.declared.earlier.RangeColumns.{RangeColumns}
use Rattle.uu_tables.specs.declared.rows.EntryColumns.{EntryColumns}
use Rattle.uu_tables.specs.declared.earlier.WaitColumns.{WaitColumns}
use Rattle.uu_tables.specs.declared.rows.LinkColumns.{LinkColumns}
use Rattle.uu_tables.specs.declared.rows.TakenColumns.{TakenColumns}
use Rattle.uu_tables.specs.declared.earlier.Piece.{Piece}
use Rattle.uu_tables.specs.Earlier.{EarlierTables, piece_bytes, most_pieces}
use Rattle.uu_check.specs.Tests.{is_head}

pub record IsBareRow (c : BareSystem) : Type 0 where
  pub name : IsTrue (is_site_name c.name)
  pub max_retries : c.max_retries ≤ most_retries
  pub last : c.call.last ≤ last_second
  pub failures : c.call.failures ≤ most_failures
  pub wait : c.call.wait ≤ most_wait
  pub outcome : c.call.outcome ≤ 2
  pub why : IfSome c.call.why (λ why. IsTrue (is_word why))

pub record IsLineRow (l : LineColumns) : Type 0 where
  pub system : IsTrue (is_site_name l.system)
  pub place : l.place < most_lines
  pub grade : l.grade < grade_count
  pub retry : IfSome l.retry IsRetry

pub record IsRangeRow (r : RangeColumns) : Type 0 where
  pub system : IsTrue (is_site_name r.system)
  pub place : r.place < most_lines
  pub low : r.low < week_minutes
  pub high : r.high < week_minutes

pub record IsJobRow (h : JobHead) : Type 0 where
  pub number : h.number < numbers_end
  pub good : is_head h ≡ true

pub record IsPieceRow (p : Piece) : Type 0 where
  pub job : p.job < numbers_end
  pub place : p.place < most_pieces
  pub length : length p.bytes ≤ piece_bytes

pub record IsEntryRow (e : EntryColumns) : Type 0 where
  pub host : IsTrue (is_site_name e.host)
  pub size : length e.bytes ≤ most_entry

pub record IsWaitRow (w : WaitColumns) : Type 0 where
  pub system : IsTrue (is_site_name w.system)
  pub wait : w.wait ≤ most_success_wait

pub record IsLinkRow (l : LinkColumns) : Type 0 where
  pub system : IsTrue (is_site_name l.system)
  pub below : l.below ≤ numbers_end

pub record IsTakenRow (t : TakenColumns) : Type 0 where
  pub system : IsTrue (is_site_name t.system)
  pub number : t.taken.number ≤ numbers_end
  pub mark : t.taken.mark < marks_end
  pub some_job : 1 ≤ t.taken.job
  pub job : t.taken.job < numbers_end

-- rows of earlier versions
pub record AreEarlierReadable (t : EarlierTables) : Type 0 where
  pub next : t.next ≤ numbers_end
  pub systems : AllByRecursion IsBareRow t.systems
  pub lines : AllByRecursion IsLineRow t.lines
  pub ranges : AllByRecursion IsRangeRow t.ranges
  pub jobs : AllByRecursion IsJobRow t.jobs
  pub pieces : AllByRecursion IsPieceRow t.pieces
  pub entries : AllByRecursion IsEntryRow t.entries
  pub success_waits : AllByRecursion IsWaitRow t.success_waits
  pub links : AllByRecursion IsLinkRow t.links
  pub taken : AllByRecursion IsTakenRow t.taken

-- rows of this version
pub record IsSystemRow (c : SystemColumns) : Type 0 where
  pub def : IsDefinition c.def
  pub last : c.call.last ≤ last_second
  pub failures : c.call.failures ≤ most_failures
  pub wait : c.call.wait ≤ most_wait
  pub outcome : c.call.outcome ≤ 2
  pub why : IfSome c.call.why (λ why. IsTrue (is_word why))

pub record IsBodyRow (b : Body) : Type 0 where
  pub job : b.job < numbers_end
  pub length : length b.bytes ≤ most_bytes

pub record AreReadable (t : Tables) : Type 0 where
  pub next : t.next ≤ numbers_end
  pub systems : AllByRecursion IsSystemRow t.systems
  pub jobs : AllByRecursion IsJobRow t.jobs
  pub bodies : AllByRecursion IsBodyRow t.bodies
  pub entries : AllByRecursion IsEntryRow t.entries
  pub links : AllByRecursion IsLinkRow t.links
  pub taken : AllByRecursion IsTakenRow t.taken
