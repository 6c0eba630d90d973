-- What a database with the tables of version 1, 2 or 3 holds.
use Rattle.std.specs.Prelude.{◌≡◌, ℕ, List, [], ◌∷◌}
use Rattle.sqlite.specs.Order.{Row}
use Rattle.sqlite.specs.Tree.{Trees}
use Rattle.uu_tables.specs.declared.earlier.BareSystem.{BareSystem}
use Rattle.uu_tables.specs.declared.earlier.LineColumns.{LineColumns}
use Rattle.uu_tables.specs.declared.earlier.RangeColumns.{RangeColumns}
use Rattle.uu_tables.specs.declared.earlier.WaitColumns.{WaitColumns}
use Rattle.uu_tables.specs.declared.earlier.Piece.{Piece}
use Rattle.uu_tables.specs.declared.rows.LinkColumns.{LinkColumns}
use Rattle.uu_tables.specs.declared.rows.TakenColumns.{TakenColumns}
use Rattle.uu_tables.specs.Earlier.{EarlierTables}
use Rattle.uu_schema.specs.Schema.{spool}
use Rattle.uu_schema.specs.Earlier.{old_systems, lines, ranges, old_jobs, pieces, old_entries, success_waits, old_links, old_taken}
use Rattle.uu_schema.specs.declared.version.Version.{Version}
use Rattle.uu_schema.specs.declared.version.Version.TheVariants.{First, Second, Third, Fourth}
use Rattle.uu_schema.specs.Keyed.{Keyed}
use Rattle.uu_schema.specs.Made.{spool_row_of}
use Rattle.uu_schema.specs.Cells.{bare_cells, line_cells, range_cells, wait_cells, piece_cells}
use Rattle.uu_schema.specs.Held.{system_places, AreJobs, AreEntries, AreLinks, AreTaken}

-- ---- the key of each table, and where in a row its columns are

abbrev pub bare_key : BareSystem → List ℕ
bare_key s = s.name

abbrev pub line_key : LineColumns → List ℕ × ℕ
line_key l = (l.system, l.place)

abbrev pub range_key : RangeColumns → List ℕ × ℕ × ℕ
range_key r = (r.system, r.place, r.low)

abbrev pub piece_key : Piece → ℕ × ℕ
piece_key p = (p.job, p.place)

abbrev pub wait_key : WaitColumns → List ℕ
wait_key w = w.system

abbrev pub line_places : List ℕ
line_places = 1 ∷ 2 ∷ 3 ∷ 4 ∷ []

abbrev pub range_places : List ℕ
range_places = 1 ∷ 2 ∷ 3 ∷ 4 ∷ []

abbrev pub piece_places : List ℕ
piece_places = 1 ∷ 2 ∷ 3 ∷ []

abbrev pub wait_places : List ℕ
wait_places = 1 ∷ 2 ∷ []

-- ---- tables

abbrev pub AreBareSystems : List BareSystem → List Row → Type 0
AreBareSystems = Keyed bare_key bare_cells system_places

abbrev pub AreLines : List LineColumns → List Row → Type 0
AreLines = Keyed line_key line_cells line_places

abbrev pub AreRanges : List RangeColumns → List Row → Type 0
AreRanges = Keyed range_key range_cells range_places

abbrev pub ArePieces : List Piece → List Row → Type 0
ArePieces = Keyed piece_key piece_cells piece_places

abbrev pub AreWaits : List WaitColumns → List Row → Type 0
AreWaits = Keyed wait_key wait_cells wait_places

-- the success waits of a version: version 1 has no table of them, so each is 0
abbrev pub AreWaitsOf : Version → List WaitColumns → Trees → Type 0
AreWaitsOf First waits db = waits ≡ []
AreWaitsOf Second waits db = AreWaits waits (db success_waits.tree)
AreWaitsOf Third waits db = AreWaits waits (db success_waits.tree)
AreWaitsOf Fourth waits db = ⊥

-- the links of a version, and what was taken by them: versions 1 and 2 have no such tables and no
-- links
abbrev pub AreLinksOf : Version → List LinkColumns → Trees → Type 0
AreLinksOf First rows db = rows ≡ []
AreLinksOf Second rows db = rows ≡ []
AreLinksOf Third rows db = AreLinks rows (db old_links.tree)
AreLinksOf Fourth rows db = ⊥

abbrev pub AreTakenOf : Version → List TakenColumns → Trees → Type 0
AreTakenOf First rows db = rows ≡ []
AreTakenOf Second rows db = rows ≡ []
AreTakenOf Third rows db = AreTaken rows (db old_taken.tree)
AreTakenOf Fourth rows db = ⊥

-- each table's rows are those of its list, in any order, and `spool` has its one row
pub record HoldsEarlier (v : Version) (db : Trees) (t : EarlierTables) : Type 0 where
  pub spool : db spool.tree ≡ spool_row_of v t.next ∷ []
  pub systems : AreBareSystems t.systems (db old_systems.tree)
  pub lines : AreLines t.lines (db lines.tree)
  pub ranges : AreRanges t.ranges (db ranges.tree)
  pub jobs : AreJobs t.jobs (db old_jobs.tree)
  pub pieces : ArePieces t.pieces (db pieces.tree)
  pub entries : AreEntries t.entries (db old_entries.tree)
  pub success_waits : AreWaitsOf v t.success_waits db
  pub links : AreLinksOf v t.links db
  pub taken : AreTakenOf v t.taken db
