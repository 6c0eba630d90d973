-- What a database holds.
use Rattle.std.specs.Prelude.{◌≡◌, ℕ, List, [], ◌∷◌}
use Rattle.sqlite.specs.Order.{Row}
use Rattle.sqlite.specs.Tree.{Trees}
use Rattle.uu_core.specs.declared.job.JobHead.{JobHead}
use Rattle.uu_tables.specs.declared.rows.SystemColumns.{SystemColumns}
use Rattle.uu_tables.specs.declared.rows.Body.{Body}
use Rattle.uu_tables.specs.declared.rows.EntryColumns.{EntryColumns}
use Rattle.uu_tables.specs.declared.rows.LinkColumns.{LinkColumns}
use Rattle.uu_tables.specs.declared.rows.TakenColumns.{TakenColumns}
use Rattle.uu_core.specs.State.{empty}
use Rattle.uu_tables.specs.Tables.{Tables, tables_of}
use Rattle.uu_schema.specs.Schema.{spool, systems, jobs, bodies, entries, links, taken}
use Rattle.uu_schema.specs.Keyed.{Keyed}
use Rattle.uu_schema.specs.Made.{spool_row}
use Rattle.uu_schema.specs.Cells.{system_cells, job_cells, body_cells, entry_cells, link_cells, taken_cells}

-- ---- the key of each table, and where in a row its columns are

abbrev pub system_key : SystemColumns → List ℕ
system_key s = s.def.name

abbrev pub job_key : JobHead → ℕ
job_key j = j.number

abbrev pub body_key : Body → ℕ
body_key b = b.job

abbrev pub entry_key : EntryColumns → List ℕ
entry_key e = e.host

abbrev pub link_key : LinkColumns → List ℕ
link_key l = l.system

abbrev pub taken_key : TakenColumns → List ℕ × ℕ
taken_key t = (t.system, t.taken.number)

abbrev pub system_places : List ℕ
system_places = 1 ∷ 2 ∷ 3 ∷ 4 ∷ 5 ∷ 6 ∷ 7 ∷ []

-- a job's number is its rowid, also that of its bytes
abbrev pub job_places : List ℕ
job_places = 0 ∷ 2 ∷ 3 ∷ 4 ∷ 5 ∷ 6 ∷ 7 ∷ 8 ∷ 9 ∷ []

abbrev pub body_places : List ℕ
body_places = 0 ∷ 2 ∷ []

abbrev pub entry_places : List ℕ
entry_places = 1 ∷ 2 ∷ []

abbrev pub link_places : List ℕ
link_places = 1 ∷ 2 ∷ []

abbrev pub taken_places : List ℕ
taken_places = 1 ∷ 2 ∷ 3 ∷ 4 ∷ []

-- ---- tables

abbrev pub AreSystems : List SystemColumns → List Row → Type 0
AreSystems = Keyed system_key system_cells system_places

abbrev pub AreJobs : List JobHead → List Row → Type 0
AreJobs = Keyed job_key job_cells job_places

abbrev pub AreBodies : List Body → List Row → Type 0
AreBodies = Keyed body_key body_cells body_places

abbrev pub AreEntries : List EntryColumns → List Row → Type 0
AreEntries = Keyed entry_key entry_cells entry_places

abbrev pub AreLinks : List LinkColumns → List Row → Type 0
AreLinks = Keyed link_key link_cells link_places

abbrev pub AreTaken : List TakenColumns → List Row → Type 0
AreTaken = Keyed taken_key taken_cells taken_places

-- each table's rows are those of its list, in any order, and `spool` has its one row
pub record Holds (db : Trees) (t : Tables) : Type 0 where
  pub spool : db spool.tree ≡ spool_row t.next ∷ []
  pub systems : AreSystems t.systems (db systems.tree)
  pub jobs : AreJobs t.jobs (db jobs.tree)
  pub bodies : AreBodies t.bodies (db bodies.tree)
  pub entries : AreEntries t.entries (db entries.tree)
  pub links : AreLinks t.links (db links.tree)
  pub taken : AreTaken t.taken (db taken.tree)

-- the trees are those of a spool that holds nothing
abbrev pub MakesEmpty : Trees → Trees → Type 0
MakesEmpty old new = Holds new (tables_of empty)
