-- Which tables are those of a state.
use Rattle.std.specs.Prelude.{◌≡◌, map}
use Rattle.uu_core.specs.State.{State, IsWellFormed}
use Rattle.uu_tables.specs.Tables.{Tables, tables_of, size_of}
use Rattle.uu_tables.specs.Earlier.{EarlierTables, earlier_tables_of}
use Rattle.uu_check.specs.declared.earlier.EarlierRows.{EarlierRows}
use Rattle.uu_check.specs.declared.spool.Rows.{Rows}

-- the tables are those of a state
pub record AreTables (t : Tables) : Type 0 where
  pub state : State
  pub good : IsWellFormed state
  pub same : tables_of state ≡ t

-- the rows are those of the tables, bodies by the number of their bytes
pub record AreRowsOf (rows : Rows) (t : Tables) : Type 0 where
  pub next : rows.next ≡ t.next
  pub systems : rows.systems.now ≡ t.systems
  pub jobs : rows.jobs.now ≡ t.jobs
  pub bodies : rows.bodies.now ≡ map size_of t.bodies
  pub entries : rows.entries.now ≡ t.entries
  pub links : rows.links.now ≡ t.links
  pub taken : rows.taken.now ≡ t.taken

-- the same of earlier versions, pieces with their bytes
pub record AreEarlierTables (t : EarlierTables) : Type 0 where
  pub state : State
  pub good : IsWellFormed state
  pub same : earlier_tables_of state ≡ t

pub record AreEarlierRowsOf (rows : EarlierRows) (t : EarlierTables) : Type 0 where
  pub next : rows.next ≡ t.next
  pub systems : rows.systems.now ≡ t.systems
  pub lines : rows.lines.now ≡ t.lines
  pub ranges : rows.ranges.now ≡ t.ranges
  pub jobs : rows.jobs.now ≡ t.jobs
  pub pieces : rows.pieces.now ≡ t.pieces
  pub entries : rows.entries.now ≡ t.entries
  pub success_waits : rows.success_waits.now ≡ t.success_waits
  pub links : rows.links.now ≡ t.links
  pub taken : rows.taken.now ≡ t.taken
