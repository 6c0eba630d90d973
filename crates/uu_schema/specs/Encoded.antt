-- What a database encodes, and what a stop may leave of it. (The tables are this project's choice.)
use Rattle.std.specs.Prelude.{◌⊎◌}
use Rattle.sqlite.specs.Tree.{Trees}
use Rattle.sqlite.specs.Effect.{Database}
use Rattle.sqlite.specs.State as db
use Rattle.sqlite_catalog.specs.Listing.{IsSound}
use Rattle.uu_schema.specs.Steps.{Stands}
use Rattle.uu_core.specs.State.{State, IsWellFormed}
use Rattle.uu_tables.specs.Tables.{tables_of}
use Rattle.uu_tables.specs.Earlier.{earlier_tables_of}
use Rattle.uu_schema.specs.declared.version.Version.{Version}
use Rattle.uu_schema.specs.declared.version.Version.TheVariants.{First, Second, Third, Fourth}
use Rattle.uu_schema.specs.Schema.{spool_schema}
use Rattle.uu_schema.specs.Earlier.{schema_of}
use Rattle.uu_schema.specs.Held.{Holds}
use Rattle.uu_schema.specs.HeldEarlier.{HoldsEarlier}

-- the rows of a version's tables are those of the state, in any order
abbrev pub HoldsRowsAs : Version → Trees → State → Type 0
HoldsRowsAs First trees s = HoldsEarlier First trees (earlier_tables_of s)
HoldsRowsAs Second trees s = HoldsEarlier Second trees (earlier_tables_of s)
HoldsRowsAs Third trees s = HoldsEarlier Third trees (earlier_tables_of s)
HoldsRowsAs Fourth trees s = Holds trees (tables_of s)

-- the same, of a state that a spool reaches
pub record HoldsStateAs (v : Version) (trees : Trees) (s : State) : Type 0 where
  pub tables : HoldsRowsAs v trees s
  pub good : IsWellFormed s

-- the same of the version that is written
abbrev pub HoldsState : Trees → State → Type 0
HoldsState = HoldsStateAs Fourth

-- the database has the tables of a version, and their rows are those of the state
pub record EncodesAs (v : Version) (database : Database) (s : State) : Type 0 where
  pub stands : Stands (schema_of v) database
  pub holds : HoldsStateAs v database.trees s

-- the same of the version that is written
abbrev pub Encodes : Database → State → Type 0
Encodes = EncodesAs Fourth

-- each state that the tables of a version had, the tables of the written version have
abbrev pub HoldsAgain : Version → Trees → Trees → Type 0
HoldsAgain v old new = (s : State) → HoldsStateAs v old s → HoldsState new s

-- a version had a state, and the written version has the same
pub record Migrated (v : Version) (old new : Trees) : Type 0 where
  pub state : State
  pub held : HoldsStateAs v old state
  pub again : HoldsAgain v old new

-- a stop leaves only what encodes the state
abbrev pub Leaves : db.State → State → Type 0
Leaves now s = (trees : Trees) → now.may_leave trees → IsSound spool_schema trees × HoldsState trees s

-- a stop leaves only what encodes one of the two states
abbrev pub LeavesEither : db.State → State → State → Type 0
LeavesEither now s t = (trees : Trees) → now.may_leave trees → IsSound spool_schema trees × (HoldsState trees s ⊎ HoldsState trees t)
