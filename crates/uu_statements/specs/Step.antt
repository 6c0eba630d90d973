-- What a plan does over a connection.
use Rattle.std.specs.Prelude.{◌≡◌, ◌⊎◌, ◌≤◌, IsTrue, Result, Err, IfOk, OnErr}
use Rattle.sqlite.specs.Tree.{Trees}
use Rattle.sqlite.specs.Effect.{Database}
use Rattle.sqlite.specs.State as db
use Rattle.sqlite.specs.View.{doubt}
use Rattle.sqlite_catalog.specs.Listing.{IsSound}
use Rattle.uu_schema.specs.Steps.{Stands, Rests}
use Rattle.uu_core.specs.State.{State}
use Rattle.uu_tables.specs.Tables.{tables_of}
use Rattle.uu_schema.specs.declared.fault.StoreFault.{StoreFault}
use Rattle.uu_schema.specs.declared.fault.StoreFault.TheVariants.{Memory}
use Rattle.uu_schema.specs.Schema.{spool_schema}
use Rattle.uu_schema.specs.Held.{Holds}

-- the database has the spool's tables, and they are those of the state
pub record HasTables (database : Database) (s : State) : Type 0 where
  pub stands : Stands spool_schema database
  pub holds : Holds database.trees (tables_of s)

-- Changes that lead from one state to the next are made together and this is the answer, or nothing
-- is changed. A stop at the end leaves what it could leave before, or the state after.
pub record IsWrittenStep {R E : Type 0} (s t : State) (reply : R) (old new : db.State) (r : Result R E) : Type 0 where
  pub ok : db.HasCleanDisk new → Rests old → HasTables old.now s → IfOk r (λ answer. (answer ≡ reply) × Rests new × HasTables new.now t)
  pub err : db.HasCleanDisk new → Rests old → HasTables old.now s → OnErr r (IsTrue new.is_open → Rests new × HasTables new.now s)
  pub stop : db.HasCleanDisk new → Rests old → HasTables old.now s → (trees : Trees) → new.may_leave trees → old.may_leave trees ⊎ (IsSound spool_schema trees × Holds trees (tables_of t))
  pub clean : doubt old.is_clean ≤ doubt new.is_clean

-- The same with the caller's fault: out of memory only if the connection still answers and shows
-- what it did.
pub record IsToldStep {R : Type 0} (s t : State) (reply : R) (old new : db.State) (r : Result R StoreFault) : Type 0 where
  pub ok : db.HasCleanDisk new → Rests old → HasTables old.now s → IfOk r (λ answer. (answer ≡ reply) × Rests new × HasTables new.now t)
  pub memory : db.HasCleanDisk new → Rests old → HasTables old.now s → r ≡ Err Memory → Rests new × HasTables new.now s
  pub stop : db.HasCleanDisk new → Rests old → HasTables old.now s → (trees : Trees) → new.may_leave trees → old.may_leave trees ⊎ (IsSound spool_schema trees × Holds trees (tables_of t))
  pub clean : doubt old.is_clean ≤ doubt new.is_clean
