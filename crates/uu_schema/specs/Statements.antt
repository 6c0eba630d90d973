-- What a statement does to its transaction, and what a transaction does to a connection.
use Rattle.std.specs.Prelude.{◌≡◌, Result, Err}
use Rattle.sqlite.specs.Schema.{Schema}
use Rattle.sqlite.specs.Tree.{Trees}
use Rattle.sqlite.specs.Store.{Ghosts}
use Rattle.sqlite.specs.Held.{Held, state}
use Rattle.sqlite.specs.State.{HasCleanDisk}
use Rattle.sqlite.specs.declared.error.Error.{Error}
use Rattle.sqlite.specs.declared.transaction.Transaction.{Transaction}
use Rattle.uu_schema.specs.Steps.{IsIdle, CommitsNothing, Outcome, Whole, Undid}
use Rattle.uu_schema.specs.Schema.{spool_schema}
use Rattle.uu_schema.specs.declared.fault.Halt.{Halt}
use Rattle.uu_schema.specs.declared.fault.Halt.TheVariants.{Before}

-- the transaction, still that of its connection, took this step from one schema to another, or the
-- statement failed
pub record TakesStep {S T E : Type 0} (g : Ghosts S) (from to : Schema) (Step : Trees → Trees → Type 0) (old new : Transaction S) (r : Result T E) : Type 0 where
  pub same_reference : new.conn.ghost_name ≡ old.conn.ghost_name
  pub outcome : Outcome from to Step (state g old.conn.now) (state g new.conn.now) r

-- the same if the tables are those of the spool, and stay
abbrev pub Writes : {S T E : Type 0} → Ghosts S → (Trees → Trees → Type 0) → Transaction S → Transaction S → Result T E → Type 0
Writes g = TakesStep g spool_schema spool_schema

-- One transaction, whole or not at all, on any database. If it stopped before its commit, nothing
-- of it can be kept, and the connection shows again what was committed before. This isn't said of a
-- failed commit.
pub record Transacts {S T : Type 0} (g : Ghosts S) (from to : Schema) (Step : Trees → Trees → Type 0) (old new : Held S) (r : Result T Halt) : Type 0 where
  pub idle : IsIdle new
  pub whole : Whole from to Step (state g old) (state g new) r
  pub before : (error : Error) → r ≡ Err (Before error) → CommitsNothing g old new
  pub undone : (error : Error) → r ≡ Err (Before error) → HasCleanDisk (state g new) → Undid (state g old) (state g new)
