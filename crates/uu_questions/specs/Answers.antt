-- What a question of the spool does.
use Rattle.std.specs.Prelude.{◌≡◌, Result, IfOk, OnOk}
use Rattle.sqlite.specs.declared.error.Error.{Error}
use Rattle.sqlite.specs.Effect.{Database}
use Rattle.sqlite.specs.Held.{Held, state}
use Rattle.sqlite.specs.State as db
use Rattle.sqlite.specs.Store.{Ghosts}
use Rattle.uu_schema.specs.Steps.{Stands, StaysIdle, OpenIfAnswered}
use Rattle.uu_core.specs.State.{State, IsWellFormed}
use Rattle.uu_tables.specs.Tables.{tables_of}
use Rattle.uu_schema.specs.Schema.{spool_schema}
use Rattle.uu_schema.specs.Held.{Holds}

-- the database has the spool's tables, and they are those of a state that a spool reaches
pub record IsAt (s : State) (database : Database) : Type 0 where
  pub stands : Stands spool_schema database
  pub good : IsWellFormed s
  pub holds : Holds database.trees (tables_of s)

abbrev pub IsStateOf : State → db.State → Type 0
IsStateOf s shown = IsAt s shown.now

-- A question commits nothing. While the connection is open, it changes nothing, with any answer.
-- What it answers about the tables of a state is exact.
pub record Answers {T : Type 0} (IsAnswer : State → T → Type 0) (old new : db.State) (r : Result T Error) : Type 0 where
  pub told : OpenIfAnswered spool_schema old new r
  pub same : db.HasCleanDisk new → Stands spool_schema old.now → OnOk r (new.now ≡ old.now)
  pub exact : db.HasCleanDisk new → (s : State) → IsStateOf s old → IfOk r (IsAnswer s)

-- The question is asked over a connection, with this answer; an idle connection stays idle.
pub record Asks {S T : Type 0} (g : Ghosts S) (IsAnswer : State → T → Type 0) (old new : Held S) (r : Result T Error) : Type 0 where
  pub idle : StaysIdle old new
  pub answers : Answers IsAnswer (state g old) (state g new) r
