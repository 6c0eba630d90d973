-- What a question in SQL does.
use Rattle.std.specs.Prelude.{◌≡◌, ◌⊎◌, ℕ, List, [], Vec, Result, IfOk, IfErr, OnOk}
use Rattle.std.specs.declared.alloc.Global.{Global}
use Rattle.sqlite.specs.Order.{Row}
use Rattle.sqlite.specs.declared.error.Error.{Error}
use Rattle.sqlite.specs.declared.error.Error.TheVariants.{SqliteFailure}
use Rattle.sqlite.specs.declared.error.ErrorCode.TheVariants.{OutOfMemory}
use Rattle.sqlite.specs.Held.{Held, state}
use Rattle.sqlite.specs.State as db
use Rattle.sqlite.specs.Store.{Ghosts}
use Rattle.uu_schema.specs.Spares.{Spares}
use Rattle.uu_schema.specs.Steps.{StaysIdle, OpenIfAnswered}
use Rattle.uu_schema.specs.Schema.{spool_schema}

-- The answer to a question in SQL is the rows that its text means, and nothing changes, for any
-- tables. An error is the database's, about this text.
pub record ShowsRows (text : List ℕ) (params : Row) (old new : db.State) (r : Result (Vec Row Global) Error) : Type 0 where
  pub told : OpenIfAnswered spool_schema old new r
  pub same : db.HasCleanDisk new → OnOk r (new.now ≡ old.now)
  pub rows : db.HasCleanDisk new → IfOk r (λ rows. db.Shown text params old new rows.items)
  pub refused : db.HasCleanDisk new → IfErr r (db.FailsToQuery text params old new)

-- The text is asked over a connection, without parameters. The answer is the rows that it means,
-- for any tables. An idle connection stays idle.
pub record AsksText {S : Type 0} (g : Ghosts S) (text : List ℕ) (old new : Held S) (r : Result (Vec Row Global) Error) : Type 0 where
  pub idle : StaysIdle old new
  pub shows : ShowsRows text [] (state g old) (state g new) r
  pub spares : Spares (state g old) (state g new) r

-- out of memory, or the database refused the question
abbrev pub IsQueryError : List ℕ → Row → db.State → db.State → Error → Type 0
IsQueryError text params old new error = (error ≡ SqliteFailure OutOfMemory) ⊎ db.FailsToQuery text params old new error
