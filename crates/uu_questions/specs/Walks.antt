-- The rows of an answer, read one at a time.
use Rattle.std.specs.Prelude.{◌≡◌, ℕ, List, [], ◌∷◌, Result, OnOk}
use Rattle.sqlite.specs.declared.error.Error.{Error}
use Rattle.sqlite.specs.Held.{Held, state}
use Rattle.sqlite.specs.Order.{Row}
use Rattle.sqlite.specs.State as db
use Rattle.sqlite.specs.Store.{Ghosts}
use Rattle.uu_schema.specs.Steps.{Stands, StaysIdle, OpenIfAnswered}
use Rattle.uu_schema.specs.Schema.{spool_schema}

-- the rows, one after the other, led from the first value to the last
abbrev pub Took : {X : Type 0} → (X → Row → X → Type 0) → X → List Row → X → Type 0
Took takes before [] after = before ≡ after
Took {X} takes before (row ∷ rows) after = (mid : X) × takes before row mid × Took takes mid rows after

-- A walk commits nothing and changes nothing, with any answer. The rows that it took are those that
-- the text means.
pub record Walks {X T : Type 0} (takes : X → Row → X → Type 0) (text : List ℕ) (params : Row) (old new : db.State) (before after : X) (r : Result T Error) : Type 0 where
  pub told : OpenIfAnswered spool_schema old new r
  pub same : db.HasCleanDisk new → Stands spool_schema old.now → OnOk r (new.now ≡ old.now)
  pub rows : db.HasCleanDisk new → Stands spool_schema old.now → OnOk r ((rows : List Row) × db.Shown text params old new rows × Took takes before rows after)

-- The text is asked over a connection, and its rows are read one at a time; an idle connection
-- stays idle.
pub record AsksAndWalks {S X T : Type 0} (g : Ghosts S) (takes : X → Row → X → Type 0) (text : List ℕ) (params : Row) (old new : Held S) (before after : X) (r : Result T Error) : Type 0 where
  pub idle : StaysIdle old new
  pub walks : Walks takes text params (state g old) (state g new) before after r
