-- What a call does inside a transaction, what a whole transaction does, and what a stop leaves of
-- it.
use Rattle.std.specs.Prelude.{◌≡◌, ◌≤◌, true, false, IsTrue, OnOk, Result, Ok, Err}
use Rattle.sqlite.specs.Store.{Ghosts}
use Rattle.sqlite.specs.Schema.{Schema}
use Rattle.sqlite.specs.Tree.{Trees}
use Rattle.sqlite.specs.Effect.{Database}
use Rattle.sqlite.specs.Held.{Held, state}
use Rattle.sqlite.specs.State.{State, HasCleanDisk, Survives, IsUnchanged, KeepsCommit}
use Rattle.sqlite.specs.View.{doubt}
use Rattle.sqlite_catalog.specs.Listing.{IsSound}

-- ---- connections

-- no transaction is open on the connection
abbrev pub IsIdle : {S : Type 0} → Held S → Type 0
IsIdle conn = conn.in_transaction ≡ false

-- if no transaction was open on a connection, none is
abbrev pub StaysIdle : {S : Type 0} → Held S → Held S → Type 0
StaysIdle old new = IsIdle old → IsIdle new

-- a stop leaves only what it could leave before
abbrev pub CommitsNothing : {S : Type 0} → Ghosts S → Held S → Held S → Type 0
CommitsNothing g old new = Survives (state g old) (state g new) (λ _. ⊥)

-- if `Found` holds, the connection was open and nothing changed
abbrev pub UnchangedIf : {S : Type 0} → Ghosts S → Type 0 → Held S → Held S → Type 0
UnchangedIf g Found old new = HasCleanDisk (state g new) → Found → IsTrue (state g old).is_open × IsUnchanged (state g old) (state g new)

-- ---- steps inside a transaction

-- the database has this schema, and its trees list it and obey it
pub record Stands (expected : Schema) (db : Database) : Type 0 where
  pub schema : db.schema ≡ expected
  pub sound : IsSound expected db.trees

-- the transaction goes on, and its trees took this step
pub record Went (to : Schema) (Step : Trees → Trees → Type 0) (old new : State) : Type 0 where
  pub inside : new.in_transaction ≡ true
  pub committed : new.committed ≡ old.committed
  pub stands : Stands to new.now
  pub step : Step old.now.trees new.now.trees

-- one step and then another
pub record Both (First Second : Trees → Trees → Type 0) (old new : Trees) : Type 0 where
  pub mid : Trees
  pub first : First old mid
  pub second : Second mid new

-- A call inside a transaction. On a database of the first schema it took the step to the second, or
-- it failed. On any database, it committed nothing.
pub record Outcome {T E : Type 0} (from to : Schema) (Step : Trees → Trees → Type 0) (old new : State) (r : Result T E) : Type 0 where
  pub went : HasCleanDisk new → IsTrue old.in_transaction → Stands from old.now → OnOk r (Went to Step old new)
  pub kept : HasCleanDisk new → KeepsCommit old new
  pub survives : Survives old new (λ _. ⊥)

-- no transaction is open, the connection answers, and what it shows is what was committed
pub record Rests (s : State) : Type 0 where
  pub is_open : IsTrue s.is_open
  pub idle : s.in_transaction ≡ false
  pub settled : s.now ≡ s.committed

-- the step is committed, and a stop leaves only that
pub record Did (to : Schema) (Step : Trees → Trees → Type 0) (old new : State) : Type 0 where
  pub rests : Rests new
  pub stands : Stands to new.now
  pub step : Step old.now.trees new.now.trees
  pub left : (db : Trees) → new.may_leave db → db ≡ new.now.trees

-- nothing is committed: while the connection is open it shows what was committed before, and a stop
-- leaves only that
pub record Undid (old new : State) : Type 0 where
  pub undone : IsTrue new.is_open → (new.now ≡ old.committed) × (new.committed ≡ old.committed)
  pub left : IsTrue new.is_open → (db : Trees) → new.may_leave db → db ≡ old.committed.trees

abbrev pub Ends : {T E : Type 0} → Schema → (Trees → Trees → Type 0) → State → State → Result T E → Type 0
Ends to Step old new (Ok x) = Did to Step old new
Ends to Step old new (Err e) = Undid old new

-- a whole transaction: how it ends, and what a stop at its end may leave besides what it could
-- leave before
pub record Whole {T E : Type 0} (from to : Schema) (Step : Trees → Trees → Type 0) (old new : State) (r : Result T E) : Type 0 where
  pub ends : HasCleanDisk new → Stands from old.now → Ends to Step old new r
  pub survives : Survives old new (λ db. Stands from old.now → Step old.now.trees db × IsSound to db)
  pub idle : new.in_transaction ≡ false

-- a connection at rest on a database of this schema
pub record Ready (expected : Schema) (s : State) : Type 0 where
  pub rests : Rests s
  pub stands : Stands expected s.now

-- a question: it commits nothing, and while the connection answers it shows what it showed
pub record Asked (expected : Schema) (old new : State) : Type 0 where
  pub same : HasCleanDisk new → Ready expected old → IsTrue new.is_open → Ready expected new × (new.now ≡ old.now)
  pub survives : Survives old new (λ _. ¬ Ready expected old)

-- a question that was answered leaves the connection open
pub record OpenIfAnswered {T E : Type 0} (expected : Schema) (old new : State) (r : Result T E) : Type 0 where
  pub asked : Asked expected old new
  pub is_open : HasCleanDisk new → Ready expected old → OnOk r (IsTrue new.is_open)

-- a store that was found unclean stays so
abbrev pub StaysUnclean : State → State → Type 0
StaysUnclean old new = doubt old.is_clean ≤ doubt new.is_clean
