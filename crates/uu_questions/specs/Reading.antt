-- Questions in SQL, with what is read from the rows of their answers.
use Rattle.std.specs.Prelude.{◌≡◌, ℕ, nat_eq, Bool, not, List, length, map, Option, option_map, slice_get, Vec, Result, IfOk, IfSome, OnOk}
use Rattle.std.specs.List.{AllByRecursion}
use Rattle.std.specs.declared.alloc.Global.{Global}
use Rattle.sqlite.specs.declared.error.Error.{Error}
use Rattle.sqlite.specs.Held.{Held, state}
use Rattle.sqlite.specs.Order.{Row}
use Rattle.sqlite.specs.State as db
use Rattle.sqlite.specs.Store.{Ghosts}
use Rattle.uu_schema.specs.Steps.{Stands, StaysIdle, OpenIfAnswered}
use Rattle.uu_schema.specs.Schema.{spool_schema}

-- A question commits nothing and changes nothing, with any answer. What is read is read from the
-- rows that its text means.
pub record Reads {T : Type 0} (IsRead : List Row → T → Type 0) (text : List ℕ) (params : Row) (old new : db.State) (r : Result T Error) : Type 0 where
  pub told : OpenIfAnswered spool_schema old new r
  pub same : db.HasCleanDisk new → Stands spool_schema old.now → OnOk r (new.now ≡ old.now)
  pub rows : db.HasCleanDisk new → IfOk r (λ read. (rows : List Row) × db.Shown text params old new rows × IsRead rows read)

-- The text is asked over a connection, and this is read from its rows; an idle connection stays
-- idle.
pub record AsksAndReads {S T : Type 0} (g : Ghosts S) (IsRead : List Row → T → Type 0) (text : List ℕ) (params : Row) (old new : Held S) (r : Result T Error) : Type 0 where
  pub idle : StaysIdle old new
  pub reads : Reads IsRead text params (state g old) (state g new) r

-- all of the rows, as typed rows whose values are within the limits of their types
abbrev pub AreTyped : {T : Type 0} → (T → Row) → (T → Type 0) → List Row → Vec T Global → Type 0
AreTyped cells IsReadable rows typed = (rows ≡ map cells typed.items) × AllByRecursion IsReadable typed.items

-- the first of them, if there is one
abbrev pub IsFirst : {T : Type 0} → (T → Row) → (T → Type 0) → List Row → Option T → Type 0
IsFirst cells IsReadable rows first = (option_map cells first ≡ slice_get rows 0) × IfSome first IsReadable

-- whether there is one
abbrev pub IsAnyRow : List Row → Bool → Type 0
IsAnyRow rows there = there ≡ not (nat_eq (length rows) 0)
