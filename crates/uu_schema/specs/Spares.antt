-- What a question leaves of a database with any tables.
use Rattle.std.specs.Prelude.{◌≡◌, IsTrue, OnOk, Result}
use Rattle.sqlite.specs.State.{State, HasCleanDisk, Survives}
use Rattle.uu_schema.specs.Steps.{Rests}

-- The question commits nothing. While the connection answers, it shows what it showed. If the
-- question was answered, it still answers.
pub record Spares {T E : Type 0} (old new : State) (r : Result T E) : Type 0 where
  pub same : HasCleanDisk new → Rests old → IsTrue new.is_open → Rests new × (new.now ≡ old.now)
  pub is_open : HasCleanDisk new → Rests old → OnOk r (IsTrue new.is_open)
  pub survives : Survives old new (λ _. ⊥)
