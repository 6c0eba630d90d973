-- What a spool shows of everything before it, over any stretches of work.
use Rattle.std.specs.Prelude.{ℕ, List}
use Rattle.sqlite.specs.Store.{Ghosts}
use Rattle.sqlite.specs.Held.{Held}
use Rattle.sqlite.specs.State as db
use Rattle.uu_core.specs.declared.custody.Key.{Key}
use Rattle.uu_core.specs.declared.job.NewJob.{NewJob}
use Rattle.uu_core.specs.State.{State}
use Rattle.uu_store.specs.declared.spool.Spool.{Spool}
use Rattle.uu_store.specs.Spool.{disk}
use Rattle.uu_store.specs.Stretches.{StretchOver, Led, ShowsAfter, exchanges_over}
use Rattle.uu_store.specs.Acknowledged.{IsAcknowledged, IsAcknowledgedUnder, ShowsJob, ShowsUnder}

-- Any stretches may have led to the connection from which the spool was made. It shows the state
-- after every command that was answered. For each stretch in which the store failed, at most the
-- request in hand counts too, whole. It shows each acknowledged job, also under a key, unless an
-- accepted command removed it.
pub record Remembers {S : Type 0} {g : Ghosts S} (found : Held S) (spool : Spool S g) : Type 0 where
  pub commands : db.HasCleanDisk (disk spool) → (s : State) (before : Held S) (stretches : List (StretchOver S)) → Led g s before stretches found → ∥ ShowsAfter s (exchanges_over g stretches) spool ∥₁
  pub jobs : db.HasCleanDisk (disk spool) → (s : State) (before : Held S) (stretches : List (StretchOver S)) → Led g s before stretches found
      → (new : NewJob) (number : ℕ) → IsAcknowledged (exchanges_over g stretches) new number → ∥ ShowsJob s (exchanges_over g stretches) new number spool ∥₁
  pub keys : db.HasCleanDisk (disk spool) → (s : State) (before : Held S) (stretches : List (StretchOver S)) → Led g s before stretches found
      → (key : Key) (new : NewJob) (number : ℕ) → IsAcknowledgedUnder (exchanges_over g stretches) key new number → ∥ ShowsUnder s (exchanges_over g stretches) key number spool ∥₁
