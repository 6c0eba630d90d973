-- What becomes of an acknowledged job.
use Rattle.std.specs.Prelude.{◌≡◌, ◌⊎◌, ℕ, true, List, Some, Contains, zip}
use Rattle.sqlite.specs.State as db
use Rattle.sqlite.specs.Store.{Ghosts}
use Rattle.uu_schema.specs.Steps.{Rests}
use Rattle.uu_core.specs.declared.command.Command.{Command}
use Rattle.uu_core.specs.declared.command.Command.TheVariants.{Queue, QueueOnce}
use Rattle.uu_core.specs.declared.command.Reply.TheVariants.{Number}
use Rattle.uu_core.specs.declared.custody.Key.{Key}
use Rattle.uu_core.specs.declared.job.NewJob.{NewJob}
use Rattle.uu_core.specs.State.{State, Job, job_at}
use Rattle.uu_core.specs.After.{job_of}
use Rattle.uu_core.specs.Run.{state_after}
use Rattle.uu_core.specs.Laws.{accepted_of, lets_go, IsSameJob, IsAmong, IsKept, IsFirstUnder}
use Rattle.uu_store.specs.declared.spool.Spool.{Spool}
use Rattle.uu_store.specs.Kept.{Stores}
use Rattle.uu_store.specs.Spool.{Shows}
use Rattle.uu_store.specs.Exchanges.{Exchange, Passes}

-- the job was handed in, and this number was the reply
abbrev pub IsAcknowledged : List Exchange → NewJob → ℕ → Type 0
IsAcknowledged exchanges new number = (it : Exchange) × Contains exchanges it × Contains (zip it.commands it.replies) (Queue new, Number number)

-- the job is there under its number, with all its bytes, perhaps with another grade or time of
-- queueing
abbrev pub IsThere : State → NewJob → ℕ → Type 0
IsThere state new number = (job : Job) × (job_at state number ≡ Some job) × IsSameJob (job_of number new) job

-- an accepted command removed it: it was killed, or a call delivered it, or its system had it
abbrev pub WasLetGo : State → List Command → Job → Type 0
WasLetGo s counted job = (command : Command) × Contains (accepted_of s counted) command × (lets_go command job ≡ true)

-- after these commands it is there unless it was removed, and no other job has its number
pub record IsAccountedFor (s : State) (counted : List Command) (new : NewJob) (number : ℕ) : Type 0 where
  pub kept : IsThere (state_after s counted) new number ⊎ WasLetGo s counted (job_of number new)
  pub alone : (job : Job) → Contains (state_after s counted).jobs job → job.number ≡ number → IsSameJob (job_of number new) job

-- what was found stores the state after the commands that count, and these account for the job
abbrev pub StoresJob : State → List Exchange → NewJob → ℕ → db.State → Type 0
StoresJob s told new number found = (counted : List Command) × Passes s told counted × Rests found × Stores found.now (state_after s counted) × IsAccountedFor s counted new number

-- the spool shows the state after the commands that count, and these account for the job
abbrev pub ShowsJob : {S : Type 0} {g : Ghosts S} → State → List Exchange → NewJob → ℕ → Spool S g → Type 0
ShowsJob s told new number spool = (counted : List Command) × Passes s told counted × Shows spool (state_after s counted) × IsAccountedFor s counted new number

-- ---- under a key

-- a job was handed in under the key, and this number was the reply
abbrev pub IsAcknowledgedUnder : List Exchange → Key → NewJob → ℕ → Type 0
IsAcknowledgedUnder exchanges key new number = (it : Exchange) × Contains exchanges it × Contains (zip it.commands it.replies) (QueueOnce key new, Number number)

-- The key was kept with the number before the first of the commands. If a job was there under this
-- number, it is there, or an accepted command removed it.
pub record WasKept (s : State) (counted : List Command) (key : Key) (number : ℕ) : Type 0 where
  pub kept : IsKept s key number
  pub job : (job : Job) → Contains s.jobs job → job.number ≡ number → IsAmong (state_after s counted).jobs job ⊎ WasLetGo s counted job

-- The job of the number is the one that was handed in first under the key, with the same mark, even
-- if a later attempt got the number. The commands that count account for it. One of them handed it
-- in, unless the key was kept before them.
abbrev pub IsAccountedForUnder : State → List Command → Key → ℕ → Type 0
IsAccountedForUnder s counted key number =
    WasKept s counted key number ⊎ ((first : NewJob) × IsFirstUnder s counted key first number × IsAccountedFor s counted first number)

-- what was found stores the state after the commands that count, and these account for the job
-- under the key
abbrev pub StoresUnder : State → List Exchange → Key → ℕ → db.State → Type 0
StoresUnder s told key number found = (counted : List Command) × Passes s told counted × Rests found × Stores found.now (state_after s counted) × IsAccountedForUnder s counted key number

-- the spool shows the state after the commands that count, and these account for the job under the
-- key
abbrev pub ShowsUnder : {S : Type 0} {g : Ghosts S} → State → List Exchange → Key → ℕ → Spool S g → Type 0
ShowsUnder s told key number spool = (counted : List Command) × Passes s told counted × Shows spool (state_after s counted) × IsAccountedForUnder s counted key number
