-- What becomes of jobs that one spool hands on to another, by the commands that count at both.
use Rattle.std.specs.Prelude.{◌≡◌, ◌⊎◌, ◌<◌, ℕ, true, List, [], ◌∷◌, ◌++◌, map, All, AllPairs, Contains, if◌then◌else◌}
use Rattle.uu_core.specs.declared.command.Command.{Command}
use Rattle.uu_core.specs.declared.command.Command.TheVariants.{QueueOnce}
use Rattle.uu_core.specs.declared.custody.Key.{Key}
use Rattle.uu_core.specs.declared.job.NewJob.{NewJob}
use Rattle.uu_core.specs.State.{State, Job, same_text}
use Rattle.uu_core.specs.After.{after, job_of}
use Rattle.uu_core.specs.Run.{state_after}
use Rattle.uu_core.specs.Laws.{accepted_of, IsAmong, IsKept, IsFirstUnder}
use Rattle.uu_handover.specs.Custody.{parcel_of, Crossing, Handed, World, kills_in, added, start, IsReached, IsHandedFor, IsFree}
use Rattle.uu_store.specs.Acknowledged.{IsAcknowledged, IsAcknowledgedUnder, WasLetGo}
use Rattle.uu_store.specs.Exchanges.{Exchange}
use Rattle.uu_custody.specs.Events.{Event, nothing_sent, ForgetsWhatWasSaid}

-- the jobs that a receiver's command queues under the sender's name, with their numbers there
abbrev pub handed_of : Crossing → State → Command → List Handed
handed_of crossing state (QueueOnce key new) =
    if same_text key.from crossing.from then map (λ job. record { number = key.number; job = job }) (added state (after state (QueueOnce key new)).0) else []
handed_of crossing state command = []

-- all jobs that its commands queue under the sender's name, in order
abbrev pub handed_in : Crossing → State → List Command → List Handed
handed_in crossing state [] = []
handed_in crossing state (command ∷ commands) = handed_of crossing state command ++ handed_in crossing (after state command).0 commands

-- after some of the sender's commands the job waited for the receiver
pub record Waited (crossing : Crossing) (state : State) (commands : List Command) (job : Job) : Type 0 where
  pub before : List Command
  pub behind : List Command
  pub commands_are : commands ≡ before ++ behind
  pub there : Contains (state_after state before).jobs job
  pub system : job.system ≡ crossing.to

-- a job that was queued is there under its number, with all its bytes, or an accepted command
-- removed it
abbrev pub IsKeptOrGone : State → List Command → Job → Type 0
IsKeptOrGone state commands job = IsAmong (state_after state commands).jobs job ⊎ WasLetGo state commands job

-- the receiver queued a job for this one, which its program made of it, and it is there or was
-- removed
pub record HasCome (crossing : Crossing) (state : State) (commands : List Command) (job : Job) : Type 0 where
  pub handed : Handed
  pub there : Contains (handed_in crossing state commands) handed
  pub of : IsHandedFor crossing (parcel_of job) handed
  pub kept : IsKeptOrGone state commands handed.job

-- a number of a job that an accepted command killed
abbrev pub WasKilled : State → List Command → ℕ → Type 0
WasKilled state commands number = Contains (kills_in (accepted_of state commands)) number

-- a job of the sender's still waits there, or was killed there, or has come to the receiver
abbrev pub IsInCustody : Crossing → State → List Command → State → List Command → Job → Type 0
IsInCustody crossing sender sent receiver received job =
    IsAmong (state_after sender sent).jobs job ⊎ WasKilled sender sent job.number ⊎ HasCome crossing receiver received job

-- a job was queued for one that waited at the sender
pub record IsOfWaiting (crossing : Crossing) (state : State) (commands : List Command) (handed : Handed) : Type 0 where
  pub job : Job
  pub waited : Waited crossing state commands job
  pub of : IsHandedFor crossing (parcel_of job) handed

-- The sender's spool ran these commands from its first state, and the receiver's ran those from its
-- own. No job that waited for the receiver is lost. No number of the sender's was queued twice, and
-- each queued job has a number of its own, was made from one that waited, and is kept.
pub record ComeOnce (crossing : Crossing) (sender : State) (sent : List Command) (receiver : State) (received : List Command) : Type 0 where
  pub never_lost : (job : Job) → Waited crossing sender sent job → IsInCustody crossing sender sent receiver received job
  pub never_twice : AllPairs (λ one other. ¬ (one.number ≡ other.number)) (handed_in crossing receiver received)
  pub apart : AllPairs (λ one other. one.job.number < other.job.number) (handed_in crossing receiver received)
  pub same : All (IsOfWaiting crossing sender sent) (handed_in crossing receiver received)
  pub kept : All (λ handed. IsKeptOrGone receiver received handed.job) (handed_in crossing receiver received)

-- each job for the receiver that was handed in at the sender without a key, and whose number was
-- given
abbrev pub ToldAreInCustody : Crossing → List Exchange → State → List Command → State → List Command → Type 0
ToldAreInCustody crossing exchanges sender sent receiver received =
    (new : NewJob) (number : ℕ) → IsAcknowledged exchanges new number → new.system ≡ crossing.to → IsInCustody crossing sender sent receiver received (job_of number new)

-- If a number was given to a key at the sender, the key was kept with it before the first of these
-- commands, or the job that was handed in first under the key got it. If that job is for the
-- receiver, it is in custody. So this covers a relay's jobs.
abbrev pub ToldUnderKeysAreInCustody : Crossing → List Exchange → State → List Command → State → List Command → Type 0
ToldUnderKeysAreInCustody crossing exchanges sender sent receiver received =
    (key : Key) (new : NewJob) (number : ℕ) → IsAcknowledgedUnder exchanges key new number
    → IsKept sender key number ⊎ ((first : NewJob) × IsFirstUnder sender sent key first number × (first.system ≡ crossing.to → IsInCustody crossing sender sent receiver received (job_of number first)))

-- The two spools are those of a world of custody that is reached (`uu_handover/specs/Custody.antt`), so
-- what its law says of such worlds holds of them. Where the receiver forgot only what the sender had
-- said, it did so there.
pub record AreOfWorld (crossing : Crossing) (events : List Event) (sender : State) (sent : List Command) (receiver : State) (received : List Command) : Type 0 where
  pub world : World
  pub reached : IsReached crossing world
  pub sender_is : world.sender ≡ state_after sender sent
  pub receiver_is : world.receiver ≡ state_after receiver received
  pub handed_is : world.handed ≡ handed_in crossing receiver received
  pub heard : ForgetsWhatWasSaid crossing nothing_sent events → world.is_heard ≡ true

-- Each job that waits for the receiver is free. (`IsFree` of a world only looks at the receiver's
-- state.)
abbrev pub NothingIsInTheWay : Crossing → State → List Command → State → List Command → Type 0
NothingIsInTheWay crossing sender sent receiver received =
    (job : Job) (new : NewJob) → Contains (state_after sender sent).jobs job → job.system ≡ crossing.to → IsFree crossing (start (state_after sender sent) (state_after receiver received)) job new
