-- Custody: a job that one spool hands on to another under a key is queued there once. (The word is
-- from RFC 5050, 5.10; the world of two spools and a wire is this project's choice.)
--
-- A stop needs no step of its own. A reopened spool has what its answered commands made of it, and
-- all or nothing of the command in hand. If that was carried out, it is a step whose answer nobody
-- uses.
use Rattle.std.specs.Prelude.{◌≡◌, ◌⊎◌, ⊤, ℕ, ◌≤◌, Bool, true, not, ◌&&◌, ◌||◌, nat_le, List, [], ◌∷◌, ◌++◌, map, filter, find, option_map, unwrap_or, All, Contains, None}
use Rattle.std.specs.List.{list_any}
use Rattle.uu_core.specs.declared.command.Command.{Command}
use Rattle.uu_core.specs.declared.command.Command.TheVariants.{Remove, QueueOnce, Kill, Done, Release, Forget}
use Rattle.uu_core.specs.declared.command.Reply.{Reply}
use Rattle.uu_core.specs.declared.custody.Key.{Key}
use Rattle.uu_core.specs.declared.custody.Taken.{Taken}
use Rattle.uu_core.specs.declared.job.Kind.{Kind}
use Rattle.uu_core.specs.declared.job.NewJob.{NewJob}
use Rattle.uu_core.specs.State.{State, Job, IsWellFormed, same_text, link_of, new_link}
use Rattle.uu_core.specs.Refusal.{first_reason}
use Rattle.uu_core.specs.Verdict.{verdict, queue_reasons, are_known}
use Rattle.uu_core.specs.After.{after, job_of}
use Rattle.uu_core.specs.Laws.{accepted_of, numbers_in, IsAmong}

-- ---- two spools and a wire

-- the part of a job that goes over the wire: its number, and what doesn't change while it waits
pub record Parcel : Type 0 where
  pub number : ℕ
  pub user : List ℕ
  pub kind : Kind
  pub bytes : List ℕ

abbrev pub parcel_of : Job → Parcel
parcel_of job = record { number = job.number; user = job.user; kind = job.kind; bytes = job.bytes }

-- What two sites agreed on: the receiver's name for the sender, the sender's name for the receiver,
-- and what the receiver's program makes of a parcel. That is its mark, and a job to queue, which
-- may differ each time, for example in grade and time.
pub record Crossing : Type 0 where
  pub from : List ℕ
  pub to : List ℕ
  pub mark : Parcel → ℕ
  pub makes : Parcel → NewJob → Bool

abbrev pub key_of : Crossing → Parcel → Key
key_of crossing parcel = record { from = crossing.from; number = parcel.number; mark = crossing.mark parcel }

-- a job of the receiver's that was queued for a parcel of this number, as it was at that time
pub record Handed : Type 0 where
  pub number : ℕ
  pub job : Job

-- The two spools. What was ever put on the wire, which keeps it, repeats it and changes its order:
-- the parcels; the numbers of parcels that the receiver answered with a number of its own, or said
-- to have taken; and the numbers below which the sender said that it won't ask again. What the
-- receiver queued so far, in order. The sender's jobs that were killed. Whether the receiver forgot
-- only what the sender had said.
pub record World : Type 0 where
  pub sender : State
  pub receiver : State
  pub shown : List Parcel
  pub answered : List ℕ
  pub said : List ℕ
  pub handed : List Handed
  pub killed : List ℕ
  pub is_heard : Bool

-- ---- what may happen

pub data Step : Type 0 where
  SenderRuns : (command : Command) → Step
  SenderShows : (job : Job) → Step
  SenderSays : (below : ℕ) → Step
  ReceiverTakes : (parcel : Parcel) (new : NewJob) → Step
  ReceiverRuns : (command : Command) → Step
  ReceiverTells : (number : ℕ) → Step

-- no job that waits for the receiver, now or later, has a number below this one
pub record IsLeast (crossing : Crossing) (sender : State) (below : ℕ) : Type 0 where
  pub now : All (λ job. job.system ≡ crossing.to → below ≤ job.number) sender.jobs
  pub later : below ≤ sender.next

-- such a number: that of the first job that waits for the receiver, or the next number if none
-- waits
abbrev pub least_of : Crossing → State → ℕ
least_of crossing sender = unwrap_or (option_map (λ job. job.number) (find (λ job. same_text job.system crossing.to) sender.jobs)) sender.next

-- the receiver keeps the sender's job of this number as taken
pub record HasTaken (crossing : Crossing) (receiver : State) (number : ℕ) : Type 0 where
  pub row : Taken
  pub there : Contains (link_of receiver crossing.from).taken row
  pub is : row.number ≡ number

-- the sender reports a job as gone to the receiver, or releases it, only if it was answered; it may
-- run any other command
abbrev pub MayRun : Crossing → World → Command → Type 0
MayRun crossing world (Done system at jobs) = system ≡ crossing.to → All (Contains world.answered) jobs
MayRun crossing world (Release system jobs) = system ≡ crossing.to → All (Contains world.answered) jobs
MayRun crossing world command = ⊤

-- the receiver doesn't remove the sender's system, and takes keys with its name only from the wire
abbrev pub is_of_others : Crossing → Command → Bool
is_of_others crossing (Remove name) = not (same_text name crossing.from)
is_of_others crossing (QueueOnce key job) = not (same_text key.from crossing.from)
is_of_others crossing command = true

abbrev pub MayGo : Crossing → World → Step → Type 0
MayGo crossing world (SenderRuns command) = MayRun crossing world command
MayGo crossing world (SenderShows job) = Contains world.sender.jobs job × (job.system ≡ crossing.to)
MayGo crossing world (SenderSays below) = IsLeast crossing world.sender below
MayGo crossing world (ReceiverTakes parcel new) = Contains world.shown parcel × (crossing.makes parcel new ≡ true)
MayGo crossing world (ReceiverRuns command) = is_of_others crossing command ≡ true
MayGo crossing world (ReceiverTells number) = HasTaken crossing world.receiver number

-- ---- what happens then

-- the numbers that commands kill
abbrev pub kills_in : List Command → List ℕ
kills_in [] = []
kills_in (Kill job by ∷ commands) = job ∷ kills_in commands
kills_in (command ∷ commands) = kills_in commands

abbrev pub handed_for : Parcel → Job → Handed
handed_for parcel job = record { number = parcel.number; job = job }

-- the jobs of a later state whose numbers were not used yet
abbrev pub added : State → State → List Job
added before then = filter (λ job. nat_le before.next job.number) then.jobs

-- the sender's number, if the receiver answers with one of its own
abbrev pub answer_to : Parcel → Reply → List ℕ
answer_to parcel reply = map (λ number. parcel.number) (numbers_in (reply ∷ []))

-- the command doesn't forget what the sender may still ask for
abbrev pub was_said : Crossing → World → Command → Bool
was_said crossing world (Forget system below) = not (same_text system crossing.from) || list_any (λ said. nat_le below said) world.said
was_said crossing world command = true

-- the receiver runs the command for a parcel, and its answer goes on the wire
abbrev pub hand_on : World → Parcel → Command → World
hand_on world parcel command =
    let then = after world.receiver command in
    record world {
      receiver = then.0;
      answered = world.answered ++ answer_to parcel then.1;
      handed = world.handed ++ map (handed_for parcel) (added world.receiver then.0);
    }

abbrev pub go : Crossing → World → Step → World
go crossing world (SenderRuns command) =
    record world { sender = (after world.sender command).0; killed = world.killed ++ kills_in (accepted_of world.sender (command ∷ [])) }
go crossing world (SenderShows job) = record world { shown = world.shown ++ parcel_of job ∷ [] }
go crossing world (SenderSays below) = record world { said = world.said ++ below ∷ [] }
go crossing world (ReceiverTakes parcel new) = hand_on world parcel (QueueOnce (key_of crossing parcel) new)
go crossing world (ReceiverRuns command) =
    record world { receiver = (after world.receiver command).0; is_heard = world.is_heard && was_said crossing world command }
go crossing world (ReceiverTells number) = record world { answered = world.answered ++ number ∷ [] }

abbrev pub world_after : Crossing → World → List Step → World
world_after crossing world [] = world
world_after crossing world (step ∷ steps) = world_after crossing (go crossing world step) steps

-- each of the steps may be made in its turn
abbrev pub MayGoOn : Crossing → World → List Step → Type 0
MayGoOn crossing world [] = ⊤
MayGoOn crossing world (step ∷ steps) = MayGo crossing world step × MayGoOn crossing (go crossing world step) steps

-- ---- the worlds that are reached

-- two spools, with whatever they hold, before the first parcel
abbrev pub start : State → State → World
start sender receiver = record { sender = sender; receiver = receiver; shown = []; answered = []; said = []; handed = []; killed = []; is_heard = true }

pub record IsReached (crossing : Crossing) (world : World) : Type 0 where
  pub sender : State
  pub receiver : State
  pub steps : List Step
  pub sender_is : IsWellFormed sender
  pub receiver_is : IsWellFormed receiver
  pub nothing_kept : link_of receiver crossing.from ≡ new_link crossing.from
  pub may_go : MayGoOn crossing (start sender receiver) steps
  pub world_is : world ≡ world_after crossing (start sender receiver) steps

-- ---- what is claimed of them

-- this was queued for the parcel: a job that the receiver's program made of it
pub record IsHandedFor (crossing : Crossing) (parcel : Parcel) (handed : Handed) : Type 0 where
  pub number : handed.number ≡ parcel.number
  pub new : NewJob
  pub made : crossing.makes parcel new ≡ true
  pub job_is : handed.job ≡ job_of handed.job.number new

-- the parcel was queued
pub record IsQueued (crossing : Crossing) (world : World) (parcel : Parcel) : Type 0 where
  pub handed : Handed
  pub there : Contains world.handed handed
  pub of : IsHandedFor crossing parcel handed

-- a job of the sender's waits there, or an accepted command killed it, or the receiver queued it
abbrev pub IsNotLost : Crossing → World → Job → Type 0
IsNotLost crossing world job = IsAmong world.sender.jobs job ⊎ Contains world.killed job.number ⊎ IsQueued crossing world (parcel_of job)

-- This job is free: the receiver would take it, or refuse it only for its size, for a system or a
-- sender that it doesn't know, or because no number is left.
abbrev pub IsFree : Crossing → World → Job → NewJob → Type 0
IsFree crossing world job new =
    let key = key_of crossing (parcel_of job) in
    let found = verdict world.receiver (QueueOnce key new) in
    (found ≡ None) ⊎ (found ≡ first_reason (queue_reasons (are_known world.receiver key new) world.receiver.next new))

-- steps may follow after which the receiver has queued the job, and it no longer waits
pub record MayCross (crossing : Crossing) (world : World) (job : Job) : Type 0 where
  pub steps : List Step
  pub may_go : MayGoOn crossing world steps
  pub queued : IsQueued crossing (world_after crossing world steps) (parcel_of job)
  pub gone : ¬ IsAmong (world_after crossing world steps).sender.jobs job
