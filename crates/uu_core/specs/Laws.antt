-- What follows from the definitions of the machine.
use Rattle.std.specs.Prelude.{◌≡◌, ℕ, Bool, ◌==◌, ◌&&◌, nat_lt, List, [], ◌∷◌, ◌++◌, Option, Some, None, Contains, true, false, if◌then◌else◌}
use Rattle.std.specs.List.{list_any}
use Rattle.uu_core.specs.declared.command.Command.{Command}
use Rattle.uu_core.specs.declared.command.Command.TheVariants.{Define, Remove, Queue, QueueOnce, Kill, Regrade, Rejuvenate, Failed, Done, Release, Entry, Forget}
use Rattle.uu_core.specs.declared.command.Reply.{Reply}
use Rattle.uu_core.specs.declared.command.Reply.TheVariants.{Done as Carried, Number, Refused}
use Rattle.uu_core.specs.declared.refusal.Refusal.{Refusal}
use Rattle.uu_core.specs.declared.custody.Key.{Key}
use Rattle.uu_core.specs.declared.job.JobHead.{JobHead}
use Rattle.uu_core.specs.declared.job.NewJob.{NewJob}
use Rattle.uu_core.specs.State.{State, Job, is_job, same_text}
use Rattle.uu_core.specs.Verdict.{verdict, is_again, taken_of}
use Rattle.uu_core.specs.After.{after, job_of, is_among, is_released}
use Rattle.uu_core.specs.Run.{state_after}

-- a command before others, if it is accepted
abbrev pub unless_refused : Option Refusal → Command → List Command → List Command
unless_refused None command commands = command ∷ commands
unless_refused (Some refusal) command commands = commands

-- the commands of a run that are accepted, in order
abbrev pub accepted_of : State → List Command → List Command
accepted_of state [] = []
accepted_of state (command ∷ commands) =
    unless_refused (verdict state command) command (accepted_of (after state command).0 commands)

-- the numbers that replies give to jobs, in order
abbrev pub numbers_in : List Reply → List ℕ
numbers_in [] = []
numbers_in (Carried ∷ replies) = numbers_in replies
numbers_in (Number number ∷ replies) = number ∷ numbers_in replies
numbers_in (Refused refusal ∷ replies) = numbers_in replies

-- why the command was refused, if it was
abbrev pub refusal_in : Reply → Option Refusal
refusal_in Carried = None
refusal_in (Number number) = None
refusal_in (Refused refusal) = Some refusal

-- the job that a command hands in, if any
abbrev pub handed_by : Command → Option NewJob
handed_by (Queue job) = Some job
handed_by (QueueOnce key job) = Some job
handed_by command = None

-- the command hands in a job under a key
abbrev pub has_key : Command → Bool
has_key (QueueOnce key job) = true
has_key command = false

-- a neighbour hands on a job again that was taken under this key
abbrev pub is_repeat : State → Command → Bool
is_repeat state (QueueOnce key job) = is_again (taken_of state key) key
is_repeat state command = false

-- if the command is accepted, the spool forgets the key: the neighbour is removed, or won't ask for
-- its number again
abbrev pub lets_forget : Command → Key → Bool
lets_forget (Remove name) key = same_text name key.from
lets_forget (Forget system below) key = same_text system key.from && nat_lt key.number below
lets_forget command key = false

-- the numbers that the replies to a run give to jobs, in order, without those that are repeated
abbrev pub new_numbers : State → List Command → List ℕ
new_numbers state [] = []
new_numbers state (command ∷ commands) =
    (if is_repeat state command then [] else numbers_in ((after state command).1 ∷ [])) ++ new_numbers (after state command).0 commands

-- if the command is accepted, it removes the job
abbrev pub lets_go : Command → Job → Bool
lets_go (Kill number by) job = is_job number job
lets_go (Done system at jobs) job = is_among jobs job
lets_go (Release system jobs) job = is_released system jobs job
lets_go (Define def) job = false
lets_go (Remove name) job = false
lets_go (Queue new) job = false
lets_go (QueueOnce key new) job = false
lets_go (Regrade number grade by) job = false
lets_go (Rejuvenate number at by) job = false
lets_go (Failed system at why) job = false
lets_go (Entry bytes) job = false
lets_go (Forget system below) job = false

-- the same job, perhaps with another grade or time of queueing
pub record IsSameJob (job later : Job) : Type 0 where
  pub number : later.number ≡ job.number
  pub system : later.system ≡ job.system
  pub user : later.user ≡ job.user
  pub kind : later.kind ≡ job.kind
  pub bytes : later.bytes ≡ job.bytes

-- the job is among these, with perhaps another grade or time of queueing
pub record IsAmong (jobs : List Job) (job : Job) : Type 0 where
  pub later : Job
  pub there : Contains jobs later
  pub same : IsSameJob job later

-- the job is the one that an accepted command, which isn't a repeat, hands in under the next number
pub record IsHandedIn (state : State) (command : Command) (job : Job) : Type 0 where
  pub new : NewJob
  pub command_is : handed_by command ≡ Some new
  pub accepted : verdict state command ≡ None
  pub first : is_repeat state command ≡ false
  pub job_is : job ≡ job_of state.next new

-- the job is one that an accepted command of a run handed in, perhaps with another grade or time of
-- queueing by now
pub record IsOfRun (state : State) (commands : List Command) (later : Job) : Type 0 where
  pub before : List Command
  pub command : Command
  pub behind : List Command
  pub run_is : commands ≡ before ++ command ∷ behind
  pub job : Job
  pub made : IsHandedIn (state_after state before) command job
  pub same : IsSameJob job later

-- the key is kept with this number of its job here
abbrev pub IsKept : State → Key → ℕ → Type 0
IsKept state key number = taken_of state key ≡ Some (record { number = key.number; mark = key.mark; job = number })

-- A command of a run handed in the job under the key for the first time, so the job got the number.
pub record IsFirstUnder (state : State) (commands : List Command) (key : Key) (first : NewJob) (number : ℕ) : Type 0 where
  pub before : List Command
  pub behind : List Command
  pub run_is : commands ≡ before ++ QueueOnce key first ∷ behind
  pub made : IsHandedIn (state_after state before) (QueueOnce key first) (job_of number first)

-- the job's number is among these
abbrev pub is_named : List ℕ → JobHead → Bool
is_named numbers job = list_any (λ number. number == job.number) numbers

-- the jobs that were found: some of the jobs, and among them each whose number is one of these
pub record AreFound (numbers : List ℕ) (jobs found : List JobHead) : Type 0 where
  pub there : (job : JobHead) → Contains found job → Contains jobs job
  pub all : (job : JobHead) → Contains jobs job → is_named numbers job ≡ true → Contains found job
