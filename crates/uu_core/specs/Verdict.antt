-- Which commands are refused, and why. (That its owner or an administrator may kill or rejuvenate a
-- job: Taylor UUCP 1.07 manual, on uustat. Regrading, the limits and the order of the reasons are
-- this project's choice.)
use Rattle.std.specs.Prelude.{ℕ, Bool, true, false, not, ◌==◌, ◌||◌, ◌&&◌, nat_eq, nat_lt, List, [], ◌∷◌, ◌++◌, length, map, Option, Some, None, is_err, option_map, if◌then◌else◌}
use Rattle.std.specs.List.{list_any}
use Rattle.std.specs.Set.{distinct_count}
use Rattle.uu_map.specs.Text.{host_of}
use Rattle.uu_core.specs.declared.command.Command.{Command}
use Rattle.uu_core.specs.declared.command.Command.TheVariants.{Define, Remove, Queue, QueueOnce, Kill, Regrade, Rejuvenate, Failed, Done, Release, Entry, Forget}
use Rattle.uu_core.specs.declared.custody.Key.{Key}
use Rattle.uu_core.specs.declared.custody.Taken.{Taken}
use Rattle.uu_core.specs.declared.job.By.{By}
use Rattle.uu_core.specs.declared.job.JobHead.{JobHead}
use Rattle.uu_core.specs.declared.job.NewJob.{NewJob}
use Rattle.uu_core.specs.declared.job.Kind.{Kind}
use Rattle.uu_core.specs.declared.job.Kind.TheVariants.{Send, Request, Execute}
use Rattle.uu_core.specs.declared.refusal.Refusal.{Refusal}
use Rattle.uu_core.specs.declared.refusal.Refusal.TheVariants.{NoSystem, NoJob, NotYours, JobTwice, OtherSystem, Busy, TooLarge, NumbersOut, BadEntry, Stale, Differs}
use Rattle.uu_core.specs.Refusal.{first_reason}
use Rattle.uu_core.specs.State.{State, same_text, has_system, is_waiting, job_at, head_of, link_of, taken_at, most_bytes, most_arguments, most_done, numbers_end}

-- ---- the reasons against a command, each with whether it applies

-- a system may be removed if it is known and no job waits for it
abbrev pub remove_reasons : Bool → Bool → List (Bool × Refusal)
remove_reasons known waiting = (not known, NoSystem) ∷ (waiting, Busy) ∷ []

abbrev pub has_many_arguments : Kind → Bool
has_many_arguments (Send source target) = false
has_many_arguments (Request source target) = false
has_many_arguments (Execute command arguments) = nat_lt most_arguments (length arguments)

-- a call, or what a system won't ask for again, may be noted if the system is known
abbrev pub known_reasons : Bool → List (Bool × Refusal)
known_reasons known = (not known, NoSystem) ∷ []

-- too many bytes or arguments
abbrev pub is_too_large : NewJob → Bool
is_too_large job = nat_lt most_bytes (length job.bytes) || has_many_arguments job.kind

-- a job may be handed in if it isn't too large, its system is known and a number is left
abbrev pub queue_reasons : Bool → ℕ → NewJob → List (Bool × Refusal)
queue_reasons known next job = (is_too_large job, TooLarge) ∷ (not known, NoSystem) ∷ (next == numbers_end, NumbersOut) ∷ []

-- ---- a job that a neighbour hands on under a key; `taken` is what was taken under its number

-- the key of a neighbour, a number of its own and a mark
abbrev pub key_under : List ℕ → ℕ → ℕ → Key
key_under from number mark = record { from = from; number = number; mark = mark }

-- this very job was handed in before
abbrev pub is_again : Option Taken → Key → Bool
is_again None key = false
is_again (Some taken) key = taken.mark == key.mark

-- another job was handed in before
abbrev pub is_other : Option Taken → Key → Bool
is_other None key = false
is_other (Some taken) key = not (taken.mark == key.mark)

-- A job that comes for the first time may be handed in like any job, if the neighbour is known too,
-- may still ask for its number, and handed in no other job under it.
abbrev pub fresh_reasons : Bool → ℕ → ℕ → Bool → Key → NewJob → List (Bool × Refusal)
fresh_reasons known next below other key job = queue_reasons known next job ++ (nat_lt key.number below, Stale) ∷ (other, Differs) ∷ []

-- a job that was handed in before is never refused, even if its system is gone since
abbrev pub once_reasons : Bool → ℕ → ℕ → Option Taken → Key → NewJob → List (Bool × Refusal)
once_reasons known next below taken key job =
    if is_again taken key then [] else fresh_reasons known next below (is_other taken key) key job

-- the neighbour and the job's system are known
abbrev pub are_known : State → Key → NewJob → Bool
are_known state key job = has_system state key.from && has_system state job.system

-- what was taken from the key's neighbour under its number
abbrev pub taken_of : State → Key → Option Taken
taken_of state key = taken_at (link_of state key.from) key.number

abbrev pub once_reasons_in : State → Key → NewJob → List (Bool × Refusal)
once_reasons_in state key job =
    once_reasons (are_known state key job) state.next (link_of state key.from).below (taken_of state key) key job

-- ---- jobs that are there

-- an administrator may touch each job, any other user only his own
abbrev pub may_touch : By → JobHead → Bool
may_touch by job = by.admin || same_text by.user job.user

-- a job that is there may be killed, regraded or rejuvenated by those who may touch it
abbrev pub job_reasons : Option JobHead → By → List (Bool × Refusal)
job_reasons None by = (true, NoJob) ∷ []
job_reasons (Some job) by = (not (may_touch by job), NotYours) ∷ []

-- one of the numbers occurs twice: counted once each, they are fewer
abbrev pub has_repeat : List ℕ → Bool
has_repeat numbers = nat_lt (distinct_count nat_eq numbers) (length numbers)

abbrev pub has_number : List JobHead → ℕ → Bool
has_number jobs number = list_any (λ job. job.number == number) jobs

-- one of the numbers has no job
abbrev pub is_missing_one : List ℕ → List JobHead → Bool
is_missing_one numbers jobs = list_any (λ number. not (has_number jobs number)) numbers

-- one of the numbers has a job of another system
abbrev pub has_other : List ℕ → List ℕ → List JobHead → Bool
has_other system numbers jobs =
    list_any (λ job. list_any (λ number. number == job.number) numbers && not (same_text job.system system)) jobs

-- a report of a call names at most 256 jobs, each once, which are there and wait for the system
abbrev pub done_reasons : Bool → List ℕ → List ℕ → List JobHead → List (Bool × Refusal)
done_reasons known system numbers jobs =
    (nat_lt most_done (length numbers), TooLarge) ∷ (not known, NoSystem) ∷ (is_missing_one numbers jobs, NoJob) ∷ (has_repeat numbers, JobTwice)
    ∷ (has_other system numbers jobs, OtherSystem) ∷ []

-- each reason for which a command may be refused, with whether it applies in a state
abbrev pub reasons : State → Command → List (Bool × Refusal)
reasons state (Define def) = []
reasons state (Remove name) = remove_reasons (has_system state name) (is_waiting state name)
reasons state (Queue job) = queue_reasons (has_system state job.system) state.next job
reasons state (QueueOnce key job) = once_reasons_in state key job
reasons state (Kill job by) = job_reasons (option_map head_of (job_at state job)) by
reasons state (Regrade job grade by) = job_reasons (option_map head_of (job_at state job)) by
reasons state (Rejuvenate job at by) = job_reasons (option_map head_of (job_at state job)) by
reasons state (Failed system at why) = known_reasons (has_system state system)
reasons state (Done system at jobs) = done_reasons (has_system state system) system jobs (map head_of state.jobs)
reasons state (Release system jobs) = []
reasons state (Entry bytes) = (is_err (host_of bytes), BadEntry) ∷ []
reasons state (Forget system below) = known_reasons (has_system state system)

-- why a command is refused in a state, if it is: the first of these that applies
abbrev pub verdict : State → Command → Option Refusal
verdict state command = first_reason (reasons state command)
