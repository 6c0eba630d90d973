-- The state after a command, and the reply. (Killing and rejuvenating jobs: Taylor UUCP 1.07
-- manual, on uustat; the rest is this project's choice.)
use Rattle.std.specs.Prelude.{ℕ, ◌+◌, max, Bool, not, ◌==◌, ◌&&◌, nat_lt, nat_le, List, [], ◌∷◌, ◌++◌, map, filter, Option, Some, None, Result, Ok, Err, if◌then◌else◌}
use Rattle.std.specs.Ordering.{is_lt, nat_cmp}
use Rattle.std.specs.Cmp.Lexicographic.{slice_cmp}
use Rattle.std.specs.List.{list_any}
use Rattle.uu_times.specs.declared.moment.Moment.{Moment}
use Rattle.uu_map.specs.Text.{host_of}
use Rattle.uu_map.specs.declared.fault.MapFault.{MapFault}
use Rattle.uu_core.specs.declared.command.Command.{Command}
use Rattle.uu_core.specs.declared.command.Command.TheVariants.{Define, Remove, Queue, QueueOnce, Kill, Regrade, Rejuvenate, Failed, Done, Release, Entry, Forget}
use Rattle.uu_core.specs.declared.command.Reply.{Reply}
use Rattle.uu_core.specs.declared.command.Reply.TheVariants.{Done as Carried, Number, Refused}
use Rattle.uu_core.specs.declared.custody.HandIn.{HandIn}
use Rattle.uu_core.specs.declared.custody.HandIn.TheVariants.{First, Again}
use Rattle.uu_core.specs.declared.custody.Key.{Key}
use Rattle.uu_core.specs.declared.custody.Taken.{Taken}
use Rattle.uu_core.specs.declared.job.NewJob.{NewJob}
use Rattle.uu_core.specs.declared.system.Outcome.TheVariants.{Never, Failed as FailedFor, Done as WasDone}
use Rattle.uu_core.specs.declared.system.CallState.{CallState}
use Rattle.uu_core.specs.declared.system.SystemRow.{SystemRow}
use Rattle.uu_core.specs.declared.refusal.Refusal.{Refusal}
use Rattle.uu_core.specs.declared.refusal.Refusal.TheVariants.{NoSystem}
use Rattle.uu_core.specs.State.{State, Job, MapEntry, Link, same_text, is_job, is_system, is_link, system_at, link_of, says_nothing}
use Rattle.uu_core.specs.Waiting.{one_more, wait_after}
use Rattle.uu_core.specs.Verdict.{verdict, taken_of}

-- ---- calls

abbrev pub never_called : CallState
never_called = record { last = 0; failures = 0; wait = 0; outcome = Never }

-- the call state after one more failure
abbrev pub failed_call : SystemRow → Moment → List ℕ → CallState
failed_call row at why =
    record { last = at.second; failures = one_more row.call.failures; wait = wait_after row.def at.week (one_more row.call.failures); outcome = FailedFor why }

-- the answer to the report of a failed call of a system, if it is known
abbrev pub failed_decision : Option SystemRow → Moment → List ℕ → Result CallState Refusal
failed_decision None at why = Err NoSystem
failed_decision (Some row) at why = Ok (failed_call row at why)

-- the call state after a successful call (the success wait: Taylor UUCP 1.07 manual, on the time
-- commands)
abbrev pub done_call : SystemRow → Moment → CallState
done_call row at = record { last = at.second; failures = 0; wait = row.def.success_wait; outcome = WasDone }

-- the call state of a system, if it is known, after a successful call
abbrev pub done_call_of : Option SystemRow → Moment → CallState
done_call_of None at = never_called
done_call_of (Some row) at = done_call row at

-- ---- lists that are kept in the order of a name

-- the first item's name comes before the second's, in the order of their bytes
abbrev pub is_before : {V : Type 0} → (V → List ℕ) → V → V → Bool
is_before name first second = is_lt (slice_cmp nat_cmp (name first) (name second))

-- the item between those before it and those after it, in place of any other of its name
abbrev pub put_by : {V : Type 0} → (V → List ℕ) → V → List V → List V
put_by name item items = filter (λ other. is_before name other item) items ++ item ∷ filter (λ other. is_before name item other) items

abbrev pub put_system : SystemRow → List SystemRow → List SystemRow
put_system = put_by (λ row. row.def.name)

abbrev pub put_entry : MapEntry → List MapEntry → List MapEntry
put_entry = put_by (λ entry. entry.host)

-- the link in its place, if it says something
abbrev pub put_link : Link → List Link → List Link
put_link link links = if says_nothing link then links else put_by (λ other. other.name) link links

-- the calls of a system so far, or those of a new one if it isn't known
abbrev pub call_of : Option SystemRow → CallState
call_of None = never_called
call_of (Some row) = row.call

-- ---- what an accepted command changes

-- a job that is handed in, under its number
abbrev pub job_of : ℕ → NewJob → Job
job_of number job =
    record { number = number; system = job.system; grade = job.grade; user = job.user; kind = job.kind; queued = job.at.second; bytes = job.bytes }

-- a job that is handed in gets the next number
abbrev pub with_job : NewJob → State → State
with_job job state = record state { jobs = state.jobs ++ job_of state.next job ∷ []; next = state.next + 1 }

-- ---- keys

-- the result for a job that is handed in under a key: it was taken before, or it comes for the
-- first time under the number `next`
abbrev pub hand_in_of : Option Taken → Key → ℕ → HandIn
hand_in_of None key next = First next
hand_in_of (Some taken) key next = if taken.mark == key.mark then Again taken.job else First next

abbrev pub hand_in : State → Key → HandIn
hand_in state key = hand_in_of (taken_of state key) key state.next

abbrev pub hand_in_number : HandIn → ℕ
hand_in_number (First number) = number
hand_in_number (Again number) = number

-- the link with one more taken job, in place of any other of its number
abbrev pub with_taken : Taken → Link → Link
with_taken taken link =
    record link { taken = filter (λ other. nat_lt other.number taken.number) link.taken ++ taken ∷ filter (λ other. nat_lt taken.number other.number) link.taken }

-- the link of a neighbour that won't ask again for a number below this one
abbrev pub forgotten : ℕ → Link → Link
forgotten below link = record link { below = max link.below below; taken = filter (λ taken. nat_le below taken.number) link.taken }

-- the key is kept, with the number of its job here
abbrev pub with_key : Key → ℕ → State → State
with_key key number state =
    record state { links = put_link (with_taken (record { number = key.number; mark = key.mark; job = number }) (link_of state key.from)) state.links }

-- a job that comes for the first time is queued, and its key is kept
abbrev pub with_job_once : HandIn → Key → NewJob → State → State
with_job_once (First number) key job state = with_key key number (with_job job state)
with_job_once (Again number) key job state = state

-- ---- one of several

-- one job changes, and the others stay
abbrev pub change_job : ℕ → (Job → Job) → List Job → List Job
change_job number change jobs = map (λ job. if is_job number job then change job else job) jobs

-- the calls of one system change, and the other systems stay
abbrev pub change_call : List ℕ → (SystemRow → CallState) → List SystemRow → List SystemRow
change_call name change systems = map (λ row. if is_system name row then record row { call = change row } else row) systems

abbrev pub is_among : List ℕ → Job → Bool
is_among numbers job = list_any (λ number. number == job.number) numbers

-- the job has one of these numbers, and waits for the system
abbrev pub is_released : List ℕ → List ℕ → Job → Bool
is_released system numbers job = is_among numbers job && same_text job.system system

-- the bytes of an entry under its host
abbrev pub keep_entry : Result (List ℕ) MapFault → List ℕ → List MapEntry → List MapEntry
keep_entry (Ok host) bytes entries = put_entry (record { host = host; bytes = bytes }) entries
keep_entry (Err fault) bytes entries = entries

abbrev pub accept : State → Command → State
accept state (Define def) =
    record state { systems = put_system (record { def = def; call = call_of (system_at state def.name) }) state.systems }
accept state (Remove name) =
    record state { systems = filter (λ row. not (is_system name row)) state.systems; links = filter (λ link. not (is_link name link)) state.links }
accept state (Queue job) = with_job job state
accept state (QueueOnce key job) = with_job_once (hand_in state key) key job state
accept state (Kill job by) = record state { jobs = filter (λ other. not (is_job job other)) state.jobs }
accept state (Regrade job grade by) = record state { jobs = change_job job (λ other. record other { grade = grade }) state.jobs }
accept state (Rejuvenate job at by) = record state { jobs = change_job job (λ other. record other { queued = at.second }) state.jobs }
accept state (Failed system at why) = record state { systems = change_call system (λ row. failed_call row at why) state.systems }
accept state (Done system at jobs) =
    record state { jobs = filter (λ job. not (is_among jobs job)) state.jobs; systems = change_call system (λ row. done_call row at) state.systems }
accept state (Release system jobs) = record state { jobs = filter (λ job. not (is_released system jobs job)) state.jobs }
accept state (Entry bytes) = record state { entries = keep_entry (host_of bytes) bytes state.entries }
accept state (Forget system below) = record state { links = put_link (forgotten below (link_of state system)) state.links }

-- the reply to an accepted command: the number of a job that was added, now or before under this
-- key
abbrev pub reply_to : State → Command → Reply
reply_to state (Queue job) = Number state.next
reply_to state (QueueOnce key job) = Number (hand_in_number (hand_in state key))
reply_to state (Define def) = Carried
reply_to state (Remove name) = Carried
reply_to state (Kill job by) = Carried
reply_to state (Regrade job grade by) = Carried
reply_to state (Rejuvenate job at by) = Carried
reply_to state (Failed system at why) = Carried
reply_to state (Done system at jobs) = Carried
reply_to state (Release system jobs) = Carried
reply_to state (Entry bytes) = Carried
reply_to state (Forget system below) = Carried

-- the state after a command and its reply; a refused command leaves the state
abbrev pub after_verdict : Option Refusal → State → Command → State × Reply
after_verdict None state command = (accept state command, reply_to state command)
after_verdict (Some refusal) state command = (state, Refused refusal)

abbrev pub after : State → Command → State × Reply
after state command = after_verdict (verdict state command) state command
