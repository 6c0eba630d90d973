-- What a spool holds.
use Rattle.std.specs.Prelude.{◌≡◌, ℕ, ◌<◌, ◌≤◌, Bool, false, ◌==◌, ◌&&◌, List, [], length, Option, unwrap_or, Ok, IsTrue, All, AllPairs, find, nat_eq, ⊤}
use Rattle.std.specs.declared.cmp.Ordering.TheVariants.{Less}
use Rattle.std.specs.Ordering.{nat_cmp}
use Rattle.std.specs.Cmp.Lexicographic.{pointwise, slice_cmp}
use Rattle.std.specs.List.{list_any}
use Rattle.uu_names.specs.Grade.{grade_count}
use Rattle.uu_names.specs.Name.{is_site_name, is_word}
use Rattle.uu_times.specs.Moment as moments
use Rattle.uu_times.specs.System.{System, AreWithinLimits}
use Rattle.uu_times.specs.Ranges.{AreSeparateRanges}
use Rattle.uu_times.specs.declared.system.Line.{Line}
use Rattle.uu_map.specs.Text.{host_of}
use Rattle.uu_core.specs.declared.custody.Taken.{Taken}
use Rattle.uu_core.specs.declared.job.Kind.{Kind}
use Rattle.uu_core.specs.declared.job.Kind.TheVariants.{Send, Request, Execute}
use Rattle.uu_core.specs.declared.job.JobHead.{JobHead}
use Rattle.uu_core.specs.declared.system.Outcome.{Outcome}
use Rattle.uu_core.specs.declared.system.Outcome.TheVariants.{Never, Failed, Done}
use Rattle.uu_core.specs.declared.system.CallState.{CallState}
use Rattle.uu_core.specs.declared.system.SystemRow.{SystemRow}
use Rattle.uu_core.specs.Marks.{marks_end}

-- a job with all its bytes
pub record Job : Type 0 where
  pub number : ℕ
  pub system : List ℕ
  pub grade : ℕ
  pub user : List ℕ
  pub kind : Kind
  pub queued : ℕ
  pub bytes : List ℕ

-- a map entry, kept under its host
pub record MapEntry : Type 0 where
  pub host : List ℕ
  pub bytes : List ℕ

-- What is kept about the jobs that a neighbour hands on with a key. That is the number below which
-- it won't ask again, and the jobs that were taken, in the order of their numbers there. (Custody
-- is the word of RFC 5050, 5.10; the key and what is kept about it are this project's choice.)
pub record Link : Type 0 where
  pub name : List ℕ
  pub below : ℕ
  pub taken : List Taken

-- The jobs in the order in which they were accepted, the systems in the order of their names, the
-- entries in the order of their hosts, the number of the next job, and the links that say
-- something, in the order of their systems' names.
pub record State : Type 0 where
  pub jobs : List Job
  pub systems : List SystemRow
  pub entries : List MapEntry
  pub next : ℕ
  pub links : List Link

-- a spool that holds nothing
abbrev pub empty : State
empty = record { jobs = []; systems = []; entries = []; next = 1; links = [] }

-- two names, users or hosts are the same, byte for byte
abbrev pub same_text : List ℕ → List ℕ → Bool
same_text = pointwise nat_eq

abbrev pub is_job : ℕ → Job → Bool
is_job number job = job.number == number

abbrev pub is_system : List ℕ → SystemRow → Bool
is_system name row = same_text row.def.name name

abbrev pub is_entry : List ℕ → MapEntry → Bool
is_entry host entry = same_text entry.host host

abbrev pub is_link : List ℕ → Link → Bool
is_link name link = same_text link.name name

abbrev pub is_taken : ℕ → Taken → Bool
is_taken number taken = taken.number == number

-- the job of a number, the system of a name, the entry of a host
abbrev pub job_at : State → ℕ → Option Job
job_at state number = find (is_job number) state.jobs

abbrev pub system_at : State → List ℕ → Option SystemRow
system_at state name = find (is_system name) state.systems

abbrev pub entry_at : State → List ℕ → Option MapEntry
entry_at state host = find (is_entry host) state.entries

abbrev pub has_system : State → List ℕ → Bool
has_system state name = list_any (is_system name) state.systems

-- the link of a neighbour for which nothing is kept
abbrev pub new_link : List ℕ → Link
new_link name = record { name = name; below = 0; taken = [] }

-- the link of a neighbour
abbrev pub link_of : State → List ℕ → Link
link_of state name = unwrap_or (find (is_link name) state.links) (new_link name)

-- what was taken from a neighbour under a number of its own
abbrev pub taken_at : Link → ℕ → Option Taken
taken_at link number = find (is_taken number) link.taken

-- the link says nothing, like a new one
abbrev pub says_nothing : Link → Bool
says_nothing link = link.below == 0 && length link.taken == 0

-- whether a job waits for the system
abbrev pub is_waiting : State → List ℕ → Bool
is_waiting state name = list_any (λ job. same_text job.system name) state.jobs

-- a job without its bytes
abbrev pub head_of : Job → JobHead
head_of job = record { number = job.number; system = job.system; grade = job.grade; user = job.user; kind = job.kind; queued = job.queued; size = length job.bytes }

-- ---- what holds of each state that a spool reaches (the limits are this project's choice)

-- the last second of a moment
abbrev pub last_second : ℕ
last_second = moments.last_second

-- the number after the last job number, which no job has
abbrev pub numbers_end : ℕ
numbers_end = 4294967295

-- the most bytes of a job
abbrev pub most_bytes : ℕ
most_bytes = 1048576

-- the most arguments of an execution
abbrev pub most_arguments : ℕ
most_arguments = 64

-- the most jobs in one report of a call
abbrev pub most_done : ℕ
most_done = 256

-- failures in a row are counted up to this number
abbrev pub most_failures : ℕ
most_failures = 1000000

-- the most seconds that a system is left alone: 365 days
abbrev pub most_wait : ℕ
most_wait = 31536000

abbrev pub IsKind : Kind → Type 0
IsKind (Send source target) = IsTrue (is_word source) × IsTrue (is_word target)
IsKind (Request source target) = IsTrue (is_word source) × IsTrue (is_word target)
IsKind (Execute command arguments) = IsTrue (is_word command) × All (λ word. IsTrue (is_word word)) arguments × (length arguments ≤ most_arguments)

pub record IsJob (job : Job) : Type 0 where
  pub number : 1 ≤ job.number
  pub system : IsTrue (is_site_name job.system)
  pub grade : job.grade < grade_count
  pub user : IsTrue (is_word job.user)
  pub kind : IsKind job.kind
  pub queued : job.queued ≤ last_second
  pub bytes : length job.bytes ≤ most_bytes

-- a system that was never called has zeros
abbrev pub IsOutcome : Outcome → CallState → Type 0
IsOutcome Never call = (call.last ≡ 0) × (call.failures ≡ 0) × (call.wait ≡ 0)
IsOutcome (Failed why) call = IsTrue (is_word why)
IsOutcome Done call = ⊤

pub record IsCall (call : CallState) : Type 0 where
  pub last : call.last ≤ last_second
  pub failures : call.failures ≤ most_failures
  pub wait : call.wait ≤ most_wait
  pub outcome : IsOutcome call.outcome call

abbrev pub IsLine : Line → Type 0
IsLine line = (line.grade < grade_count) × AreSeparateRanges line.windows

pub record IsDefinition (def : System) : Type 0 where
  pub name : IsTrue (is_site_name def.name)
  pub lines : All IsLine def.lines
  pub limits : AreWithinLimits def.lines def.max_retries def.success_wait

-- its numbers are those of jobs and marks; the taken jobs are in order of the numbers there, and
-- none of these is a number that the neighbour won't ask for again
pub record IsLink (link : Link) : Type 0 where
  pub below : link.below ≤ numbers_end
  pub says : says_nothing link ≡ false
  pub numbers : All (λ taken. (taken.number ≤ numbers_end) × (taken.mark < marks_end) × (1 ≤ taken.job)) link.taken
  pub rising : AllPairs (λ a b. a.number < b.number) link.taken
  pub at_least : All (λ taken. link.below ≤ taken.number) link.taken

-- one text comes before another in the order of their bytes
abbrev pub ComesBefore : List ℕ → List ℕ → Type 0
ComesBefore a b = slice_cmp nat_cmp a b ≡ Less

pub record IsWellFormed (state : State) : Type 0 where
  pub some_next : 1 ≤ state.next
  pub next : state.next ≤ numbers_end
  pub jobs : All IsJob state.jobs
  pub rising : AllPairs (λ a b. a.number < b.number) state.jobs
  pub below_next : All (λ job. job.number < state.next) state.jobs
  pub placed : All (λ job. IsTrue (has_system state job.system)) state.jobs
  pub definitions : All (λ row. IsDefinition row.def) state.systems
  pub calls : All (λ row. IsCall row.call) state.systems
  pub by_name : AllPairs (λ a b. ComesBefore a.def.name b.def.name) state.systems
  pub hosts : All (λ entry. host_of entry.bytes ≡ Ok entry.host) state.entries
  pub by_host : AllPairs (λ a b. ComesBefore a.host b.host) state.entries
  pub links : All IsLink state.links
  pub linked : All (λ link. IsTrue (has_system state link.name)) state.links
  pub taken : All (λ link. All (λ taken. taken.job < state.next) link.taken) state.links
  pub by_link : AllPairs (λ a b. ComesBefore a.name b.name) state.links
