-- The reports of jobs, of what is due, of next calls, of queues, of systems and of links. Their
-- forms are this project's choice; the civil calendar is that of `jiff_core`.
use Rattle.std.specs.Prelude.{◌≡◌, ℕ, ◌≤◌, ◌-◌, Bool, true, false, All, Option, Some, List, [], ◌∷◌, ◌++◌, None, codes, length, map, slice_get, option_to_list}
use Rattle.std.specs.Fmt.{decimal}
use Rattle.std.specs.List.{concat, flat_map}
use Rattle.jiff_core.specs.DateTime.{civil_nanos}
use Rattle.jiff_core.specs.Timestamp.{nanos_of_seconds}
use Rattle.jiff_core.specs.declared.civil.datetime.DateTime.{DateTime}
use Rattle.jiff_fmt.specs.Text.{date_text, time_text}
use Rattle.uu_names.specs.Grade.{grade_bytes}
use Rattle.uu_times.specs.Moment.{local_second}
use Rattle.uu_times.specs.declared.zone.Zone.{Zone}
use Rattle.uu_map.specs.declared.entry.Cost.{Cost}
use Rattle.uu_map.specs.declared.entry.Cost.TheVariants.{Value, Dead}
use Rattle.uu_map.specs.declared.entry.Link.{Link}
use Rattle.uu_map.specs.declared.entry.Entry.{Entry}
use Rattle.uu_map.specs.declared.entry.Network.{Network}
use Rattle.uu_routes.specs.declared.site.SiteRoute.{SiteRoute}
use Rattle.uu_bundle.specs.declared.bundle.Refused.{Refused}
use Rattle.uu_core.specs.Refusal.{refusal_name}
use Rattle.uu_core.specs.State.{most_done}
use Rattle.uu_core.specs.declared.job.JobHead.{JobHead}
use Rattle.uu_core.specs.declared.job.Kind.{Kind}
use Rattle.uu_core.specs.declared.job.Kind.TheVariants.{Send, Request, Execute}
use Rattle.uu_core.specs.declared.due.Due.{Due}
use Rattle.uu_core.specs.declared.next_call.NextCall.{NextCall}
use Rattle.uu_core.specs.declared.next_call.NextPoll.{NextPoll}
use Rattle.uu_core.specs.declared.next_call.Why.{Why}
use Rattle.uu_core.specs.declared.next_call.Why.TheVariants as why
use Rattle.uu_core.specs.declared.queue.Queue.{Queue}
use Rattle.uu_core.specs.declared.system.CallState.{CallState}
use Rattle.uu_core.specs.declared.system.Outcome.{Outcome}
use Rattle.uu_core.specs.declared.system.Outcome.TheVariants.{Never, Failed, Done}
use Rattle.uu_core.specs.declared.system.SystemRow.{SystemRow}

-- ---- moments

-- the local time of a site at a second
abbrev pub IsLocalTime : Zone → ℕ → DateTime → Type 0
IsLocalTime zone second local = civil_nanos local ≡ nanos_of_seconds (local_second zone second)

-- `2001-09-09 01:46:40`
unfoldable pub clock_text : DateTime → List ℕ
clock_text local = date_text local.date ++ 32 ∷ time_text None local.time

-- the local time of a site at a second, as a text
abbrev pub IsMoment : Zone → ℕ → List ℕ → Type 0
IsMoment zone second text =
    (local : DateTime) × IsLocalTime zone second local × (text ≡ clock_text local)

-- ---- lines

-- texts with one space between two
abbrev pub spaced : List (List ℕ) → List ℕ
spaced [] = []
spaced (text ∷ []) = text
spaced (text ∷ more ∷ texts) = text ++ 32 ∷ spaced (more ∷ texts)

-- a line of texts with one space between two
abbrev pub line_of : List (List ℕ) → List ℕ
line_of texts = spaced texts ++ 10 ∷ []

-- a line for each item, one after the other
abbrev pub AreLines : {X : Type 0} → (X → List ℕ → Type 0) → List X → List ℕ → Type 0
AreLines IsLine [] report = report ≡ []
AreLines IsLine (x ∷ xs) report =
    (line : List ℕ) × (rest : List ℕ) × (report ≡ line ++ rest) × IsLine x line × AreLines IsLine xs rest

-- the letter or digit of a grade
abbrev pub grade_text : ℕ → List ℕ
grade_text rank = option_to_list (slice_get grade_bytes rank)

-- ---- jobs

-- what the job is for
abbrev pub work_text : Kind → List ℕ
work_text (Send source target) = spaced (codes "send" ∷ source ∷ target ∷ [])
work_text (Request source target) = spaced (codes "request" ∷ source ∷ target ∷ [])
work_text (Execute command arguments) = spaced (codes "exec" ∷ command ∷ arguments)

-- the line of a job that was queued at this moment
abbrev pub job_text : List ℕ → JobHead → List ℕ
job_text moment job =
    line_of (decimal job.number ∷ job.system ∷ job.user ∷ grade_text job.grade ∷ moment ∷ decimal job.size ∷ work_text job.kind ∷ [])

-- the line of a job at its local time
abbrev pub IsJobLine : Zone → JobHead → List ℕ → Type 0
IsJobLine zone job line =
    (moment : List ℕ) × IsMoment zone job.queued moment × (line ≡ job_text moment job)

-- the report of jobs
abbrev pub IsJobsReport : Zone → List JobHead → List ℕ → Type 0
IsJobsReport zone = AreLines (IsJobLine zone)

-- ---- what is due

-- the line of a system that may be called, with the job for which it is called
abbrev pub due_text : Due → List ℕ
due_text due = line_of (due.system ∷ grade_text due.grade ∷ decimal due.number ∷ [])

-- ---- next calls

-- why the system isn't called earlier, or that it is called now
abbrev pub why_text : Why → List ℕ
why_text why.Due = codes "due"
why_text why.Held = codes "held"
why_text why.Closed = codes "closed"
why_text why.Grade = codes "grade"

-- in how many seconds, counted from the second `now` on, and at which moment a call comes; or that
-- it never comes
abbrev pub IsTimeText : Zone → ℕ → Option ℕ → List ℕ → Type 0
IsTimeText zone now None text = text ≡ codes "never"
IsTimeText zone now (Some second) text =
    (moment : List ℕ) × IsMoment zone second moment × (text ≡ spaced (decimal (second - now) ∷ moment ∷ []))

-- the line of a system that has a job
abbrev pub IsNextCallLine : Zone → ℕ → NextCall → List ℕ → Type 0
IsNextCallLine zone now call line =
    (time : List ℕ) × IsTimeText zone now call.second time
    × (line ≡ line_of (call.system ∷ grade_text call.grade ∷ decimal call.number ∷ time ∷ why_text call.why ∷ []))

-- the report of when systems can next be called
abbrev pub IsNextCallsReport : Zone → ℕ → List NextCall → List ℕ → Type 0
IsNextCallsReport zone now = AreLines (IsNextCallLine zone now)

-- the line of a system with a job or without one
abbrev pub IsNextPollLine : Zone → ℕ → NextPoll → List ℕ → Type 0
IsNextPollLine zone now poll line =
    (time : List ℕ) × IsTimeText zone now poll.second time
    × (line ≡ line_of (poll.system ∷ codes "-" ∷ codes "-" ∷ time ∷ why_text poll.why ∷ []))

-- the report of when systems can next be called, with a job or without one
abbrev pub IsNextPollsReport : Zone → ℕ → List NextPoll → List ℕ → Type 0
IsNextPollsReport zone now = AreLines (IsNextPollLine zone now)

-- ---- queues

-- the line of a system for which jobs wait, the oldest since this moment
abbrev pub queue_text : List ℕ → Queue → List ℕ
queue_text moment queue =
    line_of (queue.system ∷ decimal queue.sums.jobs ∷ decimal queue.sums.bytes ∷ grade_text queue.sums.grade ∷ moment ∷ [])

-- the line of a system for which jobs wait, at local time
abbrev pub IsQueueLine : Zone → Queue → List ℕ → Type 0
IsQueueLine zone queue line =
    (moment : List ℕ) × IsMoment zone queue.sums.oldest moment × (line ≡ queue_text moment queue)

-- the report of what waits for each system
abbrev pub IsQueuesReport : Zone → List Queue → List ℕ → Type 0
IsQueuesReport zone = AreLines (IsQueueLine zone)

-- ---- systems

-- how the last call went, given its moment
abbrev pub call_text : List ℕ → Outcome → List ℕ
call_text moment Never = codes "never"
call_text moment Done = spaced (codes "done" ∷ moment ∷ [])
call_text moment (Failed why) = spaced (codes "failed" ∷ moment ∷ why ∷ [])

-- how the last call of a system went, and when
abbrev pub IsCallText : Zone → CallState → List ℕ → Type 0
IsCallText zone call text =
    (moment : List ℕ) × IsMoment zone call.last moment × (text ≡ call_text moment call.outcome)

-- the line of a system
abbrev pub IsSystemLine : Zone → SystemRow → List ℕ → Type 0
IsSystemLine zone row line =
    (state : List ℕ) × IsCallText zone row.call state
    × (line ≡ line_of (row.def.name ∷ decimal row.call.failures ∷ decimal row.call.wait ∷ state ∷ []))

-- the report of systems
abbrev pub IsStatusReport : Zone → List SystemRow → List ℕ → Type 0
IsStatusReport zone = AreLines (IsSystemLine zone)

-- ---- links

abbrev pub cost_text : Cost → List ℕ
cost_text (Value cost) = decimal cost
cost_text Dead = codes "dead"

abbrev pub link_text : Link → List ℕ
link_text link = line_of (link.to ∷ cost_text link.cost ∷ [])

abbrev pub alias_text : List ℕ → List ℕ
alias_text alias = line_of (codes "=" ∷ alias ∷ [])

-- texts with a comma and a space between two
abbrev pub after_comma : List ℕ → List ℕ
after_comma text = codes ", " ++ text

abbrev pub listed : List (List ℕ) → List ℕ
listed [] = []
listed (text ∷ texts) = text ++ flat_map after_comma texts

-- `RING 20 {unc, phs}`
abbrev pub network_text : Network → List ℕ
network_text network = line_of (network.name ∷ cost_text network.cost ∷ (codes "{" ++ (listed network.sites ++ codes "}")) ∷ [])

-- a line of the input that was skipped
abbrev pub skipped_text : ℕ → List ℕ
skipped_text line = line_of (codes "skipped" ∷ decimal line ∷ [])

-- what an entry says: the links of its host, the other names, the networks, and the lines of the skipped
-- statements
abbrev pub links_text : Entry → List ℕ
links_text entry = flat_map link_text entry.links ++ flat_map alias_text entry.aliases ++ flat_map network_text entry.networks ++ flat_map skipped_text entry.skipped

-- ---- routes (the form of pathalias's output)

-- `unc!phs!%s`
abbrev pub site_text : List ℕ → List ℕ
site_text site = site ++ codes "!"

abbrev pub path_text : List (List ℕ) → List ℕ
path_text sites = flat_map site_text sites ++ codes "%s"

abbrev pub cost_first : Bool → ℕ → List ℕ
cost_first true cost = decimal cost ++ 9 ∷ []
cost_first false cost = []

-- the host, a tab and its route; with costs, the cost and a tab come first
abbrev pub route_text : Bool → SiteRoute → List ℕ
route_text costs route = cost_first costs route.cost ++ (route.host ++ (9 ∷ (path_text route.sites ++ 10 ∷ [])))

-- ---- what is settled

-- a system and the numbers of jobs
abbrev pub settled_words : List ℕ → List ℕ → List ℕ
settled_words system numbers = spaced (system ∷ map decimal numbers)

abbrev pub settled_line : List ℕ → List ℕ → List ℕ
settled_line system numbers = settled_words system numbers ++ 10 ∷ []

-- The lines of the jobs that a system has: all their numbers, in their order, as many on a line as
-- one report of a call may have, and at least one line.
pub record AreSettledLines (system numbers report : List ℕ) : Type 0 where
  pub full : List (List ℕ)
  pub last : List ℕ
  pub all : numbers ≡ concat full ++ last
  pub full_have : All (λ line. length line ≡ most_done) full
  pub last_has : length last ≤ most_done
  pub some : 1 ≤ length full → 1 ≤ length last
  pub report_is : report ≡ flat_map (settled_line system) full ++ settled_line system last

-- the line of a job that the system refuses, and why
abbrev pub refused_line : List ℕ → Refused → List ℕ
refused_line system job = line_of (system ∷ codes "refused" ∷ decimal job.number ∷ refusal_name job.reason ∷ [])

-- the report of the jobs that a system has, and then of those that it refuses
abbrev pub IsSettleReport : List ℕ → List ℕ → List Refused → List ℕ → Type 0
IsSettleReport system numbers refused report =
    (lines : List ℕ) × AreSettledLines system numbers lines × (report ≡ lines ++ flat_map (refused_line system) refused)
