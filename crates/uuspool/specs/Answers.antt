-- What is printed for the answer to a question about a state, and the status. All of it is this
-- project's choice.
use Rattle.std.specs.Prelude.{◌≡◌, ℕ, Bool, Option, Some, None, List, [], ◌∷◌, ◌++◌, codes, find, map}
use Rattle.std.specs.List.{AllZip, flat_map}
use Rattle.std.specs.Str.{bytes_eq}
use Rattle.uu_times.specs.Printed.{sys_text}
use Rattle.uu_times.specs.declared.zone.Zone.{Zone}
use Rattle.uu_map.specs.Entry.{IsEntry}
use Rattle.uu_map.specs.declared.entry.Entry.{Entry}
use Rattle.uu_core.specs.State.{State, Job, head_of, job_at, has_system}
use Rattle.uu_core.specs.Definitions.{definitions_of, picked}
use Rattle.uu_core.specs.Due.{AreDue, all_due}
use Rattle.uu_core.specs.NextCalls.{AreNextCalls, AreNextPolls}
use Rattle.uu_core.specs.Queues.{AreQueues}
use Rattle.uu_core.specs.declared.due.Due.{Due}
use Rattle.uu_core.specs.declared.next_call.NextCall.{NextCall}
use Rattle.uu_core.specs.declared.next_call.NextPoll.{NextPoll}
use Rattle.uu_core.specs.declared.queue.Queue.{Queue}
use Rattle.uu_questions.specs.Listing.{listed_jobs}
use Rattle.uu_settings.specs.declared.settings.Settings.{Settings}
use Rattle.uu_report.specs.Reports.{IsJobLine, IsJobsReport, IsNextCallsReport, IsNextPollsReport, IsQueuesReport, IsStatusReport, due_text, line_of, links_text}
use Rattle.uu_routes.specs.Map.{host_for}
use Rattle.uu_request.specs.declared.request.Question.{Question}
use Rattle.uu_request.specs.declared.request.Question.TheVariants as question
use Rattle.uuspool.specs.Bundles.{IsAnswerText, IsBundleText, IsPacked}
use Rattle.uuspool.specs.Routes.{IsRouted}

abbrev pub no_job : List ℕ
no_job = codes "no job" ++ 10 ∷ []

abbrev pub no_entry : List ℕ
no_entry = codes "no entry" ++ 10 ∷ []

-- if the job is there, its line and then its bytes as they are
abbrev pub IsShown : Zone → Option Job → List ℕ → ℕ → Type 0
IsShown zone None output status = (output ≡ no_job) × (status ≡ 1)
IsShown zone (Some job) output status =
    (line : List ℕ) × IsJobLine zone (head_of job) line × (output ≡ line ++ job.bytes) × (status ≡ 0)

-- if there is a map entry, its links
abbrev pub IsEntryShown : Option Entry → List ℕ → ℕ → Type 0
IsEntryShown None output status = (output ≡ no_entry) × (status ≡ 1)
IsEntryShown (Some entry) output status = (output ≡ links_text entry) × (status ≡ 0)

abbrev pub is_of : List ℕ → Entry → Bool
is_of host entry = bytes_eq entry.host host

-- the entry of the host that a name means
abbrev pub entry_for : List Entry → List ℕ → Option Entry
entry_for entries name = find (is_of (host_for entries name)) entries

-- what is printed for the answer, and the status
abbrev pub IsAnswer : Settings → State → Question → List ℕ → ℕ → Type 0
IsAnswer settings s (question.Jobs filter) output status = IsJobsReport settings.zone (listed_jobs filter s) output × (status ≡ 0)
IsAnswer settings s (question.Job number) output status = IsShown settings.zone (job_at s number) output status
IsAnswer settings s (question.Due at) output status =
    (dues : List Due) × AreDue s.systems (map head_of s.jobs) at dues × (output ≡ flat_map due_text dues) × (status ≡ 0)
IsAnswer settings s (question.AllDue filter at) output status = (output ≡ flat_map due_text (all_due s.systems (listed_jobs filter s) at)) × (status ≡ 0)
IsAnswer settings s (question.NextCalls filter at) output status =
    (calls : List NextCall) × AreNextCalls settings.zone s.systems (listed_jobs filter s) at.second calls
    × IsNextCallsReport settings.zone at.second calls output × (status ≡ 0)
IsAnswer settings s (question.NextPolls system at) output status =
    (polls : List NextPoll) × AreNextPolls settings.zone (picked system s.systems) at.second polls
    × IsNextPollsReport settings.zone at.second polls output × (status ≡ 0)
IsAnswer settings s (question.Queues filter) output status =
    (queues : List Queue) × AreQueues (listed_jobs filter s) queues × IsQueuesReport settings.zone queues output × (status ≡ 0)
IsAnswer settings s question.Systems output status = IsStatusReport settings.zone s.systems output × (status ≡ 0)
IsAnswer settings s (question.Definitions name) output status = (output ≡ sys_text (definitions_of name s.systems)) × (status ≡ 0)
IsAnswer settings s (question.Entry name) output status =
    (entries : List Entry) × AllZip IsEntry (map (λ kept. kept.bytes) s.entries) entries × IsEntryShown (entry_for entries name) output status
IsAnswer settings s question.Name output status = (output ≡ line_of (settings.name ∷ [])) × (status ≡ 0)
IsAnswer settings s (question.Routes name costs) output status =
    (entries : List Entry) × AllZip IsEntry (map (λ kept. kept.bytes) s.entries) entries
    × IsRouted entries settings.name (map (λ row. row.def.name) s.systems) name costs output status
IsAnswer settings s (question.Pack it) output status = IsPacked (has_system s it.system) (IsBundleText settings.name it s) output status
IsAnswer settings s (question.Answer it) output status =
    IsPacked (has_system s it.packing.system) (IsAnswerText settings.name it s) output status
