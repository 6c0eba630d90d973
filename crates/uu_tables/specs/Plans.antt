-- What is known before a command, and what it will do.
use Rattle.std.specs.declared.alloc.Global.{Global}
use Rattle.std.specs.Prelude.{◌≡◌, ℕ, Bool, ◌==◌, ◌&&◌, List, [], map, filter, option_map, Some, Vec, ⊤}
use Rattle.std.specs.List.{list_any}
use Rattle.uu_core.specs.declared.command.Command.{Command}
use Rattle.uu_core.specs.declared.command.Command.TheVariants.{Define, Remove, Queue, QueueOnce, Kill, Regrade, Rejuvenate, Failed, Done, Release, Entry, Forget}
use Rattle.uu_core.specs.declared.job.JobHead.{JobHead}
use Rattle.uu_core.specs.declared.refusal.Refusal.{Refusal}
use Rattle.uu_core.specs.State.{State, same_text, has_system, system_at, is_waiting, job_at, head_of, link_of}
use Rattle.uu_core.specs.Verdict.{verdict, are_known, taken_of}
use Rattle.uu_core.specs.After.{after}
use Rattle.uu_core.specs.Laws.{AreFound}
use Rattle.uu_tables.specs.declared.facts.Facts.{Facts}
use Rattle.uu_tables.specs.declared.facts.Facts.TheVariants as fact
use Rattle.uu_tables.specs.declared.plan.Plan.{Plan}
use Rattle.uu_tables.specs.Tables.{tables_of}
use Rattle.uu_tables.specs.Changes.{applied}

-- the system of a successful call, and the named jobs in any order
abbrev pub AreDoneFacts : Facts → State → List ℕ → List ℕ → Type 0
AreDoneFacts facts s system jobs = (found : Vec JobHead Global) × (facts ≡ fact.Done (system_at s system) found) × AreFound jobs (map head_of s.jobs) found.items

-- a job of this number waits for the system
abbrev pub waits_under : State → List ℕ → ℕ → Bool
waits_under s system number = list_any (λ job. job.number == number && same_text job.system system) s.jobs

-- those of the named numbers under which a job waits for the system
abbrev pub AreReleaseFacts : Facts → State → List ℕ → List ℕ → Type 0
AreReleaseFacts facts s system jobs = (found : Vec ℕ Global) × (facts ≡ fact.Release found) × (found.items ≡ filter (waits_under s system) jobs)

-- they are the facts of the state that the command asks for
abbrev pub AreFacts : Facts → State → Command → Type 0
AreFacts facts s (Define def) = facts ≡ fact.Define (has_system s def.name)
AreFacts facts s (Remove name) = facts ≡ fact.Remove (has_system s name) (is_waiting s name)
AreFacts facts s (Queue job) = facts ≡ fact.Queue (has_system s job.system) s.next
AreFacts facts s (QueueOnce key job) = facts ≡ fact.QueueOnce (are_known s key job) s.next (link_of s key.from).below (taken_of s key)
AreFacts facts s (Kill job by) = facts ≡ fact.Job (option_map head_of (job_at s job))
AreFacts facts s (Regrade job grade by) = facts ≡ fact.Job (option_map head_of (job_at s job))
AreFacts facts s (Rejuvenate job at by) = facts ≡ fact.Job (option_map head_of (job_at s job))
AreFacts facts s (Failed system at why) = facts ≡ fact.Failed (system_at s system)
AreFacts facts s (Done system at jobs) = AreDoneFacts facts s system jobs
AreFacts facts s (Release system jobs) = AreReleaseFacts facts s system jobs
AreFacts facts s (Entry bytes) = facts ≡ fact.Entry
AreFacts facts s (Forget system below) = facts ≡ fact.Forget (has_system s system) (link_of s system).below

-- the facts are of the kind that the command asks for; what they say doesn't matter
abbrev pub IsFor : Facts → Command → Type 0
IsFor (fact.Define known) (Define def) = ⊤
IsFor (fact.Remove known waiting) (Remove name) = ⊤
IsFor (fact.Queue known next) (Queue job) = ⊤
IsFor (fact.QueueOnce known next below taken) (QueueOnce key job) = ⊤
IsFor (fact.Job job) (Kill number by) = ⊤
IsFor (fact.Job job) (Regrade number grade by) = ⊤
IsFor (fact.Job job) (Rejuvenate number at by) = ⊤
IsFor (fact.Failed row) (Failed system at why) = ⊤
IsFor (fact.Done row found) (Done system at jobs) = ⊤
IsFor (fact.Release found) (Release system jobs) = ⊤
IsFor fact.Entry (Entry bytes) = ⊤
IsFor (fact.Forget known before) (Forget system below) = ⊤
IsFor facts command = ⊥

-- the reply is the machine's, the changes make the tables of the state after the command, and a
-- refused command makes none
pub record IsPlan (s : State) (command : Command) (plan : Plan) : Type 0 where
  pub reply : plan.reply ≡ (after s command).1
  pub tables : applied plan.changes.items (tables_of s) ≡ tables_of (after s command).0
  pub refused : (refusal : Refusal) → verdict s command ≡ Some refusal → plan.changes.items ≡ []
