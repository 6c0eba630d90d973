-- What a command may have in it. Its types ensure it.
use Rattle.std.specs.Prelude.{◌<◌, ◌≤◌, IsTrue, All, ⊤}
use Rattle.uu_names.specs.Grade.{grade_count}
use Rattle.uu_names.specs.Name.{is_site_name, is_word}
use Rattle.uu_core.specs.declared.command.Command.{Command}
use Rattle.uu_core.specs.declared.command.Command.TheVariants.{Define, Remove, Queue, QueueOnce, Kill, Regrade, Rejuvenate, Failed, Done, Release, Entry, Forget}
use Rattle.uu_core.specs.declared.custody.Key.{Key}
use Rattle.uu_core.specs.declared.job.Kind.{Kind}
use Rattle.uu_core.specs.declared.job.Kind.TheVariants.{Send, Request, Execute}
use Rattle.uu_core.specs.declared.job.NewJob.{NewJob}
use Rattle.uu_core.specs.Marks.{marks_end}
use Rattle.uu_core.specs.State.{IsDefinition, last_second, numbers_end}

-- its texts are words
abbrev pub HasWords : Kind → Type 0
HasWords (Send source target) = IsTrue (is_word source) × IsTrue (is_word target)
HasWords (Request source target) = IsTrue (is_word source) × IsTrue (is_word target)
HasWords (Execute command arguments) = IsTrue (is_word command) × All (λ word. IsTrue (is_word word)) arguments

pub record IsNewJob (job : NewJob) : Type 0 where
  pub system : IsTrue (is_site_name job.system)
  pub grade : job.grade < grade_count
  pub user : IsTrue (is_word job.user)
  pub kind : HasWords job.kind
  pub at : job.at.second ≤ last_second

pub record IsKey (key : Key) : Type 0 where
  pub from : IsTrue (is_site_name key.from)
  pub number : key.number ≤ numbers_end
  pub mark : key.mark < marks_end

-- its names, words, grades, moments and numbers are within their limits
abbrev pub IsCommand : Command → Type 0
IsCommand (Define def) = IsDefinition def
IsCommand (Remove name) = ⊤
IsCommand (Queue job) = IsNewJob job
IsCommand (QueueOnce key job) = IsKey key × IsNewJob job
IsCommand (Kill job by) = ⊤
IsCommand (Regrade job grade by) = grade < grade_count
IsCommand (Rejuvenate job at by) = at.second ≤ last_second
IsCommand (Failed system at why) = (at.second ≤ last_second) × IsTrue (is_word why)
IsCommand (Done system at jobs) = at.second ≤ last_second
IsCommand (Release system jobs) = ⊤
IsCommand (Entry bytes) = ⊤
IsCommand (Forget system below) = below ≤ numbers_end
