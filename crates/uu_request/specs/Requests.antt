-- What a line asks of a spool, at a moment on the site's clock and with an input. (Sending and
-- requesting files, executing commands, killing and rejuvenating jobs: Taylor UUCP 1.07 manual, on
-- uucp, uux and uustat. `rmail` and its envelope: RFC 976. The subcommands and what else they ask
-- are this project's choice.)
use Rattle.std.specs.Prelude.{◌≡◌, ℕ, ◌≤◌, ◌⊎◌, Bool, false, ◌&&◌, nat_le, nat_lt, length, List, [], ◌∷◌, map, Option, Some, None, is_none, Result, Ok, Err, IsTrue, codes, ⊤, slice_range, if◌then◌else◌}
use Rattle.std.specs.List.{list_any}
use Rattle.uu_names.specs.Envelope.{envelope_of}
use Rattle.uu_names.specs.Text.{most_text}
use Rattle.uu_times.specs.SysFile.{sys_file_of}
use Rattle.uu_times.specs.declared.system.SysFile.{SysFile}
use Rattle.uu_times.specs.declared.fault.TimeFault.{TimeFault}
use Rattle.uu_times.specs.declared.moment.Moment.{Moment}
use Rattle.uu_map.specs.Split.{entries_of}
use Rattle.uu_map.specs.Text.{host_of}
use Rattle.uu_map.specs.declared.entry.EntryText.{EntryText}
use Rattle.uu_map.specs.declared.fault.MapFault.{MapFault}
use Rattle.uu_core.specs.declared.command.Command.{Command}
use Rattle.uu_core.specs.declared.command.Command.TheVariants as command
use Rattle.uu_core.specs.declared.custody.Key.{Key}
use Rattle.uu_core.specs.declared.job.By.{By}
use Rattle.uu_core.specs.declared.job.Kind.{Kind}
use Rattle.uu_core.specs.declared.job.Kind.TheVariants as kind
use Rattle.uu_core.specs.declared.job.NewJob.{NewJob}
use Rattle.uu_line.specs.Lines.{same_text, takes_input}
use Rattle.uu_line.specs.declared.line.CommandLine.{CommandLine}
use Rattle.uu_line.specs.declared.task.Task.{Task}
use Rattle.uu_line.specs.declared.task.Task.TheVariants as task
use Rattle.uu_request.specs.Marks.{handed_text, key_of}
use Rattle.uu_settings.specs.declared.settings.Settings.{Settings}
use Rattle.uu_request.specs.declared.fault.RequestFault.{RequestFault}
use Rattle.uu_request.specs.declared.fault.RequestFault.TheVariants.{Bundle, Input, Time, Memory}
use Rattle.uu_request.specs.declared.fault.WrongBundle.{WrongBundle}
use Rattle.uu_request.specs.declared.fault.WrongBundle.TheVariants.{NoBundle}
use Rattle.uu_request.specs.declared.request.Question.{Question}
use Rattle.uu_request.specs.declared.request.Question.TheVariants as question
use Rattle.uu_request.specs.declared.request.Request.{Request}
use Rattle.uu_request.specs.declared.request.Request.TheVariants as request
use Rattle.uu_core.specs.declared.subject.Subject.{Subject}
use Rattle.uu_core.specs.declared.subject.Subject.TheVariants as subject
use Rattle.uu_request.specs.Neighbours.{neighbour_of, wrong_neighbour}
use Rattle.uu_request.specs.Unpacking.{AsksOf, answer, pack, packing, settle, unpack}

-- ---- one command

-- a request of one command, whose reply is the line's
abbrev pub one : Command → Request
one command = request.Commands (record { commands = command ∷ []; subjects = subject.Line ∷ []; skipped = [] })

-- who changes a job: an administrator is a user whom the settings name
abbrev pub by_of : Settings → List ℕ → By
by_of settings user = record { user = user; admin = list_any (λ admin. same_text admin user) settings.admins.items }

-- a job is handed in, under a key if it is a neighbour's
abbrev pub queue_command : Option Key → NewJob → Command
queue_command None job = command.Queue job
queue_command (Some key) job = command.QueueOnce key job

-- mail: the system runs `rmail` with addresses
abbrev pub is_mail : Kind → Bool
is_mail (kind.Execute command arguments) = same_text command (codes "rmail") && nat_le 1 (length arguments)
is_mail other = false

-- Mail of this site may go by the map. What a neighbour hands on never does.
abbrev pub may_go_by_map : Option Key → Kind → Bool
may_go_by_map key kind = is_mail kind && is_none key

abbrev pub queue_job : Option Key → NewJob → Request
queue_job key job = if may_go_by_map key job.kind then request.Mailing job else one (queue_command key job)

-- a job is handed in now
abbrev pub queue : Option Key → List ℕ → Moment → List ℕ → ℕ → Kind → List ℕ → Request
queue key user at system grade kind bytes =
    queue_job key (record { system = system; grade = grade; user = user; kind = kind; bytes = bytes; at = at })

-- A message: the system runs `rmail` with its arguments, and the envelope as its input, with the
-- site's local date and time and the site's name.
abbrev pub mail : Settings → Option Key → List ℕ → Moment → List ℕ → ℕ → List (List ℕ) → List ℕ → Request
mail settings key user at system grade rests message =
    queue key user at system grade (kind.Execute (codes "rmail") rests) (envelope_of user at.local settings.name message)

-- ---- several commands

-- each system of a sys file is defined, in the order of the text
abbrev pub load : SysFile → Request
load file = request.Commands (record {
  commands = map command.Define file.systems;
  subjects = map (λ system. subject.Site system.name) file.systems;
  skipped = file.skipped;
})

abbrev pub load_request : Result SysFile TimeFault → Result Request RequestFault
load_request (Ok file) = Ok (load file)
load_request (Err fault) = Err (Time fault)

-- an entry's bytes in a map text
abbrev pub bytes_at : List ℕ → EntryText → List ℕ
bytes_at text place = slice_range text place.start place.end

-- a place within a text
abbrev pub IsPlace : List ℕ → EntryText → Type 0
IsPlace text place = (place.start ≤ place.end) × (place.end ≤ length text)

-- the reply to an entry names its host, or, if it has none, the line where it begins
abbrev pub entry_subject : Result (List ℕ) MapFault → ℕ → Subject
entry_subject (Ok host) line = subject.Site host
entry_subject (Err fault) line = subject.Entry line

abbrev pub subject_at : List ℕ → EntryText → Subject
subject_at text place = entry_subject (host_of (bytes_at text place)) place.line

-- each entry of a map text is handed in, in the order of the text
abbrev pub entries : List ℕ → Request
entries text = request.Commands (record {
  commands = map (λ place. command.Entry (bytes_at text place)) (entries_of text);
  subjects = map (subject_at text) (entries_of text);
  skipped = [];
})

-- ---- questions

-- what may go now: each system's first job, or all jobs of the system that is named
abbrev pub due_question : Option (List ℕ) → Moment → Question
due_question None at = question.Due at
due_question (Some system) at = question.AllDue (record { system = Some system; user = None }) at

-- ---- lines

-- what a task of this user asks for, with an input that isn't a bundle
abbrev pub task_request : Settings → Moment → List ℕ → List ℕ → Task → Result Request RequestFault
task_request settings at input user task.Load = load_request (sys_file_of input)
task_request settings at input user (task.Drop system) = Ok (one (command.Remove system))
task_request settings at input user (task.Send system source target grade once) =
    Ok (queue (key_of once (handed_text (codes "send") system user (source ∷ target ∷ []) input)) user at system grade (kind.Send source target) input)
task_request settings at input user (task.Request system source target grade once) =
    Ok (queue (key_of once (handed_text (codes "request") system user (source ∷ target ∷ []) [])) user at system grade (kind.Request source target) [])
task_request settings at input user (task.Execute grade once system command arguments) =
    Ok (queue (key_of once (handed_text (codes "exec") system user (command ∷ arguments) input)) user at system grade (kind.Execute command arguments) input)
task_request settings at input user (task.Mail grade once system rests) =
    Ok (mail settings (key_of once (handed_text (codes "mail") system user rests input)) user at system grade rests input)
task_request settings at input user (task.List filter) = Ok (request.Question (question.Jobs filter))
task_request settings at input user (task.Show job) = Ok (request.Question (question.Job job))
task_request settings at input user (task.Kill job) = Ok (one (command.Kill job (by_of settings user)))
task_request settings at input user (task.Regrade job grade) = Ok (one (command.Regrade job grade (by_of settings user)))
task_request settings at input user (task.Rejuvenate job) = Ok (one (command.Rejuvenate job at (by_of settings user)))
task_request settings at input user (task.Due system) = Ok (request.Question (due_question system at))
task_request settings at input user (task.When filter) = Ok (request.Question (question.NextCalls filter at))
task_request settings at input user (task.Polls system) = Ok (request.Question (question.NextPolls system at))
task_request settings at input user (task.Queues filter) = Ok (request.Question (question.Queues filter))
task_request settings at input user task.Status = Ok (request.Question question.Systems)
task_request settings at input user (task.Systems system) = Ok (request.Question (question.Definitions system))
task_request settings at input user (task.Failed system why) = Ok (one (command.Failed system at why))
task_request settings at input user (task.Done system jobs) = Ok (one (command.Done system at jobs))
task_request settings at input user (task.Forget system below) = Ok (one (command.Forget system below))
task_request settings at input user (task.Pack system grade spool after most no_jobs) = Ok (pack (packing system grade spool after most no_jobs))
task_request settings at input user (task.Unpack sender onward) = Err (Bundle NoBundle)
task_request settings at input user (task.Settle system spool) = Err (Bundle NoBundle)
task_request settings at input user (task.Answer sender onward grade spool after most no_jobs) = Err (Bundle NoBundle)
task_request settings at input user task.Map = Ok (entries input)
task_request settings at input user (task.Neighbours host) = Ok (request.Question (question.Entry host))
task_request settings at input user task.Name = Ok (request.Question question.Name)
task_request settings at input user (task.Routes host costs) = Ok (request.Question (question.Routes host costs))

-- what a task of this user asks for, with any input
abbrev pub TaskAsks : Settings → Moment → List ℕ → List ℕ → Task → Result Request RequestFault → Type 0
TaskAsks settings at input user (task.Unpack sender onward) asked =
    AsksOf sender settings.name input (unpack settings at sender onward) asked
TaskAsks settings at input user (task.Settle system spool) asked =
    AsksOf system settings.name input (settle system spool) asked
TaskAsks settings at input user (task.Answer sender onward grade spool after most no_jobs) asked =
    AsksOf sender settings.name input (answer settings at onward (packing sender grade spool after most no_jobs)) asked
TaskAsks settings at input user task asked = asked ≡ task_request settings at input user task

-- the line takes an input, and the input is too large
abbrev pub has_too_much : List ℕ → CommandLine → Bool
has_too_much input line = takes_input line.task && nat_lt most_text (length input)

-- what a task asks for, if the site exchanges bundles with its neighbour
abbrev pub TaskAsksOf : Settings → Moment → List ℕ → List ℕ → Task → Option WrongBundle → Result Request RequestFault → Type 0
TaskAsksOf settings at input user task None asked = TaskAsks settings at input user task asked
TaskAsksOf settings at input user task (Some why) asked = asked ≡ Err (Bundle why)

-- what a line asks for
abbrev pub LineAsks : Settings → Moment → List ℕ → CommandLine → Result Request RequestFault → Type 0
LineAsks settings at input line asked =
    (IsTrue (has_too_much input line) × (asked ≡ Err Input))
    ⊎ ((has_too_much input line ≡ false)
    × TaskAsksOf settings at input line.user line.task (wrong_neighbour settings (neighbour_of line.task)) asked)

-- the answer is the expected one, or out of memory
abbrev pub AnswersUnlessMemory : Result Request RequestFault → Result Request RequestFault → Type 0
AnswersUnlessMemory (Err Memory) expected = ⊤
AnswersUnlessMemory answer expected = answer ≡ expected

-- the answer has the property, or is out of memory
abbrev pub UnlessMemory : {V : Type 0} → (Result V RequestFault → Type 0) → Result V RequestFault → Type 0
UnlessMemory holds (Err Memory) = ⊤
UnlessMemory holds answer = holds answer
