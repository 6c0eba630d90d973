-- What a command line asks of a spool, what the program prints, and its status. All of it is
-- this project's choice.
use Rattle.std.specs.Prelude.{◌≡◌, ◌≢◌, ◌↔◌, ◌⊎◌, ℕ, pos, Bool, true, false, IsTrue, Option, Some, None, MatchOption, List, [], ◌∷◌, Result, Ok, Err, IfErr, All, Contains, ⊤, unwrap_or, length, ◌+◌}
use Rattle.sqlite.specs.Store.{Ghosts}
use Rattle.sqlite.specs.State.{HasCleanDisk}
use Rattle.uu_times.specs.Moment.{IsPast, IsDateTimeAt, local_second, week_minute}
use Rattle.uu_times.specs.declared.moment.Moment.{Moment}
use Rattle.uu_times.specs.declared.fault.TimeFault.TheVariants.{MomentRange}
use Rattle.uu_core.specs.State.{State}
use Rattle.uu_core.specs.Run.{state_after, replies_to}
use Rattle.uu_core.specs.TakeIns.{commands_in}
use Rattle.uu_core.specs.declared.command.Command.{Command}
use Rattle.uu_core.specs.declared.command.Command.TheVariants.{Queue}
use Rattle.uu_core.specs.declared.command.Reply.{Reply}
use Rattle.uu_schema.specs.declared.fault.StoreFault.{StoreFault}
use Rattle.uu_schema.specs.declared.fault.StoreFault.TheVariants as store
use Rattle.uu_schema.specs.declared.fault.StoreKind.{StoreKind}
use Rattle.uu_store.specs.Runs.{Ran}
use Rattle.uu_store.specs.Spool as spool
use Rattle.uu_store.specs.declared.spool.Spool.{Spool}
use Rattle.uu_store.specs.declared.run.RunEnd.{RunEnd}
use Rattle.uu_frame.specs.Writing.{IsCut}
use Rattle.uu_line.specs.Lines.{AreRefused, MeansLine}
use Rattle.uu_line.specs.declared.line.CommandLine.{CommandLine}
use Rattle.uu_settings.specs.declared.settings.Settings.{Settings}
use Rattle.uu_core.specs.declared.subject.Subject.{Subject}
use Rattle.uu_core.specs.declared.subject.Subject.TheVariants.{Line}
use Rattle.uu_report.specs.Outputs.{answers_text, output_text, replies_status}
use Rattle.uu_request.specs.Requests.{LineAsks}
use Rattle.uu_request.specs.declared.fault.RequestFault.{RequestFault}
use Rattle.uu_request.specs.declared.fault.RequestFault.TheVariants as asking
use Rattle.uu_request.specs.declared.request.Request.{Request}
use Rattle.uu_request.specs.declared.request.Request.TheVariants.{Commands, Question, Mailing, Settling, Unpacking}
use Rattle.uuspool.specs.Answers.{IsAnswer}
use Rattle.uuspool.specs.Bundles.{IsSettleOutput, numbers_told, release_of, settled_by}
use Rattle.uuspool.specs.Lines.{IsAnswerTo}
use Rattle.uuspool.specs.Mail.{IsWay, mail_by}
use Rattle.uuspool.specs.declared.fault.Fault.{Fault}
use Rattle.uuspool.specs.declared.fault.Fault.TheVariants as fault

-- ---- from words to a request

-- the second of a line, or `now` if it gives none
abbrev pub second_of : CommandLine → ℕ → ℕ
second_of line now = unwrap_or line.at now

-- the moment of a second on the site's clock
pub record IsMomentOf (settings : Settings) (instant : ℕ) (at : Moment) : Type 0 where
  pub second : at.second ≡ instant
  pub week : pos at.week ≡ week_minute (local_second settings.zone instant)
  pub local : IsDateTimeAt at.local (local_second settings.zone instant)

-- what the words ask, with this input, at their second or, if they give none, at the second `now`;
-- or why they ask nothing
pub record WordsAsk (settings : Settings) (words : List (List ℕ)) (now : ℕ) (input : List ℕ) (asked : Result Request RequestFault) : Type 0 where
  pub line : CommandLine
  pub means : MeansLine words line
  pub at : Moment
  pub moment : IsMomentOf settings (second_of line now) at
  pub request : LineAsks settings at input line asked

-- ---- from a request to its output

-- The commands of a request in a state. A question has none. Mail is queued by the way that it has
-- then. Settling a bundle removes the jobs that are settled then. Taking a bundle is the commands of
-- the bundle.
abbrev pub AreCommandsIn : Settings → State → Request → List Command → Type 0
AreCommandsIn settings s (Commands list) commands = commands ≡ list.commands
AreCommandsIn settings s (Question question) commands = commands ≡ []
AreCommandsIn settings s (Mailing mail) commands = (way : List (List ℕ)) × IsWay settings.name s mail way × (commands ≡ Queue (mail_by way mail) ∷ [])
AreCommandsIn settings s (Settling it) commands = commands ≡ release_of it.system (settled_by settings.name it s)
AreCommandsIn settings s (Unpacking it) commands = commands ≡ commands_in it.bundle

-- How many of its commands are carried out as one, whole or not at all: all those of a bundle that
-- is taken, and one of any other request. If a stop comes, so many may be in hand.
abbrev pub in_hand : Request → ℕ
in_hand (Commands list) = 1
in_hand (Question question) = 1
in_hand (Mailing mail) = 1
in_hand (Settling it) = 1
in_hand (Unpacking it) = length it.bundle.jobs + 1

-- What is known about a request's commands in any state: mail is queued by some way, and settling a
-- bundle removes jobs that the bundle has, each by one command or none.
abbrev pub AreCommandsOf : Request → List Command → Type 0
AreCommandsOf (Commands list) commands = commands ≡ list.commands
AreCommandsOf (Question question) commands = commands ≡ []
AreCommandsOf (Mailing mail) commands = (commands ≡ []) ⊎ ((way : List (List ℕ)) × (commands ≡ Queue (mail_by way mail) ∷ []))
AreCommandsOf (Settling it) commands = (numbers : List ℕ) × (commands ≡ release_of it.system numbers) × All (Contains (numbers_told it.has)) numbers
AreCommandsOf (Unpacking it) commands = commands ≡ commands_in it.bundle

-- They are those in this state. If the request ended with a fault, there may be none, because it
-- may have come before them.
abbrev pub AreChosen : List Command → (List Command → Type 0) → Result ℕ Fault → Type 0
AreChosen commands Are (Ok status) = Are commands
AreChosen commands Are (Err why) = Are commands ⊎ (commands ≡ [])

-- The output and the status of a request in a state: for commands, for mail, and for a bundle that
-- is taken, those of the machine's replies; for settling a bundle, its report.
abbrev pub IsOutput : Settings → State → Request → List ℕ → ℕ → Type 0
IsOutput settings s (Commands list) output status =
    (output ≡ output_text list.subjects list.skipped (replies_to s list.commands)) × (status ≡ replies_status (replies_to s list.commands))
IsOutput settings s (Question question) output status = IsAnswer settings s question output status
IsOutput settings s (Mailing mail) output status =
    (commands : List Command) × AreCommandsIn settings s (Mailing mail) commands
    × (output ≡ output_text (Line ∷ []) [] (replies_to s commands)) × (status ≡ replies_status (replies_to s commands))
IsOutput settings s (Settling it) output status = IsSettleOutput settings.name it s output × (status ≡ 0)
IsOutput settings s (Unpacking it) output status =
    (output ≡ output_text it.subjects it.skipped (replies_to s (commands_in it.bundle))) × (status ≡ replies_status (replies_to s (commands_in it.bundle)))

-- The output of the commands that were answered, if others weren't. For a bundle, which is answered
-- whole or not at all, it is empty.
abbrev pub answered_text : Request → List Reply → List ℕ
answered_text (Commands list) replies = answers_text list.subjects replies
answered_text (Question question) replies = []
answered_text (Mailing mail) replies = answers_text (Line ∷ []) replies
answered_text (Settling it) replies = []
answered_text (Unpacking it) replies = []

-- the output and the status of commands, of mail, and of a bundle that is taken, are those of the
-- replies; the answer to a question isn't a reply, nor is the report of settling a bundle
abbrev pub IsOfReplies : Request → List Reply → List ℕ → ℕ → Type 0
IsOfReplies (Commands list) replies output status = (output ≡ output_text list.subjects list.skipped replies) × (status ≡ replies_status replies)
IsOfReplies (Question question) replies output status = ⊤
IsOfReplies (Mailing mail) replies output status = (output ≡ output_text (Line ∷ []) [] replies) × (status ≡ replies_status replies)
IsOfReplies (Settling it) replies output status = ⊤
IsOfReplies (Unpacking it) replies output status = (output ≡ output_text it.subjects it.skipped replies) × (status ≡ replies_status replies)

-- How a request ends if all of it was answered. It ends with the status of an output that was
-- written. Or the output could not be written, and less of it was. Or memory ran out, and nothing
-- was written.
abbrev pub IsPrinted : (List ℕ → ℕ → Type 0) → (List ℕ → Type 0) → Result ℕ Fault → Type 0
IsPrinted Is written (Ok status) = (output : List ℕ) × Is output status × written output
IsPrinted Is written (Err fault.Write) = (output : List ℕ) × (status : ℕ) × Is output status × IsCut output written
IsPrinted Is written (Err fault.Memory) = written []
IsPrinted Is written (Err _) = ⊥

-- How a request ends that the store broke off: with the store's fault, once this output was
-- written. Another fault hides that one only if less was written: out of memory only if nothing
-- was.
abbrev pub IsBrokenOff : StoreFault → List ℕ → (List ℕ → Type 0) → Result ℕ Fault → Type 0
IsBrokenOff why output written (Ok status) = ⊥
IsBrokenOff why output written (Err (fault.Store told)) = (told ≡ why) × written output
IsBrokenOff why output written (Err fault.Write) = IsCut output written
IsBrokenOff why output written (Err fault.Memory) = (output ≢ []) × written []
IsBrokenOff why output written (Err _) = ⊥

-- what is printed at the end of a run
abbrev pub IsPrintedEnd : List Subject → List ℕ → RunEnd → (List ℕ → Type 0) → Result ℕ Fault → Type 0
IsPrintedEnd subjects skipped end written result =
    MatchOption end.stopped
    (IsPrinted (λ output status. (output ≡ output_text subjects skipped end.replies.items) × (status ≡ replies_status end.replies.items)) written result)
    (λ why. IsBrokenOff why (answers_text subjects end.replies.items) written result)

-- the faults that come before any call of the spool
abbrev pub IsEarly : Fault → Type 0
IsEarly (fault.Store why) = ⊥
IsEarly fault.Write = ⊥
IsEarly _ = ⊤

-- the faults of a spool that is open
abbrev pub IsOfCall : StoreFault → Type 0
IsOfCall store.Memory = ⊤
IsOfCall (store.Store kind) = ⊤
IsOfCall store.Failed = ⊤
IsOfCall store.Foreign = ⊥
IsOfCall store.Newer = ⊥

-- the faults that come with the calls of the spool
abbrev pub IsLate : Fault → Type 0
IsLate (fault.Store why) = IsOfCall why
IsLate fault.Write = ⊤
IsLate fault.Memory = ⊤
IsLate _ = ⊥

-- How a request ends, depending on whether the spool had failed before and has failed afterwards:
-- `Failed` comes exactly if the spool had failed before.
abbrev pub Marks : Bool → Bool → Option StoreFault → Type 0
Marks before afterwards None = (before ≡ false) × (afterwards ≡ false)
Marks before afterwards (Some store.Memory) = (before ≡ false) × (afterwards ≡ false)
Marks before afterwards (Some (store.Store kind)) = before ≡ false
Marks before afterwards (Some store.Failed) = (before ≡ true) × (afterwards ≡ true)
Marks before afterwards (Some store.Foreign) = ⊥
Marks before afterwards (Some store.Newer) = ⊥

-- On a clean disk, a fault of the store marks a spool that showed a state.
abbrev pub IsNoted : {S : Type 0} {g : Ghosts S} → Spool S g → Spool S g → Option StoreFault → Type 0
IsNoted old new stopped =
    HasCleanDisk (spool.disk new) → (s : State) → spool.Shows old s → (kind : StoreKind) → stopped ≡ Some (store.Store kind) → spool.has_failed new ≡ true

-- Nothing stopped the commands exactly if each was answered, by a spool that hadn't failed. A
-- question has no reply. When mail is queued or a bundle is settled, a question before the command
-- may be stopped, too.
abbrev pub IsEvery : Bool → Request → List Command → List Reply → Option StoreFault → Type 0
IsEvery failed (Commands list) commands replies stopped = (stopped ≡ None) ↔ ((failed ≡ false) × (length replies ≡ length commands))
IsEvery failed (Question question) commands replies stopped = replies ≡ []
IsEvery failed (Mailing mail) commands replies stopped = stopped ≡ None → length replies ≡ length commands
IsEvery failed (Settling it) commands replies stopped = stopped ≡ None → length replies ≡ length commands
IsEvery failed (Unpacking it) commands replies stopped = (stopped ≡ None) ↔ ((failed ≡ false) × (length replies ≡ length commands))

-- A request was served: it was a run of its commands. So the replies are the machine's, the spool
-- shows the machine's state after the commands that were answered, and a stop leaves that. If the
-- store gave a fault, a stop may leave the state after those that were in hand, too. If nothing
-- stopped it, all were answered, and their output was `written`, or less of it if it could not be.
-- If the store gave a fault, the output of the commands that were answered was written, or less of
-- it, and only then another fault hides the store's. If the spool had failed before, that is
-- reported, nothing is printed, and it is left as it was.
pub record IsServed {S : Type 0} {g : Ghosts S} (settings : Settings) (request : Request) (old new : Spool S g) (written : List ℕ → Type 0) (result : Result ℕ Fault) : Type 0 where
  pub commands : List Command
  pub replies : List Reply
  pub stopped : Option StoreFault
  pub are : AreCommandsOf request commands
  pub chosen : HasCleanDisk (spool.disk new) → (s : State) → spool.Shows old s → AreChosen commands (AreCommandsIn settings s request) result
  pub ran : Ran (in_hand request) commands old new replies stopped
  pub every : IsEvery (spool.has_failed old) request commands replies stopped
  pub printed : stopped ≡ None → IsPrinted (λ output status.
      IsOfReplies request replies output status
      × (HasCleanDisk (spool.disk new) → (s : State) → spool.Shows old s → IsOutput settings s request output status)) written result
  pub shows : stopped ≡ None → HasCleanDisk (spool.disk new) → (s : State) → spool.Shows old s → spool.Shows new (state_after s commands)
  pub broken_off : (why : StoreFault) → stopped ≡ Some why → IsBrokenOff why (answered_text request replies) written result
  pub late : IfErr result IsLate
  pub marked : Marks (spool.has_failed old) (spool.has_failed new) stopped
  pub noted : IsNoted old new stopped
  pub failed : IsTrue (spool.has_failed old) → (result ≡ Err (fault.Store store.Failed)) × written [] × (new ≡ old)

-- How a line ends: its request was served, or nothing was changed, and nothing was printed.
abbrev pub EndsAs : Result ℕ Fault → Type 0 → Type 0 → Type 0
EndsAs (Ok status) served unchanged = served
EndsAs (Err (fault.Store why)) served unchanged = served
EndsAs (Err fault.Write) served unchanged = served
EndsAs (Err fault.Memory) served unchanged = served ⊎ unchanged
EndsAs (Err _) served unchanged = unchanged

-- ---- which fault ends a line

-- Those of the words come first, then those of names, then different systems, then the moment, then
-- the size of the input, then the sys file's or the bundle's, and then those of the spool. Out of
-- memory may come instead of any.
abbrev pub IsFaultOf : Settings → List (List ℕ) → ℕ → List ℕ → Fault → Type 0
IsFaultOf settings words now input (fault.Words text help) = AreRefused words help
IsFaultOf settings words now input (fault.Name why) = IsAnswerTo words (Err (fault.Name why))
IsFaultOf settings words now input fault.TwoSystems = IsAnswerTo words (Err fault.TwoSystems)
IsFaultOf settings words now input (fault.Time why) =
    ((why ≡ MomentRange) × ((line : CommandLine) × MeansLine words line × IsPast (second_of line now)))
    ⊎ WordsAsk settings words now input (Err (asking.Time why))
IsFaultOf settings words now input fault.Input = WordsAsk settings words now input (Err asking.Input)
IsFaultOf settings words now input (fault.Bundle why) = WordsAsk settings words now input (Err (asking.Bundle why))
IsFaultOf settings words now input fault.Memory = ⊤
IsFaultOf settings words now input (fault.Settings why) = ⊥
IsFaultOf settings words now input fault.Read = ⊥
IsFaultOf settings words now input (fault.Store why) = IsOfCall why × ((request : Request) × WordsAsk settings words now input (Ok request))
IsFaultOf settings words now input fault.Write = (request : Request) × WordsAsk settings words now input (Ok request)

-- The faults of a line at its moment: its input is too large, or isn't a sys file or a bundle, or
-- its request was asked of the spool. Out of memory may come instead of any.
abbrev pub IsFaultOfLine : Settings → CommandLine → Moment → List ℕ → Fault → Type 0
IsFaultOfLine settings line at input (fault.Time why) = LineAsks settings at input line (Err (asking.Time why))
IsFaultOfLine settings line at input fault.Input = LineAsks settings at input line (Err asking.Input)
IsFaultOfLine settings line at input (fault.Bundle why) = LineAsks settings at input line (Err (asking.Bundle why))
IsFaultOfLine settings line at input (fault.Store why) = IsOfCall why × ((request : Request) × LineAsks settings at input line (Ok request))
IsFaultOfLine settings line at input fault.Write = (request : Request) × LineAsks settings at input line (Ok request)
IsFaultOfLine settings line at input fault.Memory = ⊤
IsFaultOfLine settings line at input _ = ⊥
