-- Lines that are served one after the other over one spool, and what the plain machine says about
-- them. All of it is this project's choice.
use Rattle.std.specs.Prelude.{◌≡◌, ◌⊎◌, ◌≤◌, ◌++◌, ◌∷◌, ℕ, Bool, true, false, List, [], length, take, drop, Option, Some, None, Result, Ok, Err, IfErr, OnErr, ⊤}
use Rattle.std.specs.List.{AllByRecursion}
use Rattle.sqlite.specs.Store.{Ghosts}
use Rattle.sqlite.specs.State.{HasCleanDisk}
use Rattle.uu_core.specs.State.{State, IsWellFormed}
use Rattle.uu_core.specs.Run.{state_after, replies_to}
use Rattle.uu_core.specs.declared.command.Command.{Command}
use Rattle.uu_core.specs.declared.command.Reply.{Reply}
use Rattle.uu_schema.specs.declared.fault.StoreFault.{StoreFault}
use Rattle.uu_schema.specs.declared.fault.StoreFault.TheVariants as store
use Rattle.uu_store.specs.Runs.{Ran}
use Rattle.uu_store.specs.Spool as spool
use Rattle.uu_store.specs.declared.spool.Spool.{Spool}
use Rattle.uu_frame.specs.Writing.{IsCut}
use Rattle.uu_settings.specs.declared.settings.Settings.{Settings}
use Rattle.uu_request.specs.declared.request.Request.{Request}
use Rattle.uuspool.specs.Served.{AreChosen, AreCommandsIn, AreCommandsOf, WordsAsk, EndsAs, IsOutput, IsServed, IsFaultOf, answered_text, in_hand}
use Rattle.uuspool.specs.declared.fault.Fault.{Fault}
use Rattle.uuspool.specs.declared.fault.Fault.TheVariants as fault

-- a line: its words, the second if they give none, and its input; and its result: what was printed,
-- and its status or its fault
pub record ServedLine : Type 0 where
  pub words : List (List ℕ)
  pub now : ℕ
  pub input : List ℕ
  pub output : List ℕ
  pub result : Result ℕ Fault

-- the line was served over a spool, as `serve` ends
pub record Serves {S : Type 0} {g : Ghosts S} (settings : Settings) (line : ServedLine) (old new : Spool S g) : Type 0 where
  pub ends : EndsAs line.result
      ((request : Request) × WordsAsk settings line.words line.now line.input (Ok request) × IsServed settings request old new (λ output. line.output ≡ output) line.result)
      ((new ≡ old) × (line.output ≡ []))
  pub told : IfErr line.result (IsFaultOf settings line.words line.now line.input)

-- The next line is served. It is left if the spool gave a fault, and if memory or the output
-- failed, because the spool may have failed before that.
abbrev pub goes_on : Result ℕ Fault → Bool
goes_on (Ok status) = true
goes_on (Err (fault.Store why)) = false
goes_on (Err fault.Write) = false
goes_on (Err fault.Memory) = false
goes_on (Err _) = true

-- the fault of a line that is left
abbrev pub left_fault : Fault
left_fault = fault.Store store.Failed

-- lines that are left: only that the spool failed was printed for them
abbrev pub AreLeft : List ServedLine → Type 0
AreLeft [] = ⊤
AreLeft (line ∷ lines) = (line.output ≡ []) × (line.result ≡ Err left_fault) × AreLeft lines

-- The lines were served one after the other. After a line that goes on the next is served.
-- Otherwise the rest is left and touches nothing.
abbrev pub AreServed : {S : Type 0} {g : Ghosts S} → Settings → List ServedLine → Spool S g → Spool S g → Type 0
AreServed settings [] old new = new ≡ old
AreServed {S} {g} settings (line ∷ lines) old new =
    (mid : Spool S g) × Serves settings line old mid
    × (goes_on line.result ≡ true → AreServed settings lines mid new)
    × (goes_on line.result ≡ false → AreLeft lines × (new ≡ mid))

-- after each of the lines the next is served
abbrev pub AllGoOn : List ServedLine → Type 0
AllGoOn = AllByRecursion (λ line. goes_on line.result ≡ true)

-- ---- what the plain machine says

-- what a line asked: its request, and the request's commands
pub record ServedRequest : Type 0 where
  pub request : Request
  pub commands : List Command

-- the commands of the requests of lines
abbrev pub commands_asked : List (Option ServedRequest) → List Command
commands_asked [] = []
commands_asked (None ∷ asked) = commands_asked asked
commands_asked (Some it ∷ asked) = it.commands ++ commands_asked asked

-- How many commands of the last request of these lines are carried out as one: those may be in hand
-- if a stop comes. It is this number if they have no request.
abbrev pub last_in_hand : ℕ → List (Option ServedRequest) → ℕ
last_in_hand none [] = none
last_in_hand none (None ∷ asked) = last_in_hand none asked
last_in_hand none (Some it ∷ asked) = last_in_hand (in_hand it.request) asked

abbrev pub in_hand_of : List (Option ServedRequest) → ℕ
in_hand_of asked = last_in_hand 1 asked

-- Each line has an entry. After a line that doesn't go on, no line came to a request. So the
-- commands in hand are those of the last request, and none was served after it.
abbrev pub NoneOnceLeft : List ServedLine → List (Option ServedRequest) → Type 0
NoneOnceLeft [] [] = ⊤
NoneOnceLeft (line ∷ lines) (it ∷ asked) = (goes_on line.result ≡ false → AllByRecursion (λ (later : Option ServedRequest). later ≡ None) asked) × NoneOnceLeft lines asked
NoneOnceLeft [] (it ∷ asked) = ⊥
NoneOnceLeft (line ∷ lines) [] = ⊥

-- The output of a request in a state, depending on how its line ends. With a status, it is the
-- request's output. If the store gave a fault, it is that of the commands that were answered. If
-- either could not be written, it is less of it. If memory ran out, it is empty.
abbrev pub IsTold : Settings → State → Request → List Reply → List ℕ → Result ℕ Fault → Type 0
IsTold settings s request replies output (Ok status) = IsOutput settings s request output status
IsTold settings s request replies output (Err (fault.Store why)) = output ≡ answered_text request replies
IsTold settings s request replies output (Err fault.Write) =
    ((whole : List ℕ) × (status : ℕ) × IsOutput settings s request whole status × IsCut whole (λ front. output ≡ front))
    ⊎ IsCut (answered_text request replies) (λ front. output ≡ front)
IsTold settings s request replies output (Err fault.Memory) = output ≡ []
IsTold settings s request replies output (Err _) = ⊥

-- The line has this request, its commands are those of the request in this state, which is one that
-- a spool keeps, and its output is what the machine says in this state. If it didn't end with a
-- status, it is the last line that was served, and the replies that are left are the machine's, to
-- its commands.
pub record IsToldAs (settings : Settings) (s : State) (replies : List Reply) (line : ServedLine) (it : ServedRequest) : Type 0 where
  pub good : IsWellFormed s
  pub asks : WordsAsk settings line.words line.now line.input (Ok it.request)
  pub are : AreCommandsOf it.request it.commands
  pub chosen : AreChosen it.commands (AreCommandsIn settings s it.request) line.result
  pub every : goes_on line.result ≡ true → length it.commands ≤ length replies
  pub told : IsTold settings s it.request replies line.output line.result
  pub answers : OnErr line.result (replies ≡ replies_to s (take (length replies) it.commands))

-- the line has no request: nothing was printed, and its fault is that of its words, its moment or
-- its input, or it was left
pub record IsUnasked (settings : Settings) (line : ServedLine) : Type 0 where
  pub nothing : line.output ≡ []
  pub why : Fault
  pub is : line.result ≡ Err why
  pub told : IsFaultOf settings line.words line.now line.input why ⊎ (why ≡ left_fault)

-- What the plain machine says about the lines from this state on, each in the state that the
-- commands before it left. The replies are those to the lines' commands, line by line.
abbrev pub AreTold : Settings → State → List Reply → List ServedLine → List (Option ServedRequest) → Type 0
AreTold settings s replies [] [] = replies ≡ []
AreTold settings s replies (line ∷ lines) (None ∷ asked) = IsUnasked settings line × AreTold settings s replies lines asked
AreTold settings s replies (line ∷ lines) (Some it ∷ asked) =
    IsToldAs settings s replies line it
    × AreTold settings (state_after s it.commands) (drop (length it.commands) replies) lines asked
AreTold settings s replies [] (it ∷ asked) = ⊥
AreTold settings s replies (line ∷ lines) [] = ⊥

-- The lines are one run of the commands of their requests: the output of each is what the machine
-- says, and a stop leaves what the run says. If the store stopped none of them, every command was
-- answered, and the spool shows the machine's state. This is so if each line goes on.
pub record IsOneRun {S : Type 0} {g : Ghosts S} (settings : Settings) (lines : List ServedLine) (old new : Spool S g) : Type 0 where
  pub asked : List (Option ServedRequest)
  pub left : NoneOnceLeft lines asked
  pub replies : List Reply
  pub stopped : Option StoreFault
  pub ran : Ran (in_hand_of asked) (commands_asked asked) old new replies stopped
  pub told : HasCleanDisk (spool.disk new) → (s : State) → spool.Shows old s → AreTold settings s replies lines asked
  pub every : stopped ≡ None → length replies ≡ length (commands_asked asked)
  pub shows : stopped ≡ None → HasCleanDisk (spool.disk new) → (s : State) → spool.Shows old s → spool.Shows new (state_after s (commands_asked asked))
  pub went_on : AllGoOn lines → stopped ≡ None
