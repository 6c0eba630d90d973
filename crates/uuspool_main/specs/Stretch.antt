-- What a run of the program is given and answers, and how it leaves the spool's files.
use Rattle.std.specs.Prelude.{◌≡◌, ℕ, List, [], length, Option, None, Ok, Err, Result, IfErr, IsTrue, ⊤}
use Rattle.std.specs.List.{AllByRecursion}
use Rattle.sqlite_disk.specs.declared.Disk as device
use Rattle.sqlite_wal.specs.Recovery.{Image}
use Rattle.sqlite_store.specs.declared.store.FileStore.{FileStore}
use Rattle.sqlite_store.specs.FileStore.{view}
use Rattle.sqlite.specs.Files.{over_files}
use Rattle.sqlite.specs.State.{HasCleanDisk}
use Rattle.sqlite.specs.Store.{Ghosts}
use Rattle.sqlite.specs.View.{IsClean}
use Rattle.uu_core.specs.declared.command.Command.{Command}
use Rattle.uu_core.specs.declared.command.Reply.{Reply}
use Rattle.uu_core.specs.declared.custody.Key.{Key}
use Rattle.uu_core.specs.declared.job.NewJob.{NewJob}
use Rattle.uu_core.specs.State.{State}
use Rattle.uu_schema.specs.declared.fault.StoreFault.{StoreFault}
use Rattle.uu_store.specs.Acknowledged.{IsAcknowledged, IsAcknowledgedUnder, ShowsJob, ShowsUnder}
use Rattle.uu_store.specs.Runs.{Ran}
use Rattle.uu_store.specs.declared.spool.Spool.{Spool}
use Rattle.uu_store.specs.Closing.{IsClosed}
use Rattle.uu_store.specs.Exchanges.{Exchange, exchange_of}
use Rattle.uu_store.specs.Files.{IsStretch, IsClosedStretch}
use Rattle.uu_store.specs.Spool.{Shows, connection_of, disk}
use Rattle.uu_store.specs.Openings.{ImageKeeps, Started}
use Rattle.uu_store.specs.Stretches.{IsLetGo, ShowsAfter}
use Rattle.uu_times.specs.declared.moment.Moment.{Moment}
use Rattle.uu_line.specs.Lines.{MeansLine}
use Rattle.uu_line.specs.declared.line.CommandLine.{CommandLine}
use Rattle.uu_settings.specs.declared.settings.Settings.{Settings}
use Rattle.uu_request.specs.Requests.{LineAsks}
use Rattle.uu_request.specs.declared.request.Request.{Request}
use Rattle.uuspool.specs.Served.{WordsAsk, EndsAs, IsFaultOf, IsFaultOfLine, IsMomentOf, IsServed, in_hand, second_of}
use Rattle.uuspool.specs.Batch.{EndsWith, IsRequestLine, most_requests}
use Rattle.uuspool.specs.ServedLines.{AreServed, IsOneRun, ServedLine, commands_asked, in_hand_of}
use Rattle.uuspool.specs.declared.fault.Fault.{Fault}
use Rattle.uuspool.specs.declared.fault.Fault.TheVariants as fault
use Rattle.uuspool_main.specs.declared.stretch.Invocation.{Invocation}
use Rattle.uuspool_main.specs.declared.stretch.Invocation.TheVariants as invocation
use Rattle.uuspool_main.specs.declared.stretch.Rest.{Rest}
use Rattle.uuspool_main.specs.declared.stretch.Rest.TheVariants as rest

module _ {D : Type 0} {g : device.Ghosts D} where
  -- the spool was let go, or its files were closed
  abbrev pub LetsGo : Spool (FileStore D g) over_files → Rest D g → Type 0
  LetsGo spool (rest.Store it) = IsLetGo over_files (connection_of spool).store it × (IsClean (view it) → IsTrue (view it).is_numbered)
  LetsGo spool (rest.Closed files) = IsClosed spool files
  LetsGo spool (rest.Unclosed it) = IsLetGo over_files (connection_of spool).store it

  -- A stretch of work over files with these contents ended so. (If a store's files could not be
  -- closed, the port doesn't say that each tree still has its place in the list of objects.)
  abbrev pub EndsStretch : Image → Exchange → Rest D g → Type 0
  EndsStretch before exchange (rest.Store it) = IsStretch before exchange it
  EndsStretch before exchange (rest.Closed files) = IsClosedStretch g before exchange files
  EndsStretch before exchange (rest.Unclosed it) = IsTrue (view it).is_numbered → IsStretch before exchange it

-- ---- what was given and answered

-- the moment of a line is that of its second or, if it gives none, of any second
abbrev pub HasMoment : Settings → Invocation → Type 0
HasMoment settings (invocation.Line line at input) = (now : ℕ) × IsMomentOf settings (second_of line now) at
HasMoment settings invocation.Requests = ⊤

-- A spool was given commands, and the exchange that they make is one of these. The last request has
-- `together` commands, which may be in hand at the stop.
abbrev pub WasGiven : {S : Type 0} {g : Ghosts S} → Spool S g → Spool S g → (Exchange → Type 0) → Type 0
WasGiven old new Is =
    (together : ℕ) × (commands : List Command) × (replies : List Reply) × (stopped : Option StoreFault)
    × Ran together commands old new replies stopped × Is (exchange_of together commands replies stopped)

-- How a batch of these lines may end: with status 0 or with that of a fault of the stream.
-- Otherwise an answer could not be written, memory ran out, or the batch has no number for a
-- further line.
abbrev pub EndsBatch : List ServedLine → Result ℕ Fault → Type 0
EndsBatch lines (Ok status) = EndsWith None None (λ last. ⊤) status
EndsBatch lines (Err fault.Write) = ⊤
EndsBatch lines (Err fault.Memory) = ⊤
EndsBatch lines (Err fault.Read) = length lines ≡ most_requests
EndsBatch lines (Err _) = ⊥

module _ {S : Type 0} {g : Ghosts S} (settings : Settings) (begun ended : Spool S g) where
  -- Such a request was served with this answer, and these are its commands and their replies, or
  -- nothing was done and the answer is empty. (That the answer is what was printed then is
  -- reviewed.)
  abbrev pub IsOfRequest : (Request → Type 0) → Result ℕ Fault → List ℕ → Exchange → Type 0
  IsOfRequest Is result answer exchange = EndsAs result
      ((request : Request) × Is request
      × (it : IsServed settings request begun ended (λ output. answer ≡ output) result) × (exchange ≡ exchange_of (in_hand request) it.commands it.replies it.stopped))
      ((ended ≡ begun) × (answer ≡ []) × (exchange ≡ exchange_of 1 [] [] None))

  -- the request is the line's at this moment, and a fault is one of the line
  abbrev pub IsOfLine : CommandLine → Moment → List ℕ → Result ℕ Fault → List ℕ → Exchange → Type 0
  IsOfLine line at input result answer exchange =
      IsOfRequest (λ request. LineAsks settings at input line (Ok request)) result answer exchange × IfErr result (IsFaultOfLine settings line at input)

  -- the request is that of the words at this second, and a fault is one of the words
  abbrev pub IsOfWords : List (List ℕ) → ℕ → List ℕ → Result ℕ Fault → List ℕ → Exchange → Type 0
  IsOfWords words now input result answer exchange =
      IsOfRequest (λ request. WordsAsk settings words now input (Ok request)) result answer exchange × IfErr result (IsFaultOf settings words now input)

  -- Lines of requests were served, and these are the commands of their requests and the replies.
  -- (Only `batch` says that they are those of standard input, and that the stream was at its end or
  -- had the fault.)
  abbrev pub IsOfLines : Result ℕ Fault → Exchange → Type 0
  IsOfLines result exchange =
      (lines : List ServedLine) × AllByRecursion IsRequestLine lines × AreServed settings lines begun ended
      × (it : IsOneRun settings lines begun ended) × (exchange ≡ exchange_of (in_hand_of it.asked) (commands_asked it.asked) it.replies it.stopped)
      × EndsBatch lines result

  -- What the program was invoked for was done, and these are the commands and the replies of its
  -- line or lines. What is said about the line holds of all words that mean it at its moment.
  abbrev pub IsOfInvocation : Invocation → Result ℕ Fault → List ℕ → Exchange → Type 0
  IsOfInvocation (invocation.Line line at input) result answer exchange =
      IsOfLine line at input.items result answer exchange
      × ((words : List (List ℕ)) (now : ℕ) → MeansLine words line → IsMomentOf settings (second_of line now) at → IsOfWords words now input.items result answer exchange)
  IsOfInvocation invocation.Requests result answer exchange = IsOfLines result exchange

-- on a clean disk the spool shows the state that the files kept
abbrev pub ShowsKept : {S : Type 0} {g : Ghosts S} → Image → Spool S g → Type 0
ShowsKept before spool = HasCleanDisk (disk spool) → (s : State) → ImageKeeps before s → Shows spool s

-- A run over files that held this. A spool was started over them, and showed the state that they
-- kept. What the program was invoked for was done over it, and it was let go. That is a stretch of
-- work, with the commands and the replies of this invocation. A line has this answer. (A batch
-- prints its own.)
pub record IsRun {D : Type 0} {g : device.Ghosts D} (settings : Settings) (what : Invocation) (before : Image) (result : Result ℕ Fault) (answer : List ℕ) (left : Rest D g) : Type 0 where
  pub begun : Spool (FileStore D g) over_files
  pub ended : Spool (FileStore D g) over_files
  pub exchange : Exchange
  pub started : Started before begun
  pub shows : ShowsKept before begun
  pub done : IsOfInvocation settings begun ended what result answer exchange
  pub gone : LetsGo ended left
  pub stretch : EndsStretch before exchange left

-- The same, over files that other stretches left. On a clean disk its spool began with the state
-- after the commands of their exchanges that count. Each job whose number was answered is there or
-- was removed, and no other job has its number. If the number was the answer to a key, this is the
-- job that was first handed in under the key, or one that was there before them all.
pub record IsRunAfter {D : Type 0} {g : device.Ghosts D} (s : State) (told : List Exchange) (settings : Settings) (what : Invocation) (before : Image) (result : Result ℕ Fault) (answer : List ℕ) (left : Rest D g) : Type 0 where
  pub run : IsRun settings what before result answer left
  pub commands : HasCleanDisk (disk run.begun) → ∥ ShowsAfter s told run.begun ∥₁
  pub jobs : HasCleanDisk (disk run.begun) → (new : NewJob) (number : ℕ) → IsAcknowledged told new number → ∥ ShowsJob s told new number run.begun ∥₁
  pub keys : HasCleanDisk (disk run.begun) → (key : Key) (new : NewJob) (number : ℕ) → IsAcknowledgedUnder told key new number → ∥ ShowsUnder s told key number run.begun ∥₁
