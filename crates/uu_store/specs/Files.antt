-- Stretches of work over the two files of a spool, each from an opening by path to a stop.
use Rattle.std.specs.Prelude.{◌≡◌, ℕ, List, [], ◌∷◌, ◌++◌, map, IsTrue, ⊤}
use Rattle.sqlite_disk.specs.declared.Disk as disk
use Rattle.sqlite_disk.specs.declared.Files.{Files}
use Rattle.sqlite_wal.specs.Recovery.{Image}
use Rattle.sqlite_wal.specs.Files.{outcomes}
use Rattle.sqlite_wal.specs.Reads.{AreClean}
use Rattle.sqlite_store.specs.declared.store.FileStore.{FileStore}
use Rattle.sqlite_store.specs.FileStore.{state as files_of, view}
use Rattle.sqlite.specs.Held.{Held}
use Rattle.sqlite.specs.View.{IsClean}
use Rattle.sqlite.specs.Files.{over_files, file_state}
use Rattle.uu_core.specs.declared.command.Command.{Command}
use Rattle.uu_core.specs.declared.custody.Key.{Key}
use Rattle.uu_core.specs.declared.job.NewJob.{NewJob}
use Rattle.uu_core.specs.State.{State}
use Rattle.uu_core.specs.Run.{state_after}
use Rattle.uu_store.specs.declared.spool.Spool.{Spool}
use Rattle.uu_store.specs.Exchanges.{Exchange, none_given, not_given, Counts, Passes}
use Rattle.uu_store.specs.Acknowledged.{IsAccountedFor, IsAccountedForUnder}
use Rattle.uu_store.specs.Stretches.{Passed, stretch}
use Rattle.uu_store.specs.Openings.{ImageKeeps, IsFound}
use Rattle.uu_store.specs.Closing.{IsClosed}
use Rattle.uu_store.specs.Spool.{connection_of}

-- how a stretch ended
pub data End : Type 1 where
  -- no spool was started
  not_started : End
  -- a spool over what was opened was started and ran the commands, and its store was let go in this
  -- state
  let_go : (D : Type 0) (g : disk.Ghosts D) → Held (FileStore D g) → FileStore D g → End
  -- the same, and its files were closed in this state
  closed : (D : Type 0) (g : disk.Ghosts D) → Held (FileStore D g) → Files D → End

-- the commands and the replies, the end, and what the files hold after the stop
pub record FileStretch : Type 1 where
  pub exchange : Exchange
  pub end : End
  pub left : Image

-- the opening found what the files held, and the stop left one of the contents that it could leave
pub record IsOverFiles {D : Type 0} {g : disk.Ghosts D} (before : Image) (exchange : Exchange) (opened : Held (FileStore D g)) (stopped : FileStore D g) (left : Image) : Type 0 where
  pub found : IsFound before (file_state opened)
  pub passed : Passed (stretch over_files opened exchange stopped)
  pub numbered : IsTrue (view stopped).is_numbered
  pub may : (files_of stopped).may_leave left

-- the opening found what the files held, its spool was closed, and the stop left one of the
-- contents that it could leave of the closed files
pub record IsOverClosed {D : Type 0} {g : disk.Ghosts D} (before : Image) (exchange : Exchange) (opened : Held (FileStore D g)) (files : Files D) (left : Image) : Type 0 where
  pub found : IsFound before (file_state opened)
  pub last : Spool (FileStore D g) over_files
  pub passed : Passed (stretch over_files opened exchange (connection_of last).store)
  pub close : IsClosed last files
  pub clean : AreClean g files.log files.db
  pub may : outcomes g files.log files.db left

-- If no spool was started, no command was given, and the files keep what they kept.
abbrev pub Ended : Image → Exchange → Image → End → Type 0
Ended before exchange left not_started = (exchange.replies ≡ []) × (exchange.ending ≡ none_given) × ((s : State) → ImageKeeps before s → ∥ ImageKeeps left s ∥₁)
Ended before exchange left (let_go D g opened stopped) = IsOverFiles before exchange opened stopped left
Ended before exchange left (closed D g opened files) = IsOverClosed before exchange opened files left

abbrev pub FilePassed : Image → FileStretch → Type 0
FilePassed before it = Ended before it.exchange it.left it.end

-- nobody else writes the files: each stretch is over what the stop before it left
abbrev pub AllFilesPassed : Image → List FileStretch → Type 0
AllFilesPassed before [] = ⊤
AllFilesPassed before (it ∷ more) = FilePassed before it × AllFilesPassed it.left more

abbrev pub last_left : Image → List FileStretch → Image
last_left before [] = before
last_left before (it ∷ more) = last_left it.left more

abbrev pub file_exchanges : List FileStretch → List Exchange
file_exchanges stretches = map (λ (it : FileStretch). it.exchange) stretches

-- the files keep the state after commands that count
abbrev pub KeepsAfter : State → List FileStretch → Image → Type 0
KeepsAfter s stretches image = (counted : List Command) × Passes s (file_exchanges stretches) counted × ImageKeeps image (state_after s counted)

-- Before each of the stretches, and after the last, the files keep the state after the commands
-- that count until then. One choice of what counts serves all of them.
abbrev pub KeepsThroughout : State → Image → List FileStretch → List Command → Type 0
KeepsThroughout s before [] counted = (counted ≡ []) × ImageKeeps before s
KeepsThroughout s before (it ∷ more) counted =
    ImageKeeps before s × (here : List Command) × (later : List Command) × (counted ≡ here ++ later) × Counts it.exchange s here × KeepsThroughout (state_after s here) it.left more later

abbrev pub AllKeep : State → Image → List FileStretch → Type 0
AllKeep s before stretches = (counted : List Command) × KeepsThroughout s before stretches counted

-- the files keep the state after the commands that count, and these account for the job
abbrev pub KeepsJob : State → List Exchange → NewJob → ℕ → Image → Type 0
KeepsJob s told new number image = (counted : List Command) × Passes s told counted × ImageKeeps image (state_after s counted) × IsAccountedFor s counted new number

-- the same for the job under a key
abbrev pub KeepsUnder : State → List Exchange → Key → ℕ → Image → Type 0
KeepsUnder s told key number image = (counted : List Command) × Passes s told counted × ImageKeeps image (state_after s counted) × IsAccountedForUnder s counted key number

-- ---- the stretches that calls make

-- A stretch of work over files with these contents: this was asked and answered, and the store was
-- let go in this state.
pub record IsStretch {D : Type 0} {g : disk.Ghosts D} (before : Image) (exchange : Exchange) (stopped : FileStore D g) : Type 0 where
  pub opened : Held (FileStore D g)
  pub passed : IsClean (view stopped) → (left : Image) → (files_of stopped).may_leave left → IsOverFiles before exchange opened stopped left

-- the same, and the files were closed in this state
pub record IsClosedStretch {D : Type 0} (g : disk.Ghosts D) (before : Image) (exchange : Exchange) (files : Files D) : Type 0 where
  pub opened : Held (FileStore D g)
  pub passed : AreClean g files.log files.db → (left : Image) → outcomes g files.log files.db left → IsOverClosed before exchange opened files left

-- each of them in a history, if this is left
abbrev pub let_go_after : {D : Type 0} {g : disk.Ghosts D} {before : Image} {exchange : Exchange} {stopped : FileStore D g} → IsStretch before exchange stopped → Image → FileStretch
let_go_after {D} {g} {before} {exchange} {stopped} it left = record { exchange = exchange; end = let_go D g it.opened stopped; left = left }

abbrev pub closed_after : {D : Type 0} {g : disk.Ghosts D} {before : Image} {exchange : Exchange} {files : Files D} → IsClosedStretch g before exchange files → Image → FileStretch
closed_after {D} {g} {before} {exchange} {files} it left = record { exchange = exchange; end = closed D g it.opened files; left = left }

-- an opening that failed, so these commands weren't given
abbrev pub not_started_for : List Command → Image → FileStretch
not_started_for commands left = record { exchange = not_given commands; end = not_started; left = left }
