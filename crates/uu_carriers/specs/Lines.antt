-- Several sites as their users see them: lines of words, with their input and what they printed,
-- and where a run of the program ended or was stopped. (The lines are those of
-- `uuspool/specs/ServedLines.antt`, the sites are those of Texts.antt.)
use Rattle.std.specs.Prelude.{◌≡◌, ◌<◌, ⊤, ℕ, Bool, true, false, ◌==◌, List, [], ◌∷◌, ◌++◌, Contains, Option, None, Some, IsTrue, if◌then◌else◌}
use Rattle.sqlite_disk.specs.declared.Disk as disk
use Rattle.sqlite_store.specs.declared.store.FileStore.{FileStore}
use Rattle.sqlite_wal.specs.Recovery.{Image}
use Rattle.sqlite.specs.Files.{over_files}
use Rattle.uu_names.specs.Name.{is_site_name, is_word}
use Rattle.uu_core.specs.declared.command.Command.{Command}
use Rattle.uu_core.specs.State.{State}
use Rattle.uu_core.specs.Run.{state_after}
use Rattle.uu_handover.specs.Network.{Chart}
use Rattle.uu_store.specs.declared.spool.Spool.{Spool}
use Rattle.uu_store.specs.Closing.{IsClosed}
use Rattle.uu_store.specs.Exchanges.{Exchange, exchange_of, Passes}
use Rattle.uu_store.specs.Files.{End, not_started, let_go, closed, FileStretch, AllFilesPassed, file_exchanges}
use Rattle.uu_store.specs.Openings.{ImageKeeps, Started}
use Rattle.uu_store.specs.Spool.{connection_of}
use Rattle.uu_store.specs.Stretches.{IsLetGo}
use Rattle.uu_bundle.specs.Reading.{IsRead}
use Rattle.uu_bundle.specs.declared.bundle.Bundle.{Bundle}
use Rattle.uu_custody.specs.AmongSites.{AreFreeOverAll}
use Rattle.uu_custody.specs.Routes.{ComeOnceOverAll}
use Rattle.uu_line.specs.Lines.{MeansLine}
use Rattle.uu_line.specs.declared.line.CommandLine.{CommandLine}
use Rattle.uu_line.specs.declared.origin.Origin.{Origin}
use Rattle.uu_line.specs.declared.task.Task.{Task}
use Rattle.uu_line.specs.declared.task.Task.TheVariants as task
use Rattle.uu_settings.specs.declared.settings.Settings.{Settings}
use Rattle.uu_request.specs.Unpacking.{spool_of}
use Rattle.uuspool.specs.ServedLines.{AreServed, IsOneRun, ServedLine, commands_asked, in_hand_of}
use Rattle.uu_carriers.specs.Texts.{Places}

-- ---- what happens

pub data Step : Type 0 where
  -- at a site a line was served, with its input and its result
  serves : (site : ℕ) (line : ServedLine) → Step
  -- at a site a run of the program ended, or was stopped
  ends : (site : ℕ) → Step

abbrev pub with_first : ServedLine → List (List ServedLine) → List (List ServedLine)
with_first line [] = (line ∷ []) ∷ []
with_first line (lines ∷ runs) = (line ∷ lines) ∷ runs

-- the lines of each run of a site
abbrev pub runs_at : ℕ → List Step → List (List ServedLine)
runs_at site [] = []
runs_at site (serves there line ∷ steps) = if site == there then with_first line (runs_at site steps) else runs_at site steps
runs_at site (ends there ∷ steps) = if site == there then [] ∷ runs_at site steps else runs_at site steps

-- The sites have the numbers below the count, and after each line comes the end of its run.
abbrev pub AreWithin : ℕ → List Step → Type 0
AreWithin count [] = ⊤
AreWithin count (serves site line ∷ steps) = (site < count) × (¬ (runs_at site steps ≡ [])) × AreWithin count steps
AreWithin count (ends site ∷ steps) = (site < count) × AreWithin count steps

-- ---- what is typed

-- the words ask for a bundle: any task that they mean is `pack` or `answer`
abbrev pub asks_for_bundle : Task → Bool
asks_for_bundle (task.Pack system grade spool after most no_jobs) = true
asks_for_bundle (task.Answer sender onward grade spool after most no_jobs) = true
asks_for_bundle other = false

abbrev pub AskForBundle : ServedLine → Type 0
AskForBundle line = (it : CommandLine) → MeansLine line.words it → asks_for_bundle it.task ≡ true

-- the text is a beginning of what `pack` or `answer` printed in one of these lines, or all of it
abbrev pub IsFrontOfOne : List ServedLine → List ℕ → Type 0
IsFrontOfOne lines text = (line : ServedLine) × Contains lines line × AskForBundle line × (cut : List ℕ) × (text ++ cut ≡ line.output)

-- `unpack` makes the same of both bundles, and so does `settle`
pub record HaveSameJobs (bundle other : Bundle) : Type 0 where
  pub from : bundle.from ≡ other.from
  pub to : bundle.to ≡ other.to
  pub below : bundle.below ≡ other.below
  pub jobs : bundle.jobs ≡ other.jobs

pub record HaveSameTold (bundle other : Bundle) : Type 0 where
  pub from : bundle.from ≡ other.from
  pub to : bundle.to ≡ other.to
  pub has : bundle.has ≡ other.has

-- Suppose that a bundle is read from the text. What is made of it is also made of a bundle that is
-- read from such a beginning. So a text may be damaged after that, and there is no premise about a
-- text that isn't a bundle.
abbrev pub IsReadAsOne : (Bundle → Bundle → Type 0) → List ServedLine → List ℕ → Type 0
IsReadAsOne HaveSame lines text = (bundle : Bundle) → IsRead text bundle → (front : List ℕ) × IsFrontOfOne lines front × (other : Bundle) × IsRead front other × HaveSame bundle other

-- a neighbour of this name hands its jobs on to the site; and the site hands its own on to one
abbrev pub HandsOnTo : Places → ℕ → List ℕ → Type 0
HandsOnTo places site name = (line : ℕ) × (places.ends line ≡ site) × (places.name (places.begins line) ≡ name)

abbrev pub TakesFrom : Places → ℕ → List ℕ → Type 0
TakesFrom places site name = (line : ℕ) × (places.begins line ≡ site) × (places.name (places.ends line) ≡ name)

-- `--once` isn't given with the name of a neighbour that hands its jobs on to the site
abbrev pub IsOfNoNeighbour : Places → ℕ → Option Origin → Type 0
IsOfNoNeighbour places site None = ⊤
IsOfNoNeighbour places site (Some origin) = ¬ HandsOnTo places site origin.from

-- The premise about the words and the input of a line at a site, if these lines were served before
-- it, at any sites. What `unpack` and `settle` read, `pack` or `answer` printed. Each bundle says
-- the site's word for its spool. Only `settle` removes a neighbour's jobs: `done` names no job for
-- a neighbour that takes the site's jobs. Only `unpack` takes what a neighbour hands on: no
-- `--once`, `forget` or `drop` names a neighbour that hands its jobs on to the site.
abbrev pub MayBeTyped : Places → List ServedLine → ℕ → List ℕ → Task → Type 0
MayBeTyped places before site input (task.Unpack sender onward) = IsReadAsOne HaveSameJobs before input
MayBeTyped places before site input (task.Settle system spool) = IsReadAsOne HaveSameTold before input
MayBeTyped places before site input (task.Pack system grade spool after most no_jobs) = spool_of spool ≡ places.word site
MayBeTyped places before site input (task.Answer sender onward grade spool after most no_jobs) = spool_of spool ≡ places.word site
MayBeTyped places before site input (task.Done system jobs) = TakesFrom places site system → jobs ≡ []
MayBeTyped places before site input (task.Drop system) = ¬ HandsOnTo places site system
MayBeTyped places before site input (task.Forget system below) = ¬ HandsOnTo places site system
MayBeTyped places before site input (task.Send system source target grade once) = IsOfNoNeighbour places site once
MayBeTyped places before site input (task.Request system source target grade once) = IsOfNoNeighbour places site once
MayBeTyped places before site input (task.Execute grade once system command arguments) = IsOfNoNeighbour places site once
MayBeTyped places before site input (task.Mail grade once system rests) = IsOfNoNeighbour places site once
MayBeTyped places before site input other = ⊤

abbrev pub MayBeServed : Places → List ServedLine → ℕ → ServedLine → Type 0
MayBeServed places before site line = (it : CommandLine) → MeansLine line.words it → MayBeTyped places before site line.input it.task

-- the premise holds for each line, with those that were served before it
abbrev pub GoInLines : Places → List ServedLine → List Step → Type 0
GoInLines places before [] = ⊤
GoInLines places before (serves site line ∷ steps) = MayBeServed places before site line × GoInLines places (before ++ line ∷ []) steps
GoInLines places before (ends site ∷ steps) = GoInLines places before steps

-- no two sites have the same name, the names and words of those below the count are valid, and no
-- line leads from a site to itself
pub record AreSites (places : Places) (count : ℕ) : Type 0 where
  pub apart : (one other : ℕ) → places.name one ≡ places.name other → one ≡ other
  pub names : (site : ℕ) → site < count → IsTrue (is_site_name (places.name site))
  pub words : (site : ℕ) → site < count → IsTrue (is_word (places.word site))
  pub lines : (line : ℕ) → ¬ (places.begins line ≡ places.ends line)

-- ---- runs over files

-- A run of the program over files with these contents, as `IsRun` of `uuspool_main` has it: a spool
-- was started over them, served the lines, was given their commands, and then `Goes` holds.
pub record IsServedOver {D : Type 0} {g : disk.Ghosts D} (settings : Settings) (before : Image) (lines : List ServedLine) (exchange : Exchange) (Goes : Spool (FileStore D g) over_files → Type 0) : Type 0 where
  pub begun : Spool (FileStore D g) over_files
  pub ended : Spool (FileStore D g) over_files
  pub started : Started before begun
  pub served : AreServed settings lines begun ended
  pub run : IsOneRun settings lines begun ended
  pub exchange_is : exchange ≡ exchange_of (in_hand_of run.asked) (commands_asked run.asked) run.replies run.stopped
  pub goes : Goes ended

-- what is left of it is a stretch with this end: its store was let go, or its files were closed; or
-- no spool was started, and no line served
abbrev pub EndsSo : Settings → Image → List ServedLine → Exchange → End → Type 0
EndsSo settings before lines exchange not_started = (lines ≡ []) × (exchange.commands ≡ [])
EndsSo settings before lines exchange (let_go D g opened stopped) = IsServedOver {D = D} {g = g} settings before lines exchange (λ ended. IsLetGo over_files (connection_of ended).store stopped)
EndsSo settings before lines exchange (closed D g opened files) = IsServedOver {D = D} {g = g} settings before lines exchange (λ ended. IsClosed ended files)

-- the stretches are runs of these lines, one after the other, in any settings with the site's name
abbrev pub AreRuns : List ℕ → Image → List FileStretch → List (List ServedLine) → Type 0
AreRuns name before [] [] = ⊤
AreRuns name before (it ∷ stretches) (lines ∷ runs) =
    ((settings : Settings) × (settings.name ≡ name) × EndsSo settings before lines it.exchange it.end) × AreRuns name it.left stretches runs
AreRuns name before [] (lines ∷ runs) = ⊥
AreRuns name before (it ∷ stretches) [] = ⊥

-- What happened at a site happened over its files: these kept the first state, and each stretch
-- over them is a run of its lines.
pub record HappenedOver (name : List ℕ) (first : State) (before : Image) (stretches : List FileStretch) (runs : List (List ServedLine)) : Type 0 where
  pub keeps : ImageKeeps before first
  pub passed : AllFilesPassed before stretches
  pub are : AreRuns name before stretches runs

-- ---- what follows

-- The files of each site keep the state after commands that count there. By these messages come
-- once over the lines, and each waiting job is free.
pub record ComeOnceInFiles (chart : Chart) (count : ℕ) (first : ℕ → State) (stretches : ℕ → List FileStretch) (left : ℕ → Image) (lines : List ℕ) : Type 0 where
  pub counted : ℕ → List Command
  pub count_is : (site : ℕ) → site < count → Passes (first site) (file_exchanges (stretches site)) (counted site)
  pub keep : (site : ℕ) → site < count → ImageKeeps (left site) (state_after (first site) (counted site))
  pub come : ComeOnceOverAll chart (record { first = first; counted = counted }) lines
  pub free : AreFreeOverAll chart (record { first = first; counted = counted }) lines
