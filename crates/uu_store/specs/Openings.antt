-- Opening the two files of a spool: what they hold, what an opening finds in them, and what an
-- opening that failed leaves.
use Rattle.std.specs.Prelude.{◌≡◌, ◌≢◌, ◌⊎◌, ◌<◌, IsTrue, ⊤, Option, None, Some}
use Rattle.sqlite_disk.specs.declared.Disk as disk
use Rattle.sqlite_wal.specs.Recovery.{Image}
use Rattle.sqlite_wal.specs.Files.{outcomes}
use Rattle.sqlite_pool.specs.Stored.{stored_size, is_summed}
use Rattle.sqlite_store.specs.FileStore as store
use Rattle.sqlite_store.specs.Unopened.{state_of}
use Rattle.sqlite.specs.Tree.{Trees}
use Rattle.sqlite.specs.Schema.{Schema}
use Rattle.sqlite.specs.Store.{Ghosts}
use Rattle.sqlite.specs.Held.{Held, state}
use Rattle.sqlite.specs.View.{IsClean}
use Rattle.sqlite.specs.State as db
use Rattle.sqlite.specs.Start.{FindsIn}
use Rattle.sqlite.specs.Files.{HoldsDatabase, IsNothing, SaysSums, IsCleanLeft, IsFullLeft, faults_left}
use Rattle.sqlite.specs.declared.file.Leftover.{Leftover}
use Rattle.sqlite.specs.declared.file.Leftover.TheVariants as left
use Rattle.sqlite_catalog.specs.Listing.{IsSound}
use Rattle.uu_core.specs.State.{State, empty}
use Rattle.uu_store.specs.declared.remains.OpenFault.{OpenFault}
use Rattle.uu_store.specs.declared.remains.Remains.{Remains}
use Rattle.uu_store.specs.declared.remains.Remains.TheVariants as remains
use Rattle.uu_store.specs.declared.spool.Spool.{Spool}
use Rattle.uu_schema.specs.declared.fault.StoreFault.{StoreFault}
use Rattle.uu_schema.specs.declared.fault.StoreFault.TheVariants.{Memory, Store, Foreign, Newer}
use Rattle.uu_schema.specs.declared.fault.StoreKind.{StoreKind}
use Rattle.uu_schema.specs.declared.fault.StoreKind.TheVariants as kind
use Rattle.uu_schema.specs.declared.fault.StoreKind.TheVariants.{Database}
use Rattle.uu_adopt.specs.FoundTables.{HasNone, HasEarlier, HasNoneOrAll, HasUnversionedTables}
use Rattle.uu_adopt.specs.Adoption.{IsOfNone}
use Rattle.uu_schema.specs.Encoded.{EncodesAs}
use Rattle.uu_schema.specs.Steps.{Stands, Rests}
use Rattle.uu_schema.specs.declared.version.Version.{Version}
use Rattle.uu_schema.specs.Earlier.{schema_of}
use Rattle.uu_adopt.specs.Version.{IsLater}
use Rattle.uu_store.specs.Spool.{connection_of}
use Rattle.uu_store.specs.Kept.{Keeps, Stores}
use Rattle.uu_store.specs.Stretches.{Adopted, TurnedAway, IsLetGo}

-- the files hold a database that keeps the state, or none was made yet and the state is an empty
-- spool's
abbrev pub ImageKeeps : Image → State → Type 0
ImageKeeps image s = ((trees : Trees) × HoldsDatabase image trees × Keeps trees s) ⊎ (IsNothing image × (s ≡ empty))

-- the files hold a database, or none was made yet
abbrev pub IsOpenable : Image → Type 0
IsOpenable image = ((trees : Trees) × HoldsDatabase image trees) ⊎ IsNothing image

-- it has some of the spool's tables, and not those of an earlier version
abbrev pub HasSome : Schema → Type 0
HasSome schema = (¬ HasNone schema) × (¬ HasEarlier schema)

-- the files hold this database, and by their names it has some of the spool's tables, and not those
-- of an earlier version, in each schema that fits it
abbrev pub ImageHasSome : Image → Trees → Type 0
ImageHasSome image trees = HoldsDatabase image trees × ((schema : Schema) → IsSound schema trees → HasSome schema)

-- the files hold a database in which a name of the spool's tables is taken, and no table says a
-- version, in each schema that fits it
abbrev pub ImageHasUnversionedTables : Image → Type 0
ImageHasUnversionedTables image = (trees : Trees) × HoldsDatabase image trees × ((schema : Schema) → IsSound schema trees → HasUnversionedTables schema)

-- if the files' database has any of the spool's tables, and not those of an earlier version, with
-- any other tables beside them, then only this database may be left
abbrev pub LeavesSame : Image → (Trees → Type 0) → Type 0
LeavesSame before could_leave = (trees : Trees) → ImageHasSome before trees → (left : Trees) → could_leave left → left ≡ trees

-- an opening of these files found what they hold
pub record IsFound (image : Image) (opened : db.State) : Type 0 where
  pub opens : db.Opens opened
  pub live : db.IsLive opened
  pub finds : FindsIn image opened

-- on a clean disk what was opened is what these files hold
abbrev pub IsFoundIfClean : {S : Type 0} → Ghosts S → Image → Held S → Type 0
IsFoundIfClean g image opened = db.HasCleanDisk (state g opened) → IsFound image (state g opened)

-- A spool over what an opening of these files found: a database with none of the spool's tables or
-- with all of a version. If it has exactly these, its rows are those of a state.
pub record Started {S : Type 0} {g : Ghosts S} (image : Image) (spool : Spool S g) : Type 0 where
  pub opened : Held S
  pub found : IsFoundIfClean g image opened
  pub adopted : Adopted opened spool
  pub taken : HasNoneOrAll (state g opened).now.schema
  pub encoded : (v : Version) → db.HasCleanDisk (state g (connection_of spool)) → Stands (schema_of v) (state g opened).now → (s : State) × EncodesAs v (state g opened).now s

-- a fault that says nothing about the contents of the files
abbrev pub IsOfNoContents : StoreFault → Type 0
IsOfNoContents fault = (fault ≢ Foreign) × (fault ≢ Newer)

-- with any contents that the files may have then, they keep what these kept
abbrev pub StaysKept : Image → (Image → Type 0) → Type 0
StaysKept before may_hold = (s : State) → ImageKeeps before s → (image : Image) → may_hold image → ∥ ImageKeeps image s ∥₁

-- About a database with exactly the tables of a version: it is called newer only if a row names a
-- later version. It is called foreign only if no row does and its rows are those of no state.
abbrev pub IsToldRightly : Version → Trees → StoreFault → Type 0
IsToldRightly v trees fault = (fault ≡ Newer → IsLater trees) × (fault ≡ Foreign → (¬ IsLater trees) × IsOfNone v trees)

-- It has some of the spool's tables, so an opening that ends with this fault leaves it as it was.
-- (If the store failed, those of an earlier version may have become those of version 4.)
abbrev pub StaysAfter : StoreFault → Schema → Type 0
StaysAfter (Store kind) schema = HasSome schema
StaysAfter fault schema = ¬ HasNone schema

-- A database was opened and not taken as a spool, and its store was let go. If it stores a state,
-- it isn't called foreign or newer. If a name of the spool's tables is taken and no table says a
-- version, it is called foreign. A stop leaves a database with any of the tables as it was, unless
-- the store failed while those of an earlier version were becoming those of version 4.
pub record IsNotTaken {S : Type 0} (g : Ghosts S) (was : Held S) (stopped : S) (fault : StoreFault) : Type 0 where
  pub last : Held S
  pub turned_away : TurnedAway g was last
  pub let_go : IsLetGo g last.store stopped
  pub numbered : IsClean (g.view stopped) → IsTrue (g.view stopped).is_numbered
  pub ours : IsClean (g.view stopped) → (s : State) → Stores (state g was).now s → IsOfNoContents fault
  pub other : HasUnversionedTables (state g was).now.schema → fault ≡ Foreign
  pub whole : (v : Version) → IsClean (g.view stopped) → Stands (schema_of v) (state g was).now → IsToldRightly v (state g was).now.trees fault
  pub some : IsClean (g.view stopped) → Rests (state g was) → StaysAfter fault (state g was).now.schema → (trees : Trees) → g.recovers stopped trees → trees ≡ (state g was).now.trees

-- ---- an opening that failed, by what is left of the files

module _ {D : Type 0} {g : disk.Ghosts D} where
  -- the contents that a stop may leave
  abbrev pub may_be_left : Leftover D g → Image → Type 0
  may_be_left (left.Files files) = outcomes g files.log files.db
  may_be_left (left.Unopened files) = (state_of files).may_leave
  may_be_left (left.Store it) = (store.state it).may_leave

  -- The opening took a database for what it is: it knew whether the pages end in sums, and found
  -- each tree by its place in the list of objects. (The port does both, but says neither for an
  -- opening that failed.)
  abbrev pub IsTakenAsMade : Image → Leftover D g → Type 0
  IsTakenAsMade before (left.Files files) = ⊤
  IsTakenAsMade before (left.Unopened files) =
      (trees : Trees) → HoldsDatabase before trees → SaysSums (stored_size (state_of files).page_size) before → IsTrue (is_summed (state_of files).page_size)
  IsTakenAsMade before (left.Store it) = IsTrue (store.view it).is_numbered

  abbrev pub remains_of : OpenFault D g → Remains D g
  remains_of it = it.remains

  -- what an opening of the files left of them, if it opened them
  abbrev pub remains_of_opening : Option (Leftover D g) → Remains D g
  remains_of_opening None = remains.Unopened
  remains_of_opening (Some it) = remains.Files it

  -- While the disk returned what was written, a stop leaves files that keep what these kept. If no
  -- database was opened in them, this holds if they were taken as they were made. This says nothing
  -- about files that weren't opened.
  abbrev pub LeavesAsKept : Image → Remains D g → Type 0
  LeavesAsKept before remains.Unopened = ⊤
  LeavesAsKept before (remains.Files it) = IsCleanLeft it → IsTakenAsMade before it → StaysKept before (may_be_left it)
  LeavesAsKept before (remains.Store it) = IsTrue (store.view it).is_clean → StaysKept before (store.state it).may_leave

  -- A database that was opened and not taken, and has any of the spool's tables, stays what it was.
  -- So another program's does, or a later version's. (This isn't said of tables of an earlier
  -- version if the store failed.)
  abbrev pub LeavesAlone : Image → StoreFault → Remains D g → Type 0
  LeavesAlone before fault remains.Unopened = ⊤
  LeavesAlone before fault (remains.Files it) = ⊤
  LeavesAlone before fault (remains.Store it) =
      IsTrue (store.view it).is_clean → (trees : Trees) → HoldsDatabase before trees → ((schema : Schema) → IsSound schema trees → StaysAfter fault schema) → (image : Image) → (store.state it).may_leave image → ∥ HoldsDatabase image trees ∥₁

  -- Why no database was opened in files with these contents: they aren't a database, the disk
  -- failed or refused a call, or a file is as long as it can be. The kind is never `Size`, and never
  -- `Busy`, because files that another process has open aren't opened.
  abbrev pub HasOpeningCause : Image → StoreKind → Leftover D g → Type 0
  HasOpeningCause before kind.Disk it = (¬ IsOpenable before) ⊎ ((0 < faults_left it) ⊎ IsFullLeft it)
  HasOpeningCause before kind.Size it = ⊥
  HasOpeningCause before kind.Busy it = ⊥
  HasOpeningCause before kind.Database it = ¬ IsOpenable before

  -- The fault is right for the contents of the files. Only a database that was opened is called
  -- foreign or newer, and never one that keeps a state, nor files that held nothing. A database is
  -- called foreign if a name of the spool's tables is taken and no table says a version. If it has
  -- exactly the tables of a version, the fault is right for their rows. If no database was opened,
  -- a fault of the store has a cause. If the files weren't opened, the system refused them, another
  -- process had them open, or memory ran out.
  abbrev pub IsRightFault : Image → StoreFault → Remains D g → Type 0
  IsRightFault before fault remains.Unopened = (fault ≡ Memory) ⊎ ((fault ≡ Store kind.Database) ⊎ ((fault ≡ Store kind.Busy) ⊎ (fault ≡ Store kind.Disk)))
  IsRightFault before fault (remains.Files it) = IsOfNoContents fault × (IsCleanLeft it → (which : StoreKind) → fault ≡ Store which → HasOpeningCause before which it)
  IsRightFault before fault (remains.Store it) =
      IsTrue (store.view it).is_clean → ((s : State) → ImageKeeps before s → IsOfNoContents fault) × (ImageHasUnversionedTables before → fault ≡ Foreign)
      × ((v : Version) (trees : Trees) → HoldsDatabase before trees → IsSound (schema_of v) trees → IsToldRightly v trees fault)
