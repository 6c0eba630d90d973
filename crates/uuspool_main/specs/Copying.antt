-- What a copy of a spool is, and what may take the place of its files.
use Rattle.std.specs.Prelude.{◌≡◌, ◌<◌, ℕ, false, List, [], length, IsTrue, IfSome, Option, None, Some, Ok, ⊤}
use Rattle.sqlite_disk.specs.declared.Disk as device
use Rattle.sqlite_disk.specs.declared.Files.{Files}
use Rattle.sqlite_wal.specs.Files.{outcomes}
use Rattle.sqlite_wal.specs.Reads.{AreClean}
use Rattle.sqlite_wal.specs.Recovery.{Image}
use Rattle.sqlite_store.specs.declared.store.FileStore.{FileStore}
use Rattle.sqlite.specs.Files.{over_files}
use Rattle.uu_core.specs.State.{State, empty}
use Rattle.uu_renumber.specs.Renumbered.{renumbered}
use Rattle.uu_schema.specs.declared.fault.StoreFault.{StoreFault}
use Rattle.uu_adopt.specs.declared.contents.Contents.{Contents}
use Rattle.uu_adopt.specs.Alone.{is_alone}
use Rattle.uu_adopt.specs.Contents.{AreContentsOf}
use Rattle.uu_store.specs.declared.spool.Spool.{Spool}
use Rattle.uu_store.specs.Closing.{IsClosed}
use Rattle.uu_store.specs.Exchanges.{exchange_of}
use Rattle.uu_store.specs.Files.{FilePassed, not_started_for}
use Rattle.uu_store.specs.Openings.{ImageKeeps, Started}
use Rattle.uu_store.specs.Questions.{IsQuestion}
use Rattle.uu_store.specs.Spool.{disk}
use Rattle.uuspool_main.specs.Stretch.{EndsStretch, LetsGo}
use Rattle.uuspool_main.specs.declared.copying.Copying.{Copying}
use Rattle.uuspool_main.specs.declared.stretch.Rest.{Rest}
use Rattle.uuspool_main.specs.declared.copying.Copying.TheVariants as copying
use Rattle.uuspool_main.specs.declared.copying.Purpose.{Purpose}
use Rattle.uuspool_main.specs.declared.copying.Purpose.TheVariants as purpose

-- In a history, files that held the first may hold the second afterwards: no command was given, and
-- they keep the state that they kept.
abbrev pub MayBecome : Image → Image → Type 0
MayBecome before left = FilePassed before (not_started_for [] left)

-- whatever a stop leaves of the closed files, they may become that
abbrev pub LeavesClosed : {D : Type 0} → device.Ghosts D → Image → Files D → Type 0
LeavesClosed g before old = AreClean g old.log old.db → (left : Image) → outcomes g old.log old.db left → MayBecome before left

-- What files that held the first may hold after the purpose was met: the same state, as above, or the
-- one with the later next number.
abbrev pub MayBecomeFor : Purpose → Image → Image → Type 0
MayBecomeFor (purpose.Shrink bytes) before left = MayBecome before left
MayBecomeFor (purpose.Renumber number) before left = (s : State) → ImageKeeps before s → ∥ ImageKeeps left (renumbered number s) ∥₁

-- The database of the new files may take the place of the old one, beside the log of the old files: if
-- the new files held nothing before, the purpose is met then, whatever a stop leaves.
abbrev pub MayReplace : {D N : Type 0} → device.Ghosts D → device.Ghosts N → Purpose → Image → Image → Files D → Files N → Type 0
MayReplace g h why before blank old new =
    ImageKeeps blank empty → AreClean g old.log old.db → AreClean h new.log new.db → (log db : List ℕ) → g.may_leave old.log log → h.may_leave new.db db → MayBecomeFor why before (record { log = log; db = db })

-- ---- what a copy is made for

-- these contents meet the purpose: those that were read, or those of the same state with the later next
-- number
abbrev pub Meets : Purpose → Contents → Contents → Type 0
Meets (purpose.Shrink bytes) read given = given ≡ read
Meets (purpose.Renumber number) read given = (s : State) → AreContentsOf s read → AreContentsOf (renumbered number s) given

-- Those that were read meet the purpose as they are. (That files are no longer than they have to be is
-- a choice, of which no clause speaks.)
abbrev pub IsNeedless : Purpose → Contents → Type 0
IsNeedless (purpose.Shrink bytes) read = ⊤
IsNeedless (purpose.Renumber number) read = (s : State) → AreContentsOf s read → renumbered number s ≡ s

-- ---- what was done with the two spools

-- the database of the new files alone keeps a state with these contents, if they held nothing before
abbrev pub HasContents : {N : Type 0} → device.Ghosts N → Contents → Image → Files N → Type 0
HasContents h contents blank new =
    ImageKeeps blank empty → AreClean h new.log new.db → (s : State) → AreContentsOf s contents → (db : List ℕ) → h.may_leave new.db db → ∥ ImageKeeps (record { log = []; db = db }) s ∥₁

-- closed files were only read since
pub record IsReadOnly {D : Type 0} (g : device.Ghosts D) (closed old : Files D) : Type 0 where
  pub left : (image : Image) → outcomes g old.log old.db image → outcomes g closed.log closed.db image
  pub clean : AreClean g old.log old.db → AreClean g closed.log closed.db

-- the spool was closed, and then its files were only read
abbrev pub IsClosedThen : {D : Type 0} {g : device.Ghosts D} → Spool (FileStore D g) over_files → Files D → Type 0
IsClosedThen {D} {g} spool old = (closed : Files D) × IsClosed spool closed × IsReadOnly g closed old

-- One spool was opened in files that held this. Its database had nothing else, so a copy of what it keeps
-- is a copy of the whole. Then it was asked for its contents, and closed. The new files have contents that
-- meet the purpose.
pub record WasCopied {D N : Type 0} (g : device.Ghosts D) (h : device.Ghosts N) (why : Purpose) (before blank : Image) (old : Files D) (new : Files N) : Type 0 where
  pub opened : Spool (FileStore D g) over_files
  pub asked : Spool (FileStore D g) over_files
  pub contents : Contents
  pub given : Contents
  pub started : Started before opened
  pub alone : IsTrue (is_alone (disk opened).now.schema)
  pub read : IsQuestion AreContentsOf opened asked (Ok contents)
  pub met : Meets why contents given
  pub has : HasContents h given blank new
  pub closed : IsClosedThen asked old

-- The spool was only read, which is a stretch without a command. If it couldn't be read to the end, this
-- fault says why.
abbrev pub WasRead : {D : Type 0} {g : device.Ghosts D} → Image → Option StoreFault → Rest D g → Type 0
WasRead before fault rest = (stopped : Option StoreFault) × IfSome stopped (λ why. fault ≡ Some why) × EndsStretch before (exchange_of 1 [] [] stopped) rest

-- one spool was opened in files that held this, asked for its contents, and let go
pub record WasAsked {D : Type 0} {g : device.Ghosts D} (before : Image) (rest : Rest D g) : Type 0 where
  pub opened : Spool (FileStore D g) over_files
  pub asked : Spool (FileStore D g) over_files
  pub contents : Contents
  pub started : Started before opened
  pub read : IsQuestion AreContentsOf opened asked (Ok contents)
  pub gone : LetsGo asked rest

-- its database had nothing else, and its contents meet the purpose as they are
abbrev pub WasNeedless : {D : Type 0} {g : device.Ghosts D} → Purpose → Image → Rest D g → Type 0
WasNeedless why before rest = (it : WasAsked before rest) × IsTrue (is_alone (disk it.opened).now.schema) × IsNeedless why it.contents

-- its database had something else
abbrev pub WasShared : {D : Type 0} {g : device.Ghosts D} → Image → Rest D g → Type 0
WasShared before rest = (it : WasAsked before rest) × (is_alone (disk it.opened).now.schema ≡ false)

module _ {D N : Type 0} {g : device.Ghosts D} (h : device.Ghosts N) where
  -- How a copy for this purpose ended of the spool in files that held this, into files that held
  -- nothing. They may be replaced by it, or they were only read.
  abbrev pub IsCopied : Purpose → Image → Image → Copying D N g → Type 0
  IsCopied why before blank (copying.Whole old new) = WasCopied g h why before blank old new × LeavesClosed g before old × MayReplace g h why before blank old new
  IsCopied why before blank (copying.Long old) = LeavesClosed g before old
  IsCopied why before blank (copying.Needless rest) = WasNeedless why before rest × WasRead before None rest
  IsCopied why before blank (copying.Shared rest) = WasShared before rest × WasRead before None rest
  IsCopied why before blank (copying.Unread fault rest) = WasRead before (Some fault) rest
  IsCopied why before blank (copying.Unmade fault rest) = WasRead before None rest

-- ---- the steps of a copy

-- the log is so short that it counts as none
abbrev pub HasShortLog : {D : Type 0} → device.Ghosts D → Files D → Type 0
HasShortLog g old = AreClean g old.log old.db → (log : List ℕ) → g.may_leave old.log log → length log < 56

module _ {D N : Type 0} {g : device.Ghosts D} where
  abbrev pub HasLog : Files D → Files N → Copying D N g → Type 0
  HasLog closed new (copying.Whole old it) = IsReadOnly g closed old × HasShortLog g old × (it ≡ new)
  HasLog closed new (copying.Long old) = IsReadOnly g closed old
  HasLog closed new (copying.Needless rest) = ⊥
  HasLog closed new (copying.Shared rest) = ⊥
  HasLog closed new (copying.Unread fault rest) = ⊥
  HasLog closed new (copying.Unmade fault rest) = ⊥

  abbrev pub Closes : Spool (FileStore D g) over_files → Files N → Copying D N g → Type 0
  Closes spool new (copying.Whole old it) = IsClosedThen spool old × HasShortLog g old × (it ≡ new)
  Closes spool new (copying.Long old) = IsClosedThen spool old
  Closes spool new (copying.Needless rest) = ⊥
  Closes spool new (copying.Shared rest) = ⊥
  Closes spool new (copying.Unread fault rest) = LetsGo spool rest
  Closes spool new (copying.Unmade fault rest) = ⊥

  abbrev pub CopiesInto : device.Ghosts N → Contents → Spool (FileStore D g) over_files → Image → Copying D N g → Type 0
  CopiesInto h contents spool blank (copying.Whole old new) = IsClosedThen spool old × HasShortLog g old × HasContents h contents blank new
  CopiesInto h contents spool blank (copying.Long old) = IsClosedThen spool old
  CopiesInto h contents spool blank (copying.Needless rest) = ⊥
  CopiesInto h contents spool blank (copying.Shared rest) = ⊥
  CopiesInto h contents spool blank (copying.Unread fault rest) = LetsGo spool rest
  CopiesInto h contents spool blank (copying.Unmade fault rest) = LetsGo spool rest

-- the spool that was asked was copied so
pub record HasCopied {D N : Type 0} {g : device.Ghosts D} (h : device.Ghosts N) (contents : Contents) (spool : Spool (FileStore D g) over_files) (blank : Image) (result : Copying D N g) : Type 0 where
  pub ended : CopiesInto h contents spool blank result
