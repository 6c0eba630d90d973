-- What a close of a spool's two files leaves.
use Rattle.std.specs.Prelude.{◌≡◌, [], IsTrue, ⊤}
use Rattle.sqlite_disk.specs.declared.Disk as disk
use Rattle.sqlite_disk.specs.declared.Files.{Files}
use Rattle.sqlite_disk.specs.Disk.{MoreFaults}
use Rattle.sqlite_wal.specs.Recovery.{Image}
use Rattle.sqlite_wal.specs.Files.{outcomes}
use Rattle.sqlite_wal.specs.Reads.{AreClean}
use Rattle.sqlite_store.specs.declared.store.FileStore.{FileStore}
use Rattle.sqlite_store.specs.FileStore as store
use Rattle.sqlite.specs.Tree.{Trees}
use Rattle.sqlite.specs.State.{HasCleanDisk}
use Rattle.sqlite.specs.View.{IsClean}
use Rattle.sqlite.specs.Files.{HoldsDatabase, over_files, image_of}
use Rattle.uu_core.specs.State.{State}
use Rattle.uu_schema.specs.declared.fault.StoreKind.{StoreKind}
use Rattle.uu_schema.specs.declared.fault.StoreKind.TheVariants as part
use Rattle.uu_store.specs.declared.spool.Spool.{Spool}
use Rattle.uu_store.specs.Openings.{ImageKeeps}
use Rattle.uu_store.specs.Spool.{connection_of, disk, Shows}
use Rattle.uu_store.specs.Stretches.{IsLetGo}

-- the two files keep the state, and so does the database file with no log
abbrev pub KeepsAlone : Image → State → Type 0
KeepsAlone image s = ∥ ImageKeeps image s ∥₁ × ∥ ImageKeeps (record image { log = [] }) s ∥₁

-- the two files hold a database that could be left
abbrev pub HoldsOneOf : (Trees → Type 0) → Image → Type 0
HoldsOneOf could_leave image = ∥ ((trees : Trees) × could_leave trees × HoldsDatabase image trees) ∥₁

-- The store that was let go has these files, and on a clean disk it is open, with a log of no
-- frames. While the disk returned what was written, a stop leaves files with a database that it
-- could leave before. The files keep the state that the spool showed, as they read now and as a
-- stop leaves them.
pub record IsClosed {D : Type 0} {g : disk.Ghosts D} (spool : Spool (FileStore D g) over_files) (files : Files D) : Type 0 where
  pub last : FileStore D g
  pub files_are : store.files last ≡ (files.log, files.db)
  pub let_go : IsLetGo over_files (connection_of spool).store last
  pub emptied : IsClean (store.view last) → IsTrue (store.view last).is_open × (store.log_frames last ≡ 0)
  pub clean : AreClean g files.log files.db → HasCleanDisk (disk spool)
  pub left : AreClean g files.log files.db → (image : Image) → outcomes g files.log files.db image → HoldsOneOf (disk spool).may_leave image
  pub now : AreClean g files.log files.db → (s : State) → Shows spool s → KeepsAlone (image_of g files) s
  pub stop : AreClean g files.log files.db → (s : State) → Shows spool s → (image : Image) → outcomes g files.log files.db image → KeepsAlone image s

-- Why a close failed: its kind is `Disk` only if the disk failed or refused a call meanwhile, and
-- never `Size` or `Busy`. (Out of memory and a store that was closed before are `Database`.)
abbrev pub HasCause : {D : Type 0} {g : disk.Ghosts D} → StoreKind → FileStore D g → FileStore D g → Type 0
HasCause part.Disk was last = MoreFaults (store.faults was) (store.faults last)
HasCause part.Size was last = ⊥
HasCause part.Busy was last = ⊥
HasCause part.Database was last = ⊤
