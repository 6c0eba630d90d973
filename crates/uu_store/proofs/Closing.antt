-- From what a spool shows to what its closed files keep.
use Rattle.std.proofs.Common.{◌≡◌, inl, sym, subst}
use Rattle.std.proofs.Math.Logic.{∥∥₁_map}
use Rattle.std.specs.Prelude.{IsTrue}
use Rattle.sqlite_disk.specs.declared.Disk as disk
use Rattle.sqlite_disk.specs.declared.Files.{Files}
use Rattle.sqlite_wal.specs.Recovery.{Image}
use Rattle.sqlite_wal.specs.Reads.{AreClean}
use Rattle.sqlite_store.specs.declared.store.FileStore.{FileStore}
use Rattle.sqlite_store.specs.FileStore as store
use Rattle.sqlite_store.specs.Laws.{stays_at}
use Rattle.sqlite.specs.Closing.{HoldsAlone, IsCopied}
use Rattle.sqlite.specs.Effect.{Database}
use Rattle.sqlite.specs.Files.{over_files}
use Rattle.sqlite.specs.Files as file
use Rattle.sqlite.specs.Held.{Held}
use Rattle.sqlite.specs.State.{store_error}
use Rattle.sqlite.specs.Store.{Ghosts}
use Rattle.sqlite.specs.Tree.{Trees}
use Rattle.sqlite.specs.View.{IsClean}
use Rattle.sqlite_trees.specs.declared.error.StoreError.{StoreError}
use Rattle.sqlite_trees.specs.declared.error.StoreError.TheVariants.{OutOfMemory, Io, Corrupt, Full, Broken, Unstorable}
use Rattle.uu_core.specs.State.{State}
use Rattle.uu_schema.specs.Faults.{kind_of_error}
use Rattle.uu_schema.specs.declared.fault.StoreKind.{StoreKind}
use Rattle.uu_schema.specs.declared.version.Version.TheVariants.{Fourth}
use Rattle.uu_store.specs.Closing.{HasCause, IsClosed, KeepsAlone}
use Rattle.uu_store.specs.Kept.{Keeps}
use Rattle.uu_store.specs.Spool.{connection_of, disk, Shows}
use Rattle.uu_store.specs.Stretches.{IsLetGo}
use Rattle.uu_store.specs.declared.spool.Spool.{Spool}

committed_keeps : {S : Type 0} {g : Ghosts S} (spool : Spool S g) (s : State) → Shows spool s → Keeps (disk spool).committed.trees s
committed_keeps spool s shows = subst (λ (d : Database). Keeps d.trees s) shows.rests.settled (inl (Fourth, shows.encodes.stands.sound, shows.encodes.holds))

keeps_alone : (image : Image) (trees : Trees) (s : State) → Keeps trees s → HoldsAlone image trees → KeepsAlone image s
keeps_alone image trees s keeps alone = (∥∥₁_map alone.both (λ holds. inl (trees, holds, keeps)), ∥∥₁_map alone.alone (λ holds. inl (trees, holds, keeps)))

module _ {D : Type 0} {g : disk.Ghosts D} (was : Held (FileStore D g)) (conn : Held (FileStore D g)) (same : conn ≡ was) (last : FileStore D g) (closed : file.IsClosed conn last) where
  closed_it : file.IsClosed was last
  closed_it = subst (λ (c : Held (FileStore D g)). file.IsClosed c last) same closed

  pub let_go : IsLetGo over_files was.store last
  let_go = record { left = closed_it.quiet.outcomes; clean = closed_it.quiet.clean }

pub is_closed : {D : Type 0} {g : disk.Ghosts D} → ((file : D) → g.may_leave file (g.seen file)) → (spool : Spool (FileStore D g) over_files) (files : Files D) (conn : Held (FileStore D g)) → conn ≡ connection_of spool
    → (last : FileStore D g) → store.files last ≡ (files.log, files.db) → file.IsClosed conn last → (IsClean (store.view last) → IsTrue (store.view last).is_open × (store.log_frames last ≡ 0)) → (AreClean g files.log files.db → IsCopied conn files) → IsClosed spool files
is_closed {D} {g} stays spool files conn same last are closed emptied copied =
    let copied_it : AreClean g files.log files.db → IsCopied (connection_of spool) files = λ clean. subst (λ (c : Held (FileStore D g)). IsCopied c files) same (copied clean) in record {
      last = last;
      files_are = are;
      let_go = let_go (connection_of spool) conn same last closed;
      emptied = emptied;
      clean = λ clean. (copied_it clean).was_clean;
      left = λ clean image may. ∥∥₁_map ((copied_it clean).left image may).both (λ holds. ((disk spool).committed.trees, stays_at (connection_of spool).store stays (copied_it clean).was_open, holds));
      now = λ clean s shows. keeps_alone _ _ s (committed_keeps spool s shows) (copied_it clean).seen;
      stop = λ clean s shows image may. keeps_alone image _ s (committed_keeps spool s shows) ((copied_it clean).left image may);
    }

module _ {D : Type 0} {g : disk.Ghosts D} (was conn : Held (FileStore D g)) (same : conn ≡ was) (last : FileStore D g) where
  of_cause : (cause : StoreError) → file.ExcusesClose conn last cause → HasCause (kind_of_error (store_error cause)) conn.store last
  of_cause OutOfMemory excuse = tt
  of_cause Io excuse = excuse
  of_cause Corrupt excuse = excuse
  of_cause Full excuse = excuse
  of_cause Broken excuse = tt
  of_cause Unstorable excuse = excuse

  -- the kind is that of the port's error, which has a cause
  pub close_cause : (cause : StoreError) (kind : StoreKind) → kind ≡ kind_of_error (store_error cause) → file.ExcusesClose conn last cause → HasCause kind was.store last
  close_cause cause kind is excuse =
      subst (λ (h : Held (FileStore D g)). HasCause kind h.store last) same (subst (λ k. HasCause k conn.store last) (sym is) (of_cause cause excuse))
