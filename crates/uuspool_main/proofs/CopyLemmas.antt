-- From the steps of a copy to what may take the place of a spool's files.
use Rattle.std.proofs.Common.{◌≡◌, ◌<◌, ℕ, List, [], length, None, refl, sym, subst, arith}
use Rattle.std.proofs.Math.Logic.{∥∥₁_map}
use Rattle.sqlite_disk.specs.declared.Disk as device
use Rattle.sqlite_disk.specs.declared.Files.{Files}
use Rattle.sqlite_wal.specs.Reads.{AreClean}
use Rattle.sqlite_wal.specs.Recovery.{Image}
use Rattle.sqlite_store.specs.declared.store.FileStore.{FileStore}
use Rattle.sqlite.specs.Files.{over_files}
use Rattle.sqlite.specs.State.{HasCleanDisk}
use Rattle.uu_core.specs.State.{State, empty}
use Rattle.uu_schema.specs.Steps.{StaysUnclean}
use Rattle.uu_adopt.specs.declared.contents.Contents.{Contents}
use Rattle.uu_adopt.specs.Contents.{AreContentsOf}
use Rattle.uu_store.specs.declared.spool.Spool.{Spool}
use Rattle.uu_store.specs.Closing.{IsClosed}
use Rattle.uu_store.specs.Openings.{ImageKeeps}
use Rattle.uu_store.specs.Spool.{disk, Shows}
use Rattle.uuspool_main.specs.Copying.{Closes, CopiesInto, HasContents, HasCopied, HasLog, IsReadOnly, HasShortLog, IsClosedThen, IsCopied, LeavesClosed, MayReplace, Meets, WasCopied}
use Rattle.uuspool_main.specs.Stretch.{EndsStretch, LetsGo, ShowsKept}
use Rattle.uuspool_main.specs.declared.copying.Copying.{Copying}
use Rattle.uuspool_main.specs.declared.copying.Copying.TheVariants as copying
use Rattle.uuspool_main.specs.declared.copying.Purpose.{Purpose}
use Rattle.uuspool_main.specs.declared.copying.Purpose.TheVariants as purpose
use Rattle.uuspool_main.specs.declared.stretch.Rest.{Rest}
use Rattle.uu_store.specs.Exchanges.{exchange_of}

-- an empty spool that got these contents, and whose files were closed
pub filled_has : {N : Type 0} {h : device.Ghosts N} → ((file : N) → h.may_leave file (h.seen file)) → (contents : Contents) (blank : Image) (copy filled : Spool (FileStore N h) over_files) → ShowsKept blank copy
    → StaysUnclean (disk copy) (disk filled) → ((s : State) → AreContentsOf s contents → HasCleanDisk (disk filled) → Shows copy empty → Shows filled s) → (new : Files N) → IsClosed filled new → HasContents h contents blank new
filled_has {N} {h} stays contents blank copy filled shows unclean step new closed nothing clean s are db may =
    let now = closed.clean clean in
    let shown = step s are now (shows (omega (arith, now, unclean)) empty nothing) in
    (closed.stop clean s shown (record { log = h.seen new.log; db = db }) (stays new.log, may)).1

module _ {D N : Type 0} {g : device.Ghosts D} (h : device.Ghosts N) (before blank : Image) (contents given : Contents) (spool : Spool (FileStore D g) over_files)
    (shows : HasCleanDisk (disk spool) → (s : State) → ImageKeeps before s → AreContentsOf s contents × Shows spool s) where
  leaves_closed : (old : Files D) → IsClosedThen spool old → LeavesClosed g before old
  leaves_closed old (closed, close, read) clean left may =
      let was = read.clean clean in
      (refl, refl, λ s keeps. (close.stop was s (shows (close.clean was) s keeps).1 left (read.left left may)).0)

  -- a log so short counts as none, beside any database
  module _ (short_counts : (log db : List ℕ) (s : State) → length log < 56 → ImageKeeps (record { log = []; db = db }) s → ImageKeeps (record { log = log; db = db }) s) where
    keeps_with : (old : Files D) (new : Files N) → HasShortLog g old → HasContents h given blank new → ImageKeeps blank empty → AreClean g old.log old.db → AreClean h new.log new.db
        → (log db : List ℕ) → g.may_leave old.log log → h.may_leave new.db db → (s : State) → AreContentsOf s given → ∥ ImageKeeps (record { log = log; db = db }) s ∥₁
    keeps_with old new short has nothing clean clean_new log db may_log may_db s are =
        ∥∥₁_map (has nothing clean_new s are db may_db) (λ kept. short_counts log db s (short clean log may_log) kept)

    may_replace : (why : Purpose) → Meets why contents given → (old : Files D) (new : Files N) → IsClosedThen spool old → HasShortLog g old → HasContents h given blank new → MayReplace g h why before blank old new
    may_replace (purpose.Shrink bytes) same old new (closed, close, read) short has nothing clean clean_new log db may_log may_db = (
      refl,
      refl,
      λ s keeps.
          keeps_with old new short has nothing clean clean_new log db may_log may_db s (subst (AreContentsOf s) (sym same) (shows (close.clean (read.clean clean)) s keeps).0),
    )
    may_replace (purpose.Renumber number) met old new (closed, close, read) short has nothing clean clean_new log db may_log may_db =
        λ s keeps. keeps_with old new short has nothing clean clean_new log db may_log may_db _ (met s (shows (close.clean (read.clean clean)) s keeps).0)

    pub copied : (why : Purpose) → Meets why contents given → ((old : Files D) (new : Files N) → IsClosedThen spool old → HasContents h given blank new → WasCopied g h why before blank old new)
        → ((rest : Rest D g) → LetsGo spool rest → EndsStretch before (exchange_of 1 [] [] None) rest)
        → (result : Copying D N g) → CopiesInto h given spool blank result → IsCopied h why before blank result
    copied why met whole ends (copying.Whole old new) (closed, short, has) = (whole old new closed has, leaves_closed old closed, may_replace why met old new closed short has)
    copied why met whole ends (copying.Long old) closed = leaves_closed old closed
    copied why met whole ends (copying.Needless rest) none = absurd none
    copied why met whole ends (copying.Shared rest) none = absurd none
    copied why met whole ends (copying.Unread fault rest) gone = (None, tt, ends rest gone)
    copied why met whole ends (copying.Unmade fault rest) gone = (None, tt, ends rest gone)

-- ---- the steps of a copy

module _ {D : Type 0} {g : device.Ghosts D} where
  pub only_read : (closed old : Files D) → old.db ≡ closed.db → ((log : List ℕ) → g.may_leave old.log log → g.may_leave closed.log log)
      → (AreClean g old.log old.db → AreClean g closed.log closed.db) → IsReadOnly g closed old
  only_read closed old same logs clean = record { left = λ image may. (logs image.log may.0, subst (λ db. g.may_leave db image.db) same may.1); clean = clean }

module _ {D N : Type 0} {g : device.Ghosts D} where
  pub closes : (spool : Spool (FileStore D g) over_files) (closed : Files D) (new : Files N) → IsClosed spool closed → (result : Copying D N g) → HasLog closed new result → Closes spool new result
  closes spool closed new close (copying.Whole old it) (read, short, same) = ((closed, close, read), short, same)
  closes spool closed new close (copying.Long old) read = (closed, close, read)
  closes spool closed new close (copying.Needless rest) none = absurd none
  closes spool closed new close (copying.Shared rest) none = absurd none
  closes spool closed new close (copying.Unread fault rest) none = absurd none
  closes spool closed new close (copying.Unmade fault rest) none = absurd none

  copies_into : (h : device.Ghosts N) (contents : Contents) (spool : Spool (FileStore D g) over_files) (blank : Image) (new : Files N) → HasContents h contents blank new
      → (result : Copying D N g) → Closes spool new result → CopiesInto h contents spool blank result
  copies_into h contents spool blank new has (copying.Whole old it) (closed, short, same) = (closed, short, subst (HasContents h contents blank) (sym same) has)
  copies_into h contents spool blank new has (copying.Long old) closed = closed
  copies_into h contents spool blank new has (copying.Needless rest) none = absurd none
  copies_into h contents spool blank new has (copying.Shared rest) none = absurd none
  copies_into h contents spool blank new has (copying.Unread fault rest) gone = gone
  copies_into h contents spool blank new has (copying.Unmade fault rest) none = absurd none

  pub copies : (h : device.Ghosts N) (contents : Contents) (spool : Spool (FileStore D g) over_files) (blank : Image) (new : Files N) → HasContents h contents blank new
      → (result : Copying D N g) → Closes spool new result → HasCopied h contents spool blank result
  copies h contents spool blank new has result closed = record { ended = copies_into h contents spool blank new has result closed }
