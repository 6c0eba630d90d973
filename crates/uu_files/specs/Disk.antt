-- What the disk of a spool's file shows beside what every disk does. As in Unix, dirty is what was
-- written and may not be on the disk yet.
use Rattle.std.specs.Prelude.{Bool, ◌&&◌, ℕ, ◌+◌, List, Option}
use Rattle.sqlite_disk.specs.declared.Disk as disk
use Rattle.uu_files.specs.declared.disk.SpoolDisk.{SpoolDisk}

module _ {D : Type 0} {g : disk.Ghosts D} where
  -- the inner file, which gets the calls
  abbrev pub inner_of : SpoolDisk D g → D
  inner_of file = file.inner

  -- it was written or cut since the last sync that worked, or may never have been synced: its next
  -- sync is passed on
  abbrev pub is_dirty : SpoolDisk D g → Bool
  is_dirty file = file.dirty

  -- the last page whose frames are taken, if there is a limit
  abbrev pub most_of : SpoolDisk D g → Option ℕ
  most_of file = file.most

  -- ---- as a `Disk`: the failures of the inner file, and what was refused; a sync that is left out
  -- works even after the inner file has stopped; all else is that file's
  abbrev pub faults_of : SpoolDisk D g → ℕ
  faults_of file = g.faults file.inner + file.refused

  abbrev pub is_stopped : SpoolDisk D g → Bool
  is_stopped file = g.is_frozen file.inner && file.dirty

  abbrev pub seen_in : SpoolDisk D g → List ℕ
  seen_in file = g.seen file.inner

  abbrev pub left_by : SpoolDisk D g → List ℕ → Type 0
  left_by file = g.may_leave file.inner

  abbrev pub is_clean_in : SpoolDisk D g → Bool
  is_clean_in file = g.is_clean file.inner
