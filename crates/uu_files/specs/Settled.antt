-- The two files of a spool as an opening by path has them: nothing was written since their last
-- sync.
use Rattle.std.specs.Prelude.{◌≡◌, ◌+◌, ◌/◌, ℕ, min}
use Rattle.sqlite_disk.specs.declared.Disk as disk
use Rattle.sqlite_disk.specs.declared.Files.{Files}
use Rattle.sqlite_disk.specs.Disk.{Only}
use Rattle.sqlite_wal.specs.Recovery.{Image}

-- the files show this, and a stop leaves nothing else
pub record AreSettled {D : Type 0} (g : disk.Ghosts D) (image : Image) (files : Files D) : Type 0 where
  pub log_shows : g.seen files.log ≡ image.log
  pub db_shows : g.seen files.db ≡ image.db
  pub log_stays : Only image.log (g.may_leave files.log)
  pub db_stays : Only image.db (g.may_leave files.db)

-- ---- the pool of an opening: this project's choice

-- The most pages that are kept in memory once they were read: those of the log and of the database
-- file, or those of the limit if these are fewer, and 32 more for what is written.
abbrev pub pool_pages : ℕ → ℕ → ℕ → ℕ
pool_pages limit log db = min (log / 4096 + db / 4096) (limit / 4096) + 32
