-- From files that show an image and leave nothing else to what is found in them.
use Rattle.std.proofs.Common.{◌≡◌, ap₂, subst, List, ℕ, Result, Ok, Err}
use Rattle.std.specs.Prelude.{IfErr}
use Rattle.sqlite_disk.specs.declared.Disk as disk
use Rattle.sqlite_disk.specs.declared.Files.{Files}
use Rattle.sqlite_wal.specs.Recovery.{Image}
use Rattle.sqlite_store.specs.declared.store.FileStore.{FileStore}
use Rattle.sqlite.specs.Held.{Held}
use Rattle.sqlite.specs.Files.{FailsToOpenFiles, Finds, IsCleanLeft, LeavesFiles, file_state, image_of}
use Rattle.sqlite.specs.declared.error.Error.{Error}
use Rattle.sqlite.specs.declared.file.Leftover.{Leftover}
use Rattle.sqlite.specs.Start.{FindsIn}
use Rattle.uu_files.specs.Settled.{AreSettled}

abbrev image_with : List ℕ → List ℕ → Image
image_with log db = record { log = log; db = db }

module _ {D : Type 0} {g : disk.Ghosts D} (image : Image) (files : Files D) (settled : AreSettled g image files) where
  shown : image_of g files ≡ image
  shown = ap₂ image_with settled.log_shows settled.db_shows

  pub settled_finds : (conn : Held (FileStore D g)) → Finds files conn → FindsIn image (file_state conn)
  settled_finds conn found = subst (λ i. FindsIn i (file_state conn)) shown (record { holds = found.holds; reads = found.reads })

  -- why an opening of these files failed, and what it left of them
  pub failed_settled : {C : Type 0} (r : Result C (Error × Leftover D g)) → IfErr r (λ e. IsCleanLeft e.1 → FailsToOpenFiles files e.1 e.0) → IfErr r (λ e. IsCleanLeft e.1 → LeavesFiles files e.1)
      → IfErr r (λ e. IsCleanLeft e.1 → (files : Files D) × AreSettled g image files × FailsToOpenFiles files e.1 e.0 × LeavesFiles files e.1)
  failed_settled (Ok conn) fails leaves = tt
  failed_settled (Err e) fails leaves = λ clean. (files, settled, fails clean, leaves clean)
