-- Why no database was opened in the files of a spool.
use Rattle.std.proofs.Common.{◌≡◌, ◌≢◌, ◌⊎◌, ◌<◌, inl, inr, Bool, true, false, cond, refl, sym, ap, ap₂, subst, ◌∙◌, arith, nat_eq, List, ℕ}
use Rattle.sqlite.specs.Files.{FailsToOpenFiles, IsFullLeft, faults_of, faults_left, image_of, tally_left}
use Rattle.sqlite.specs.Opening.{FailsAs}
use Rattle.sqlite.specs.State.{store_error}
use Rattle.sqlite.specs.declared.error.Error.{Error}
use Rattle.sqlite.specs.declared.error.Error.TheVariants.{SqliteFailure}
use Rattle.sqlite.specs.declared.error.ErrorCode.TheVariants.{OutOfMemory}
use Rattle.sqlite.specs.declared.file.Leftover.{Leftover}
use Rattle.sqlite_disk.specs.declared.Disk as disk
use Rattle.sqlite_disk.specs.declared.Files.{Files}
use Rattle.sqlite_disk.specs.declared.tally.Tally.{Tally}
use Rattle.sqlite_store.specs.Report.{named}
use Rattle.sqlite_trees.specs.declared.error.StoreError.TheVariants.{Io, Full, Corrupt}
use Rattle.sqlite_wal.specs.Recovery.{Image}
use Rattle.sqlite_wal.specs.Reads.{tally_of_files}
use Rattle.uu_schema.specs.Faults.{kind_of_error}
use Rattle.uu_schema.specs.declared.fault.StoreKind.{StoreKind}
use Rattle.uu_schema.specs.declared.fault.StoreKind.TheVariants as kind
use Rattle.uu_store.specs.Openings.{HasOpeningCause, IsOpenable}

-- a fault of the disk, under any name, is reported as one of the disk
of_disk : (caught refused : Bool) → kind_of_error (store_error (cond caught (cond refused Io Full) Corrupt)) ≡ kind.Disk
of_disk true true = refl
of_disk true false = refl
of_disk false refused = refl

named_of_disk : (old new : Tally) → kind_of_error (store_error (named old new)) ≡ kind.Disk
named_of_disk old new = of_disk (nat_eq new.caught old.caught) (nat_eq new.refused old.refused)

module _ {D : Type 0} {g : disk.Ghosts D} (before : Image) (it : Leftover D g) (error : Error) (which : StoreKind) (told : which ≡ kind_of_error error) where
  told_of_disk : kind_of_error error ≡ kind.Disk → (¬ IsOpenable before) ⊎ ((0 < faults_left it) ⊎ IsFullLeft it) → HasOpeningCause before which it
  told_of_disk is cause = subst (λ k. HasOpeningCause before k it) (sym (told ∙ is)) cause

  told_of_database : kind_of_error error ≡ kind.Database → ¬ IsOpenable before → HasOpeningCause before which it
  told_of_database is none = subst (λ k. HasOpeningCause before k it) (sym (told ∙ is)) none

  excused : (old new : Tally) (had : ℕ) → error ≢ SqliteFailure OutOfMemory → FailsAs (named old new) had (faults_left it) (IsFullLeft it) (IsOpenable before) error → HasOpeningCause before which it
  excused old new had some (inl memory) = absurd (some memory)
  excused old new had some (inr (inl (inl other, none))) = told_of_database (ap kind_of_error other) none
  excused old new had some (inr (inl (inr damaged, none))) = told_of_disk (ap kind_of_error damaged) (inl none)
  excused old new had some (inr (inr (inl (failed, more)))) = told_of_disk (ap kind_of_error failed ∙ named_of_disk old new) (inr (inl (omega (arith, more))))
  excused old new had some (inr (inr (inr (full, limit)))) = told_of_disk (ap kind_of_error full) (inr (inr limit))

abbrev image : List ℕ → List ℕ → Image
image log db = record { log = log; db = db }

module _ {D : Type 0} (g : disk.Ghosts D) (files : Files D) (log db : List ℕ) (log_is : g.seen files.log ≡ log) (db_is : g.seen files.db ≡ db) where
  -- an opening of files that show this
  pub opening_cause : (it : Leftover D g) (error : Error) (which : StoreKind) → which ≡ kind_of_error error → error ≢ SqliteFailure OutOfMemory → FailsToOpenFiles files it error → HasOpeningCause (image log db) which it
  opening_cause it error which told some fails =
      let found : image_of g files ≡ image log db = ap₂ image log_is db_is in
      excused (image log db) it error which told (tally_of_files g (files.log, files.db)) (tally_left it) (faults_of g files) some
      (subst (λ i. FailsAs (named (tally_of_files g (files.log, files.db)) (tally_left it)) (faults_of g files) (faults_left it) (IsFullLeft it) (IsOpenable i) error) found fails)
