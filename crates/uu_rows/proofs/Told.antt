-- What holds of a caller's answer.
use Rattle.std.proofs.Common.{◌≡◌, ◌≢◌, Result, Ok, Err, Option, MatchOption, sym, subst, refl}
use Rattle.std.specs.Prelude.{IfOk, IfErr}
use Rattle.sqlite.specs.declared.error.Error.{Error}
use Rattle.sqlite.specs.declared.error.Error.TheVariants.{SqliteFailure, QueryReturnedNoRows}
use Rattle.sqlite.specs.declared.error.ErrorCode.TheVariants.{OutOfMemory}
use Rattle.uu_rows.specs.declared.fault.RowFault.{RowFault}
use Rattle.uu_rows.specs.declared.fault.RowFault.TheVariants.{Memory, Bad}
use Rattle.uu_rows.specs.Faults.{or_error, or_none}

-- ---- as an error

ok_of : {T : Type 0} (P : T → Type 0) (read : Result T RowFault) → IfOk read P → IfOk (or_error read) P
ok_of P (Ok x) h = h
ok_of P (Err fault) h = tt

memory_of : {T : Type 0} (read : Result T RowFault) → (read ≡ Err Bad → ⊥) → IfErr (or_error read) (λ error. error ≡ SqliteFailure OutOfMemory)
memory_of (Ok x) none = tt
memory_of (Err Memory) none = refl
memory_of (Err Bad) none = absurd (none refl)

bad_of : {T : Type 0} (read : Result T RowFault) → IfErr (or_error read) (λ error. error ≢ SqliteFailure OutOfMemory → error ≡ QueryReturnedNoRows)
bad_of (Ok x) = tt
bad_of (Err Memory) = λ other. absurd (other refl)
bad_of (Err Bad) = λ other. refl

module _ {T : Type 0} (read : Result T RowFault) (told : Result T Error) (is : told ≡ or_error read) where
  pub told_ok : (P : T → Type 0) → IfOk read P → IfOk told P
  told_ok P h = subst (λ r. IfOk r P) (sym is) (ok_of P read h)

  -- out of memory is the only error if the rows aren't bad
  pub told_memory : (read ≡ Err Bad → ⊥) → IfErr told (λ error. error ≡ SqliteFailure OutOfMemory)
  told_memory none = subst (λ r. IfErr r (λ error. error ≡ SqliteFailure OutOfMemory)) (sym is) (memory_of read none)

  pub told_bad : IfErr told (λ error. error ≢ SqliteFailure OutOfMemory → error ≡ QueryReturnedNoRows)
  told_bad = subst (λ r. IfErr r (λ error. error ≢ SqliteFailure OutOfMemory → error ≡ QueryReturnedNoRows)) (sym is) (bad_of read)

-- ---- as none

found_of : {T : Type 0} (Absent : Type 0) (P : T → Type 0) (read : Result T RowFault) → IfOk read P → (read ≡ Err Bad → Absent) → IfOk (or_none read) (λ found. MatchOption found Absent P)
found_of Absent P (Ok x) h none = h
found_of Absent P (Err Bad) h none = none refl
found_of Absent P (Err Memory) h none = tt

only_memory : {T : Type 0} (read : Result T RowFault) → IfErr (or_none read) (λ error. error ≡ SqliteFailure OutOfMemory)
only_memory (Ok x) = tt
only_memory (Err Bad) = tt
only_memory (Err Memory) = refl

module _ {T : Type 0} (read : Result T RowFault) (told : Result (Option T) Error) (is : told ≡ or_none read) where
  -- the answer is none only if the rows are bad
  pub found_or_none : (Absent : Type 0) (P : T → Type 0) → IfOk read P → (read ≡ Err Bad → Absent) → IfOk told (λ found. MatchOption found Absent P)
  found_or_none Absent P h none = subst (λ r. IfOk r (λ found. MatchOption found Absent P)) (sym is) (found_of Absent P read h none)

  pub none_but_memory : IfErr told (λ error. error ≡ SqliteFailure OutOfMemory)
  none_but_memory = subst (λ r. IfErr r (λ error. error ≡ SqliteFailure OutOfMemory)) (sym is) (only_memory read)
