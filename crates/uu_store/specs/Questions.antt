-- What a question of a spool does.
use Rattle.std.specs.Prelude.{◌≡◌, false, [], IsTrue, IsErr, Result, Ok, Err, IfOk, IfErr, MatchResult}
use Rattle.sqlite.specs.declared.error.Error.{Error}
use Rattle.sqlite.specs.Store.{Ghosts}
use Rattle.sqlite.specs.State.{HasCleanDisk}
use Rattle.uu_core.specs.State.{State}
use Rattle.uu_schema.specs.declared.fault.StoreFault.{StoreFault}
use Rattle.uu_schema.specs.declared.fault.StoreFault.TheVariants.{Memory, Failed}
use Rattle.uu_schema.specs.Faults.{NamesPartOf, NamesPartUnlessMemory}
use Rattle.uu_schema.specs.Steps.{CommitsNothing, StaysUnclean, UnchangedIf}
use Rattle.uu_schema.specs.Encoded.{Leaves}
use Rattle.uu_store.specs.declared.spool.Spool.{Spool}
use Rattle.uu_store.specs.Spool.{connection_of, disk, failure_of, has_failed, Shows, IsFaultBetween, Notes}
use Rattle.uu_store.specs.Runs.{Ran, fault_in}

-- The answer to a question is that of the state that the spool shows. With any answer, nothing
-- changes.
pub record IsQuestion {S : Type 0} {g : Ghosts S} {T : Type 0} (IsAnswer : State → T → Type 0) (old new : Spool S g) (r : Result T StoreFault) : Type 0 where
  -- it has an answer if the spool can be used, before and afterwards; otherwise the fault says
  -- which
  pub marked : MatchResult r (λ _. (has_failed old ≡ false) × (has_failed new ≡ false)) (IsFaultBetween (has_failed old) (has_failed new))
  pub noted : IfErr r (Notes (failure_of new))
  -- on a clean store the answer is that of the state, which the spool shows as before, even if
  -- memory ran out
  pub answer : HasCleanDisk (disk new) → (s : State) → Shows old s → IfOk r (λ answer. IsAnswer s answer × Shows new s)
  pub memory : HasCleanDisk (disk new) → (s : State) → Shows old s → r ≡ Err Memory → Shows new s
  -- a stop at its end leaves that state
  pub stop : HasCleanDisk (disk new) → (s : State) → Shows old s → Leaves (disk new) s
  pub clean : StaysUnclean (disk old) (disk new)
  -- so it is a run of no command
  pub ran : Ran 1 [] old new [] (fault_in r)
  -- a spool that failed is left as it was
  pub failed : IsTrue (has_failed old) → (r ≡ Err Failed) × (new ≡ old)

-- What the caller gets for an answer to a question over the connection: the answer as it is, or the
-- fault of an error, which is noted. The fault is a failure of the part that the error is about. It
-- is out of memory only for that error, and only if the connection was open and nothing changed.
pub record IsTold {S : Type 0} {g : Ghosts S} {T : Type 0} (asked : Result T Error) (old new : Spool S g) (r : Result T StoreFault) : Type 0 where
  pub same : MatchResult r (λ answer. (asked ≡ Ok answer) × (new ≡ old)) (λ _. IsErr asked)
  pub cause : IfErr r (λ fault. IfErr asked (λ error. NamesPartOf error fault × NamesPartUnlessMemory error fault))
  pub marked : IfErr r (IsFaultBetween false (has_failed new))
  pub noted : IfErr r (Notes (failure_of new))
  pub memory : UnchangedIf g (r ≡ Err Memory) (connection_of old) (connection_of new)
  pub survives : CommitsNothing g (connection_of old) (connection_of new)
