-- A question of a spool: what its three ends come to.
use Rattle.std.proofs.Common.{◌≡◌, inl, inr, true, false, true≢false, [], None, Some, Result, Ok, Err, refl, sym, ap, subst, ◌∙◌, arith}
use Rattle.std.specs.Prelude.{IsTrue, IfOk}
use Rattle.sqlite.specs.declared.error.Error.{Error}
use Rattle.sqlite.specs.Store.{Ghosts}
use Rattle.sqlite.specs.State as db
use Rattle.uu_core.specs.State.{State}
use Rattle.uu_schema.specs.declared.fault.StoreFault.{StoreFault}
use Rattle.uu_schema.specs.declared.fault.StoreFault.TheVariants.{Memory, Failed}
use Rattle.uu_schema.specs.Encoded.{Encodes, Leaves}
use Rattle.uu_schema.specs.Schema.{spool_schema}
use Rattle.uu_schema.specs.Steps.{Asked, StaysUnclean}
use Rattle.uu_schema.proofs.Steps.{told_same}
use Rattle.uu_schema.proofs.Resting.{ready, moved, unchanged, is_memory}
use Rattle.uu_questions.specs.Answers.{Answers, IsStateOf}
use Rattle.uu_adopt.proofs.Settling.{Settles, leaves}
use Rattle.uu_store.specs.declared.spool.Spool.{Spool}
use Rattle.uu_store.specs.Spool.{disk, failure_of, has_failed, Shows, IsFaultBetween, Notes}
use Rattle.uu_store.specs.Questions.{IsQuestion, IsTold}
use Rattle.uu_store.proofs.Ending.{noted_memory}
use Rattle.uu_store.proofs.Running.{memory_of, one_ahead, ran_asked, ran_failed}

-- what a database encodes, in the words of the questions
asked_of : (s : State) (a : db.State) → Encodes a.now s → IsStateOf s a
asked_of s a enc = record { stands = enc.stands; good = enc.holds.good; holds = enc.holds.tables }

-- the spool had failed before
pub question_failed : {S : Type 0} {g : Ghosts S} {T : Type 0} (IsAnswer : State → T → Type 0) (spool : Spool S g) → has_failed spool ≡ true → IsQuestion IsAnswer spool spool (Err Failed)
question_failed IsAnswer spool failed = record {
  marked = (failed, failed);
  noted = tt;
  answer = λ clean s shows. tt;
  memory = λ clean s shows is. shows;
  stop = λ clean s shows. never s shows;
  clean = omega arith;
  ran = ran_failed spool [] 1 (one_ahead []) failed;
  failed = λ had. (refl, refl);
}
  where
    never : {P : Type 0} (s : State) → Shows spool s → P
    never s shows = absurd (true≢false (sym failed ∙ shows.usable))

module _ {S : Type 0} {g : Ghosts S} {T : Type 0} (IsAnswer : State → T → Type 0) (old now : Spool S g) (was : has_failed old ≡ false) (settles : Settles (disk old)) where
  not_failed : {P : Type 0} → has_failed old ≡ true → P
  not_failed had = absurd (true≢false (sym had ∙ was))

  -- the question was answered
  question_answered : (answer : T) → has_failed now ≡ false → Answers {T = T} IsAnswer (disk old) (disk now) (Ok answer) → IsQuestion IsAnswer old now (Ok answer)
  question_answered answer usable it = record {
    marked = (was, usable);
    noted = tt;
    answer = λ clean s shows. (it.exact clean s (asked_of s (disk old) shows.encodes), again clean s shows);
    memory = λ clean s shows is. absurd (cc);
    stop = stop;
    clean = it.told.asked.survives.clean;
    ran = ran_asked old now None (λ clean s shows on. again clean s shows) stop it.told.asked.survives.clean;
    failed = not_failed;
  }
    where
      again : db.HasCleanDisk (disk now) → (s : State) → Shows old s → Shows now s
      again clean s shows =
          let r : Result T Error = Ok answer in
          let same = told_same spool_schema (disk old) (disk now) r refl it.told clean (ready s (disk old) shows.rests shows.encodes) in
          record { usable = usable; rests = same.0.rests; encodes = moved s (disk old).now (disk now).now same.1 shows.encodes }

      stop : db.HasCleanDisk (disk now) → (s : State) → Shows old s → Leaves (disk now) s
      stop clean s shows trees may = elim (it.told.asked.survives.crash clean trees may) [
        | inl left ↦ leaves s (disk old) settles shows.rests shows.encodes trees left
        | inr never ↦ absurd (never (ready s (disk old) shows.rests shows.encodes))
      ]

  -- it was not, and the spool noted the fault
  question_unanswered : (b : db.State) (fault : StoreFault) → IsFaultBetween false (has_failed now) fault → Notes (failure_of now) fault → Asked spool_schema (disk old) b
      → (db.HasCleanDisk (disk now) → fault ≡ Memory → IsTrue b.is_open × db.IsUnchanged b (disk now)) → db.Survives b (disk now) (λ _. ⊥) → IsQuestion IsAnswer old now (Err fault)
  question_unanswered b fault between notes asked memory over = record {
    marked = subst (λ before. IsFaultBetween before (has_failed now) fault) (sym was) between;
    noted = notes;
    answer = λ clean s shows. tt;
    memory = λ clean s shows is. again clean s shows (is_memory fault is);
    stop = stop;
    clean = stays;
    ran = ran_asked old now (Some fault) (λ clean s shows on. again clean s shows (memory_of fault on)) stop stays;
    failed = not_failed;
  }
    where
      stays : StaysUnclean (disk old) (disk now)
      stays = omega (arith, over.clean, asked.survives.clean)

      again : db.HasCleanDisk (disk now) → (s : State) → Shows old s → fault ≡ Memory → Shows now s
      again clean s shows is =
          let m = memory clean is in
          let same = asked.same (omega (arith, clean, over.clean)) (ready s (disk old) shows.rests shows.encodes) m.0 in
          let at = unchanged s b (disk now) m.1 same.0.rests (moved s (disk old).now b.now same.1 shows.encodes) in
          record { usable = noted_memory false (has_failed now) fault between is; rests = at.0; encodes = at.1 }

      stop : db.HasCleanDisk (disk now) → (s : State) → Shows old s → Leaves (disk now) s
      stop clean s shows trees may = elim (over.crash clean trees may) [
        | inl mid ↦ elim (asked.survives.crash (omega (arith, clean, over.clean)) trees mid) [
          | inl left ↦ leaves s (disk old) settles shows.rests shows.encodes trees left
          | inr never ↦ absurd (never (ready s (disk old) shows.rests shows.encodes))
        ]
        | inr none ↦ absurd none
      ]

  -- what was asked over the connection, and then the caller's answer
  pub question_told : (mid : Spool S g) → has_failed mid ≡ false → (asked : Result T Error) (r : Result T StoreFault) → IsTold asked mid now r → Answers {T = T} IsAnswer (disk old) (disk mid) asked → IsQuestion IsAnswer old now r
  question_told mid usable asked (Ok answer) told it =
      question_answered answer (ap (λ (spool : Spool S g). has_failed spool) told.same.1 ∙ usable) (subst (λ (spool : Spool S g). Answers {T = T} IsAnswer (disk old) (disk spool) (Ok answer)) (sym told.same.1) (subst (Answers {T = T} IsAnswer (disk old) (disk mid)) told.same.0 it))
  question_told mid usable asked (Err fault) told it = question_unanswered (disk mid) fault told.marked told.noted it.told.asked (λ clean is. told.memory clean (ap Err is)) told.survives

-- what holds of each answer holds of the caller's
pub told_holds : {S : Type 0} {g : Ghosts S} {T : Type 0} (P : T → Type 0) (asked : Result T Error) (old now : Spool S g) (r : Result T StoreFault) → IsTold asked old now r → IfOk asked P → IfOk r P
told_holds P asked old now (Ok answer) told holds = subst (λ it. IfOk it P) told.same.0 holds
told_holds P asked old now (Err fault) told holds = tt
