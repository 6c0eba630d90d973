-- Calls inside a transaction, one after the other, and its end.
use Rattle.std.proofs.Common.{OnOk, Result, Ok, Err, ◌≡◌, inl, inr, true, false, refl, sym, ap, subst, ◌∙◌, arith, ℕ, List, []}
use Rattle.std.specs.Prelude.{IsTrue, IfErr, IsErr, IsOk, is_ok}
use Rattle.std.proofs.lemmas.Bool.{cases_Bool}
use Rattle.sqlite.specs.Tree.{Trees}
use Rattle.sqlite.specs.Order.{Row}
use Rattle.sqlite.specs.Effect.{Database}
use Rattle.sqlite.specs.Schema.{Schema}
use Rattle.sqlite.specs.Store.{Ghosts}
use Rattle.sqlite.specs.declared.error.Error.{Error}
use Rattle.sqlite.specs.Steps.{FailsToCommit}
use Rattle.sqlite.specs.State.{State, HasCleanDisk, Survives, Shows, KeepsCommit, KeepsCounts, IsRolledBack, Executes, ExecutesInside}
use Rattle.sqlite.specs.Held.{Held, state}
use Rattle.sqlite.proofs.StateLemmas.{survives_then}
use Rattle.sqlite.proofs.Callers.{survives_begin}
use Rattle.sqlite_catalog.specs.Listing.{IsSound}
use Rattle.sqlite.proofs.InsideLemmas.{inside_keeps, keeps_then}
use Rattle.uu_schema.specs.Steps.{Stands, Ready, Asked, OpenIfAnswered, Went, Outcome, Both, Undid, Ends, Whole}

still : (a b c : State) → Survives a b (λ _. ⊥) → Survives b c (λ _. ⊥) → Survives a c (λ _. ⊥)
still a b c p q = survives_then a b c (λ _. ⊥) (λ _. ⊥) (λ _. ⊥) (λ _ db none. none) (λ _ db none. none) p q

-- ---- one statement

module _ (from to : Schema) (Step : Trees → Trees → Type 0) (sql : List ℕ) (params : Row) (old new : State) where
  -- outside a transaction it does nothing
  keeps : (r : Result ℕ Error) → (old.in_transaction ≡ false → new ≡ old) → (HasCleanDisk new → IsTrue old.in_transaction → ExecutesInside 0 sql params old new r) → HasCleanDisk new → KeepsCommit old new
  keeps r ended runs clean = elim (cases_Bool old.in_transaction) [
    | inl inside ↦ inside_keeps old new 0 false sql params r (runs clean inside)
    | inr outside ↦ subst (KeepsCommit old) (sym (ended outside)) (record { was_open = λ is_open. is_open; committed = λ is_open. refl })
  ]

  module _ (means : (count : ℕ) → Stands from old.now → Executes sql params old new (Ok count) → Stands to new.now × Step old.now.trees new.now.trees) where
    took : (r : Result ℕ Error) → ExecutesInside 0 sql params old new r → Stands from old.now → OnOk r (Went to Step old new)
    took (Ok count) ran stands = let made = means count stands ran.0 in record { inside = ran.1.mode; committed = ran.1.committed_is; stands = made.0; step = made.1 }
    took (Err e) ran stands = tt

    pub statement : (r : Result ℕ Error) → (old.in_transaction ≡ false → new ≡ old) → (HasCleanDisk new → IsTrue old.in_transaction → ExecutesInside 0 sql params old new r) → Survives old new (λ _. ⊥)
        → Outcome from to Step old new r
    statement r ended runs survives = record { went = λ clean inside stands. took r (runs clean inside) stands; kept = keeps r ended runs; survives = survives }

-- ---- one call after the other

module _ {T E : Type 0} (from mid to : Schema) (A B : Trees → Trees → Type 0) (a b c : State) (r : Result T E) where
  both : (r : Result T E) → Went mid A a b → OnOk r (Went to B b c) → OnOk r (Went to (Both A B) a c)
  both (Ok x) one two = record { inside = two.inside; committed = two.committed ∙ one.committed; stands = two.stands; step = record { mid = b.now.trees; first = one.step; second = two.step } }
  both (Err e) one two = tt

  pub outcome_then : {U F : Type 0} (x : U) → Outcome {E = F} from mid A a b (Ok x) → Outcome mid to B b c r → Outcome from to (Both A B) a c r
  outcome_then x p q = record {
    went = λ clean inside stands. let one = p.went (omega (arith, q.survives.clean)) inside stands in both r one (q.went clean (rw one.inside) one.stands);
    kept = λ clean. keeps_then a b c (p.kept (omega (arith, q.survives.clean))) (q.kept clean);
    survives = still a b c p.survives q.survives;
  }

module _ {T E : Type 0} (from to : Schema) (a b : State) where
  also : (A B : Trees → Trees → Type 0) → ((x y : Trees) → A x y → B x y) → (r : Result T E) → OnOk r (Went to A a b) → OnOk r (Went to B a b)
  also A B is (Ok x) w = record { inside = w.inside; committed = w.committed; stands = w.stands; step = is _ _ w.step }
  also A B is (Err e) w = tt

  pub weaker : (A B : Trees → Trees → Type 0) → ((x y : Trees) → A x y → B x y) → (r : Result T E) → Outcome from to A a b r → Outcome from to B a b r
  weaker A B is r p = record { went = λ clean inside stands. also A B is r (p.went clean inside stands); kept = p.kept; survives = p.survives }

  -- what was refused took no step
  pub refused : (A : Trees → Trees → Type 0) → (r : Result T E) → IsErr r → (HasCleanDisk b → KeepsCommit a b) → Survives a b (λ _. ⊥) → Outcome from to A a b r
  refused A (Ok x) fails kept survives = absurd (cc)
  refused A (Err e) fails kept survives = record { went = λ clean inside stands. tt; kept = kept; survives = survives }

-- ---- the whole transaction

module _ (from to : Schema) {S : Type 0} (g : Ghosts S) (A : Trees → Trees → Type 0) (old : Held S) (last end : State) (ended : end.in_transaction ≡ false)
    (settled : (db : Trees) → IsTrue end.is_open → end.may_leave db → db ≡ end.committed.trees) where
  abbrev pub begun : State
  begun = state g (record old { in_transaction = true })

  abbrev pub was : State
  was = state g old

  -- a stop leaves the trees after the step, which list and obey the schema
  abbrev pub After : Trees → Type 0
  After db = Stands from was.now → A was.now.trees db × IsSound to db

  undid : (HasCleanDisk end → IsTrue end.is_open → (end.now ≡ was.committed) × (end.committed ≡ was.committed)) → HasCleanDisk end → Undid was end
  undid back clean = record { undone = back clean; left = λ is_open db may. settled db is_open may ∙ ap (λ (d : Database). d.trees) (back clean is_open).1 }

  -- one that is rolled back leaves what was committed as it began
  pub rolled_back : (HasCleanDisk last → KeepsCommit begun last) → (HasCleanDisk end → IsRolledBack last end) → Survives last end (λ _. ⊥) → HasCleanDisk end → Undid was end
  rolled_back kept back over = undid (λ clean is_open.
      let it = back clean in
      let same = (kept (omega (arith, clean, over.clean))).committed (it.was_open is_open) in ((it.undone is_open).0 ∙ same, (it.undone is_open).1 ∙ same))

  ends_err : {T E : Type 0} (r : Result T E) → IsErr r → Undid was end → Ends to A was end r
  ends_err (Ok x) fails u = absurd (cc)
  ends_err (Err e) fails u = u

  pub abandoned : {T E : Type 0} (r : Result T E) → IsErr r → (HasCleanDisk last → KeepsCommit begun last) → Survives begun last (λ _. ⊥) → (HasCleanDisk end → IsRolledBack last end) → Survives last end (λ _. ⊥)
      → Whole from to A was end r
  abandoned r fails kept first back over = record {
    ends = λ clean stands. ends_err r fails (rolled_back kept back over clean);
    survives = survives_then was last end (λ _. ⊥) (λ _. ⊥) After (λ _ db none. absurd none) (λ _ db none. absurd none) (survives_begin g old last (λ _. ⊥) first) over;
    idle = ended;
  }

  pub committed : {T E : Type 0} (x : T) (r : Result (Unit {0}) Error) → Outcome {E = E} from to A begun last (Ok x) → Survives last end (λ db. db ≡ last.now.trees)
      → (HasCleanDisk end → OnOk r (IsTrue last.in_transaction × Shows last end last.now last.now false × KeepsCounts last end × (end.marks ≡ [])))
      → (HasCleanDisk end → IfErr r (FailsToCommit last end)) → Whole from to A was end r
  committed x r h over ok err = record {
    ends = λ clean stands. each r (h.went (omega (arith, over.clean)) refl stands) (ok clean) (err clean) clean;
    survives = survives_then was last end (λ _. ⊥) (λ db. db ≡ last.now.trees) After (λ _ db none. absurd none)
        (λ clean db is stands. let went = h.went (omega (arith, over.clean)) refl stands in (subst (A was.now.trees) (sym is) went.step, subst (IsSound to) (sym is) went.stands.sound))
        (survives_begin g old last (λ _. ⊥) h.survives) over;
    idle = ended;
  }
    where
      each : (r : Result (Unit {0}) Error) → Went to A begun last → OnOk r (IsTrue last.in_transaction × Shows last end last.now last.now false × KeepsCounts last end × (end.marks ≡ []))
          → IfErr r (FailsToCommit last end) → HasCleanDisk end → Ends to A was end r
      each (Ok x) went ok err clean = record {
        rests = record { is_open = ok.1.is_open; idle = ended; settled = ok.1.now_is ∙ sym ok.1.committed_is };
        stands = subst (Stands to) (sym ok.1.now_is) went.stands;
        step = subst (λ (d : Database). A was.now.trees d.trees) (sym ok.1.now_is) went.step;
        left = λ db may. settled db ok.1.is_open may ∙ ap (λ (d : Database). d.trees) (ok.1.committed_is ∙ sym ok.1.now_is);
      }
      each (Err e) went ok (inl failed) clean = undid (λ clean is_open. ((failed.3.undone is_open).0 ∙ went.committed, (failed.3.undone is_open).1 ∙ went.committed)) clean
      each (Err e) went ok (inr late) clean = absurd (let a = went.inside in let b = late.1 in cc)

-- ---- questions, one after the other

module _ (expected : Schema) {T E : Type 0} (a b : State) (r : Result T E) where
  opened : (r : Result T E) (P : Type 0) → IsOk r → OnOk r P → P
  opened (Ok x) P ok h = h
  opened (Err e) P ok h = absurd (cc)

  -- after an answer the connection shows what it showed
  pub told_same : IsOk r → OpenIfAnswered expected a b r → HasCleanDisk b → Ready expected a → Ready expected b × (b.now ≡ a.now)
  told_same ok told clean ready = told.asked.same clean ready (opened r (IsTrue b.is_open) ok (told.is_open clean ready))

  pub told_then : (c : State) → IsOk r → OpenIfAnswered expected a b r → Asked expected b c → Asked expected a c
  told_then c ok p q = record {
    same = λ clean ready is_open.
        let one = told_same ok p (omega (arith, q.survives.clean)) ready in
        let two = q.same clean one.0 is_open in (two.0, two.1 ∙ one.1);
    survives = survives_then a b c (λ _. ¬ Ready expected a) (λ _. ¬ Ready expected b) (λ _. ¬ Ready expected a) (λ clean db never. never)
        (λ clean db never ready. never (told_same ok p (omega (arith, q.survives.clean)) ready).0) p.asked.survives q.survives;
  }

  pub told_told : {U F : Type 0} (c : State) (s : Result U F) → IsOk r → OpenIfAnswered expected a b r → OpenIfAnswered expected b c s → OpenIfAnswered expected a c s
  told_told c s ok p q = record { asked = told_then c ok p q.asked; is_open = λ clean ready. q.is_open clean (told_same ok p (omega (arith, q.asked.survives.clean)) ready).0 }

  -- the answer is read, or not
  pub told_also : {U F : Type 0} (s : Result U F) → IsOk r → OpenIfAnswered expected a b r → OpenIfAnswered expected a b s
  told_also (Ok y) ok told = record { asked = told.asked; is_open = λ clean ready. opened r (IsTrue b.is_open) ok (told.is_open clean ready) }
  told_also (Err e) ok told = record { asked = told.asked; is_open = λ clean ready. tt }

  pub told_not : {U F : Type 0} (s : Result U F) → IsErr s → OpenIfAnswered expected a b r → OpenIfAnswered expected a b s
  told_not (Ok y) fails told = absurd (cc)
  told_not (Err e) fails told = record { asked = told.asked; is_open = λ clean ready. tt }

-- ---- the same end, told otherwise

ends_as : {T E U F : Type 0} (to : Schema) (Step : Trees → Trees → Type 0) (a b : State) (r : Result T E) (q : Result U F) → is_ok q ≡ is_ok r → Ends to Step a b r → Ends to Step a b q
ends_as to Step a b (Ok x) (Ok y) same ends = ends
ends_as to Step a b (Ok x) (Err y) same ends = absurd (cc)
ends_as to Step a b (Err x) (Ok y) same ends = absurd (cc)
ends_as to Step a b (Err x) (Err y) same ends = ends

pub whole_as : {T E U F : Type 0} (from to : Schema) (Step : Trees → Trees → Type 0) (a b : State) (r : Result T E) (q : Result U F) → is_ok q ≡ is_ok r → Whole from to Step a b r → Whole from to Step a b q
whole_as from to Step a b r q same whole = record { ends = λ clean stands. ends_as to Step a b r q same (whole.ends clean stands); survives = whole.survives; idle = whole.idle }
