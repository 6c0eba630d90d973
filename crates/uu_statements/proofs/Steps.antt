-- How changes that are planned end, once for all plans.
use Rattle.std.proofs.Common.{◌≡◌, List, ◌⊎◌, refl, inl, inr, Result, Ok, Err, sym, subst, ◌∙◌, arith}
use Rattle.std.specs.Prelude.{IsTrue, IsOk, IsErr}
use Rattle.sqlite.specs.Tree.{Trees}
use Rattle.sqlite.specs.State as db
use Rattle.sqlite.specs.declared.error.Error.{Error}
use Rattle.sqlite.proofs.StateLemmas.{survives_then}
use Rattle.sqlite_catalog.specs.Listing.{IsSound}
use Rattle.uu_schema.specs.Steps.{Rests, Whole, Ends, Did}
use Rattle.uu_schema.proofs.Resting.{is_memory}
use Rattle.uu_core.specs.State.{State}
use Rattle.uu_tables.specs.declared.change.Change.{Change}
use Rattle.uu_tables.specs.Tables.{tables_of}
use Rattle.uu_tables.specs.Changes.{applied}
use Rattle.uu_schema.specs.Faults.{kind_of_error}
use Rattle.uu_schema.specs.Schema.{spool_schema}
use Rattle.uu_schema.specs.Held.{Holds}
use Rattle.uu_statements.specs.Makes.{MakesAll}
use Rattle.uu_schema.specs.declared.fault.StoreFault.{StoreFault}
use Rattle.uu_schema.specs.declared.fault.StoreKind.{StoreKind}
use Rattle.uu_schema.specs.declared.fault.StoreFault.TheVariants.{Memory, Store}
use Rattle.uu_schema.specs.declared.fault.Halt.{Halt}
use Rattle.uu_schema.specs.declared.fault.Halt.TheVariants.{Before, Commit}
use Rattle.uu_statements.specs.Step.{HasTables, IsWrittenStep, IsToldStep}

module _ {R : Type 0} (s t : State) (reply : R) (a : db.State) where
  module _ (b : db.State) (changes : List Change) (leads : applied changes (tables_of s) ≡ tables_of t) {T E : Type 0} (w : Result T E) (whole : Whole spool_schema spool_schema (MakesAll changes) a b w) where
    means : (old new : Trees) → Holds old (tables_of s) → MakesAll changes old new → Holds new (tables_of t)
    means old new holds made = subst (Holds new) leads (made (tables_of s) holds)

    left : db.HasCleanDisk b → Rests a → HasTables a.now s → (trees : Trees) → b.may_leave trees → a.may_leave trees ⊎ (IsSound spool_schema trees × Holds trees (tables_of t))
    left clean rests enc trees may = elim (whole.survives.crash clean trees may) [
      | inl was ↦ inl was
      | inr made ↦ inr (let m = made enc.stands in (m.1, means a.now.trees trees enc.holds m.0))
    ]

    pub step_written : {F : Type 0} → IsOk w → IsWrittenStep {E = F} s t reply a b (Ok reply)
    step_written done = record {
      ok = λ clean rests enc.
          let did = did_of w (whole.ends clean enc.stands) done in
          (refl, did.rests, record { stands = did.stands; holds = means a.now.trees b.now.trees enc.holds did.step });
      err = λ clean rests enc. tt;
      stop = left;
      clean = whole.survives.clean;
    }
      where
        did_of : (w : Result T E) → Ends spool_schema (MakesAll changes) a b w → IsOk w → Did spool_schema (MakesAll changes) a b
        did_of (Ok x) ends done = ends
        did_of (Err e) ends done = absurd (cc)

    pub step_unwritten : {F : Type 0} (r : Result R F) → IsErr r → IsErr w → IsWrittenStep s t reply a b r
    step_unwritten (Ok x) fails undone = absurd (cc)
    step_unwritten (Err e) fails undone = record {
      ok = λ clean rests enc. tt;
      err = λ clean rests enc is_open. back w (whole.ends clean enc.stands) undone rests is_open enc;
      stop = left;
      clean = whole.survives.clean;
    }
      where
        back : (w : Result T E) → Ends spool_schema (MakesAll changes) a b w → IsErr w → Rests a → IsTrue b.is_open → HasTables a.now s → Rests b × HasTables b.now s
        back (Ok x) ends undone rests is_open enc = absurd (cc)
        back (Err e) ends undone rests is_open enc =
            let u = ends.undone is_open in
            (record { is_open = is_open; idle = whole.idle; settled = u.0 ∙ sym u.1 }, subst (λ d. HasTables d s) (sym (u.0 ∙ sym rests.settled)) enc)

-- ---- the caller's fault

store_is_not_memory : (kind : StoreKind) → Store kind ≡ Memory → ⊥
store_is_not_memory kind h = absurd (cc)

-- the fault is out of memory only for what stopped before its commit
pub memory_before : {T : Type 0} (a b d : db.State) (halt : Halt) (fault : StoreFault)
    → ((error : Error) → ◌≡◌ {A = Result T Halt} (Err halt) (Err (Before error)) → db.Survives a b (λ _. ⊥))
    → ((error : Error) → halt ≡ Commit error → fault ≡ Store (kind_of_error error))
    → db.Survives b d (λ _. ⊥) → fault ≡ Memory → db.Survives a d (λ _. ⊥)
memory_before a b d (Before error) fault before commit over is = survives_then a b d (λ _. ⊥) (λ _. ⊥) (λ _. ⊥) (λ _ db none. none) (λ _ db none. none) (before error refl) over
memory_before a b d (Commit error) fault before commit over is = absurd (store_is_not_memory (kind_of_error error) (sym (commit error refl) ∙ is))

-- nothing differs, so the connection is at rest and encodes what it did
unchanged : (s : State) (b d : db.State) → db.IsUnchanged b d → Rests b → HasTables b.now s → Rests d × HasTables d.now s
unchanged s b d same rests enc =
    (record { is_open = same.0.is_open; idle = same.0.mode ∙ rests.idle; settled = same.0.now_is ∙ rests.settled ∙ sym same.0.committed_is }, subst (λ now. HasTables now s) (sym same.0.now_is) enc)

module _ {R : Type 0} (s t : State) (reply : R) (a b : db.State) where
  pub told_written : {E : Type 0} (answer : R) → IsWrittenStep {E = E} s t reply a b (Ok answer) → IsToldStep s t reply a b (Ok answer)
  told_written answer step = record { ok = step.ok; memory = λ clean rests enc is. absurd (cc); stop = step.stop; clean = step.clean }

  pub told_unwritten : {E : Type 0} (d : db.State) (e : E) (fault : StoreFault) → IsWrittenStep s t reply a b (Err e) → (db.HasCleanDisk d → fault ≡ Memory → IsTrue b.is_open × db.IsUnchanged b d) → db.Survives b d (λ _. ⊥)
      → IsToldStep s t reply a d (Err fault)
  told_unwritten d e fault step memory over = record {
    ok = λ clean rests enc. tt;
    memory = λ clean rests enc is.
        let m = memory clean (is_memory fault is) in
        let it = step.err (omega (arith, over.clean)) rests enc m.0 in unchanged s b d m.1 it.0 it.1;
    stop = λ clean rests enc trees may. elim (over.crash clean trees may) [ inl was ↦ step.stop (omega (arith, over.clean)) rests enc trees was | inr none ↦ absurd none ];
    clean = omega (arith, step.clean, over.clean);
  }
