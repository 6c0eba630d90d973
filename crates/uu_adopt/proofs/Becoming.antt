-- How a database becomes one of another schema: that of an empty spool is made, and that of an
-- earlier version made one of the version that is written.
use Rattle.std.proofs.Common.{◌≡◌, inl, inr, false, Result, Ok, Err, refl, sym, subst, ◌∙◌, arith}
use Rattle.std.specs.Prelude.{IsTrue, IsOk, IsErr, OnOk, IfErr}
use Rattle.sqlite.specs.Schema.{Schema}
use Rattle.sqlite.specs.Effect.{Database}
use Rattle.sqlite.specs.Tree.{Trees}
use Rattle.sqlite.specs.State as db
use Rattle.sqlite.specs.Store.{Ghosts}
use Rattle.sqlite.specs.declared.transaction.Transaction.{Transaction}
use Rattle.uu_schema.specs.Statements.{TakesStep}
use Rattle.uu_schema.specs.Steps.{Stands, Rests, Whole, Did, Undid, Ends, Went, Outcome}
use Rattle.uu_core.specs.State.{State, IsWellFormed, empty}
use Rattle.uu_schema.specs.Held.{MakesEmpty}
use Rattle.uu_schema.specs.Schema.{spool_schema}
use Rattle.uu_schema.specs.Earlier.{schema_of}
use Rattle.uu_schema.specs.declared.version.Version.{Version}
use Rattle.uu_schema.specs.Faults.{IsFaultOfThisCall, kind_of_error}
use Rattle.sqlite.specs.declared.error.Error.{Error}
use Rattle.uu_schema.specs.declared.fault.Halt.{Halt}
use Rattle.uu_schema.specs.declared.fault.Halt.TheVariants.{Before, Commit}
use Rattle.uu_schema.specs.declared.fault.StoreFault.{StoreFault}
use Rattle.uu_schema.specs.declared.fault.StoreFault.TheVariants.{Memory, Store, Failed, Newer, Foreign as ForeignFault}
use Rattle.uu_schema.specs.Encoded.{HoldsState, HoldsStateAs, HoldsAgain, Migrated}
use Rattle.uu_adopt.specs.Becoming.{Becomes, MigratesState}
use Rattle.uu_adopt.specs.Adoption.{IsInspected, IsRefused, IsSpared, LeavesNoMore, UnlessFailed, UnlessStore}
use Rattle.uu_schema.proofs.Resting.{is_memory}
use Rattle.uu_schema.specs.Earlier.{schema_of}

module _ (from to : Schema) (Step Wanted : Trees → Trees → Type 0) (means : (old new : Trees) → Step old new → Wanted old new) (a b : db.State) where
  pub becomes_ok : {E : Type 0} (w : Result (Unit {0}) E) → IsOk w → Whole from to Step a b w → Becomes from to Wanted a b (Ok tt)
  becomes_ok w done whole = record {
    ok = λ clean rests stands. let did = did_of w (whole.ends clean stands) done in (did.rests, did.stands, means a.now.trees b.now.trees did.step);
    memory = λ clean rests stands is. absurd (cc);
    stop = λ clean rests stands trees may. elim (whole.survives.crash clean trees may) [ inl was ↦ inl was | inr made ↦ inr (let m = made stands in (m.1, means a.now.trees trees m.0)) ];
  }
    where
      did_of : {E : Type 0} (w : Result (Unit {0}) E) → Ends to Step a b w → IsOk w → Did to Step a b
      did_of (Ok x) e done = e
      did_of (Err x) e done = absurd (cc)

  pub becomes_err : {E : Type 0} (d : db.State) (w : Result (Unit {0}) E) (fault : StoreFault) → IsErr w → Whole from to Step a b w
      → (db.HasCleanDisk d → fault ≡ Memory → IsTrue b.is_open × db.IsUnchanged b d) → db.Survives b d (λ _. ⊥) → Becomes from to Wanted a d (Err fault)
  becomes_err d w fault undone whole memory over = record {
    ok = λ clean rests stands. tt;
    memory = λ clean rests stands is.
        let m = memory clean (is_memory fault is) in
        let it = back w (whole.ends (omega (arith, over.clean)) stands) undone m.0 rests in
        (record { is_open = m.1.0.is_open; idle = m.1.0.mode ∙ it.0.idle; settled = m.1.0.now_is ∙ it.0.settled ∙ sym m.1.0.committed_is }, m.1.0.now_is ∙ it.1);
    stop = λ clean rests stands trees may. elim (over.crash clean trees may) [
      | inl was ↦ elim (whole.survives.crash (omega (arith, over.clean)) trees was) [ inl first ↦ inl first | inr made ↦ inr (let m = made stands in (m.1, means a.now.trees trees m.0)) ]
      | inr none ↦ absurd none
    ];
  }
    where
      back : {E : Type 0} (w : Result (Unit {0}) E) → Ends to Step a b w → IsErr w → IsTrue b.is_open → Rests a → Rests b × (b.now ≡ a.now)
      back (Ok x) e undone is_open rests = absurd (cc)
      back (Err x) e undone is_open rests = let u = e.undone is_open in (record { is_open = is_open; idle = whole.idle; settled = u.0 ∙ sym u.1 }, u.0 ∙ sym rests.settled)

-- what the transaction makes of the trees, in the words of states
pub makes_empty : IsWellFormed empty → (old new : Trees) → MakesEmpty old new → HoldsState new empty
makes_empty good old new step = record { tables = step; good = good }

-- ---- after out of memory nothing can have been committed

pub halted_unmade : (a b d : db.State) (halt : Halt) (w : Result (Unit {0}) Halt) (fault : StoreFault) → w ≡ Err halt → IsFaultOfThisCall fault → ((error : Error) → w ≡ Err (Before error) → db.Survives a b (λ _. ⊥))
    → ((error : Error) → halt ≡ Commit error → fault ≡ Store (kind_of_error error)) → db.Survives b d (λ _. ⊥) → UnlessFailed fault (db.HasCleanDisk d → LeavesNoMore a d)
halted_unmade a b d halt w (Store kind) is fresh before commit over = tt
halted_unmade a b d halt w Failed is fresh before commit over = absurd fresh
halted_unmade a b d halt w ForeignFault is fresh before commit over = absurd fresh
halted_unmade a b d halt w Newer is fresh before commit over = absurd fresh
halted_unmade a b d (Commit error) w Memory is fresh before commit over = absurd (let never = commit error refl in cc)
halted_unmade a b d (Before error) w Memory is fresh before commit over = λ clean trees may. elim (over.crash clean trees may) [
  | inl was ↦ (let first = before error is in elim (first.crash (omega (arith, clean, over.clean)) trees was) [ inl still ↦ still | inr none ↦ absurd none ])
  | inr none ↦ absurd none
]

pub unless_weaker : (fault : StoreFault) {A B : Type 0} → (A → B) → UnlessFailed fault A → UnlessFailed fault B
unless_weaker Memory step h = step h
unless_weaker (Store kind) step h = tt
unless_weaker Failed step h = step h
unless_weaker ForeignFault step h = step h
unless_weaker Newer step h = step h

-- ---- an earlier version: looked at, and then made the one that is written

module _ (v : Version) (a b d : db.State) (first : IsInspected v a b (Ok tt)) (spared : IsSpared a b (Ok tt)) (early : db.HasCleanDisk d → db.HasCleanDisk b) where
  held : db.HasCleanDisk d → Stands (schema_of v) a.now → (s : State) × HoldsStateAs v a.now.trees s
  held clean stands = first.ok (early clean) stands

  stands_on : db.HasCleanDisk d → Rests a → Stands (schema_of v) a.now → Stands (schema_of v) b.now
  stands_on clean rests stands = subst (Stands (schema_of v)) (sym (spared.same (early clean) rests).1) stands

  migrated : db.HasCleanDisk d → Rests a → Stands (schema_of v) a.now → (trees : Trees) → HoldsAgain v b.now.trees trees → Migrated v a.now.trees trees
  migrated clean rests stands trees again =
      let it = held clean stands in
      record { state = it.0; held = it.1; again = subst (λ (now : Database). HoldsAgain v now.trees trees) (spared.same (early clean) rests).1 again }

  pub migrated_then : (r : Result (Unit {0}) StoreFault) → Becomes (schema_of v) spool_schema (HoldsAgain v) b d r → MigratesState v a d r
  migrated_then r h = record {
    ok = λ clean rests stands. done clean rests stands r (h.ok clean (spared.same (early clean) rests).0 (stands_on clean rests stands));
    memory = λ clean rests stands is. let same = spared.same (early clean) rests in let m = h.memory clean same.0 (stands_on clean rests stands) is in (m.0, m.1 ∙ same.1);
    stop = λ clean rests stands trees may. elim (h.stop clean (spared.same (early clean) rests).0 (stands_on clean rests stands) trees may) [
      | inl before ↦ inl (spared.stop (early clean) trees before)
      | inr made ↦ inr (made.0, migrated clean rests stands trees made.1)
    ];
  }
    where
      done : db.HasCleanDisk d → Rests a → Stands (schema_of v) a.now → (r : Result (Unit {0}) StoreFault) → OnOk r (Rests d × Stands spool_schema d.now × HoldsAgain v b.now.trees d.now.trees) → OnOk r (Rests d × Stands spool_schema d.now × Migrated v a.now.trees d.now.trees)
      done clean rests stands (Ok x) it = (it.0, it.1, migrated clean rests stands d.now.trees it.2)
      done clean rests stands (Err e) it = tt

  pub inspected_then : (r : Result (Unit {0}) StoreFault) → IfErr r IsFaultOfThisCall → IsInspected v a d r
  inspected_then (Ok x) fresh = record { ok = λ clean stands. held clean stands; newer = λ clean stands is. absurd (cc); foreign = λ clean stands is. absurd (cc) }
  inspected_then (Err fault) fresh = record {
    ok = λ clean stands. tt;
    newer = λ clean stands is. absurd (subst IsFaultOfThisCall (fault_is Newer is) fresh);
    foreign = λ clean stands is. absurd (subst IsFaultOfThisCall (fault_is ForeignFault is) fresh);
  }
    where
      fault_is : (other : StoreFault) → ◌≡◌ {A = Result (Unit {0}) StoreFault} (Err fault) (Err other) → fault ≡ other
      fault_is other h = cc

  pub unmade_then : (r : Result (Unit {0}) StoreFault) → IfErr r (λ fault. UnlessFailed fault (db.HasCleanDisk d → LeavesNoMore b d)) → IfErr r (λ fault. UnlessFailed fault (db.HasCleanDisk d → LeavesNoMore a d))
  unmade_then (Ok x) h = tt
  unmade_then (Err fault) h = unless_weaker fault (λ k clean trees may. spared.stop (early clean) trees (k clean trees may)) h

-- ---- if memory ran out before the commit, the database is as it was, whatever it holds

pub halted_spared : (a b d : db.State) (halt : Halt) (w : Result (Unit {0}) Halt) (fault : StoreFault) → w ≡ Err halt → IsFaultOfThisCall fault → b.in_transaction ≡ false → ((error : Error) → w ≡ Err (Before error) → db.HasCleanDisk b → Undid a b)
    → ((error : Error) → halt ≡ Commit error → fault ≡ Store (kind_of_error error)) → (db.HasCleanDisk d → fault ≡ Memory → IsTrue b.is_open × db.IsUnchanged b d) → db.Survives b d (λ _. ⊥)
    → UnlessFailed fault (db.HasCleanDisk d → LeavesNoMore a d) → IsRefused (Err fault) → IsSpared a d (Err fault)
halted_spared a b d halt w (Store kind) is fresh idle undone commit memory over less refused = absurd refused
halted_spared a b d halt w Failed is fresh idle undone commit memory over less refused = absurd fresh
halted_spared a b d halt w ForeignFault is fresh idle undone commit memory over less refused = absurd fresh
halted_spared a b d halt w Newer is fresh idle undone commit memory over less refused = absurd fresh
halted_spared a b d (Commit error) w Memory is fresh idle undone commit memory over less refused = absurd (let never = commit error refl in cc)
halted_spared a b d (Before error) w Memory is fresh idle undone commit memory over less refused = record {
  same = λ clean rests.
      let m = memory clean refl in
      let u = (undone error is (omega (arith, clean, over.clean))).undone m.0 in
      (record { is_open = m.1.0.is_open; idle = m.1.0.mode ∙ idle; settled = m.1.0.now_is ∙ u.0 ∙ sym (m.1.0.committed_is ∙ u.1) }, m.1.0.now_is ∙ u.0 ∙ sym rests.settled);
  stop = less;
}

-- a database that was looked at, and then not changed
pub spared_then : (a b d : db.State) (r : Result (Unit {0}) StoreFault) → IsSpared a b (Ok tt) → (db.HasCleanDisk d → db.HasCleanDisk b) → IsSpared b d r → IsSpared a d r
spared_then a b d r first early then = record {
  same = λ clean rests. let it = first.same (early clean) rests in after r it.1 (then.same clean it.0);
  stop = λ clean trees may. first.stop (early clean) trees (then.stop clean trees may);
}
  where
    after : (r : Result (Unit {0}) StoreFault) → b.now ≡ a.now → UnlessStore r (Rests d × (d.now ≡ b.now)) → UnlessStore r (Rests d × (d.now ≡ a.now))
    after (Ok x) same it = (it.0, it.1 ∙ same)
    after (Err Memory) same it = (it.0, it.1 ∙ same)
    after (Err (Store kind)) same it = tt
    after (Err Failed) same it = (it.0, it.1 ∙ same)
    after (Err ForeignFault) same it = (it.0, it.1 ∙ same)
    after (Err Newer) same it = (it.0, it.1 ∙ same)

-- an error of a database that was only looked at
pub spared_migrates : (v : Version) (a b : db.State) (fault : StoreFault) → IsSpared a b (Err fault) → MigratesState v a b (Err fault)
spared_migrates v a b fault spared = record {
  ok = λ clean rests stands. tt;
  memory = λ clean rests stands is. memory fault (is_memory fault is) (spared.same clean rests);
  stop = λ clean rests stands trees may. inl (spared.stop clean trees may);
}
  where
    memory : (fault : StoreFault) → fault ≡ Memory → UnlessFailed fault (Rests b × (b.now ≡ a.now)) → Rests b × (b.now ≡ a.now)
    memory Memory is h = h
    memory (Store kind) is h = absurd (cc)
    memory Failed is h = h
    memory ForeignFault is h = h
    memory Newer is h = h

pub spared_unmade : (a b : db.State) (fault : StoreFault) → IsSpared a b (Err fault) → UnlessFailed fault (db.HasCleanDisk b → LeavesNoMore a b)
spared_unmade a b Memory spared = spared.stop
spared_unmade a b (Store kind) spared = tt
spared_unmade a b Failed spared = spared.stop
spared_unmade a b ForeignFault spared = spared.stop
spared_unmade a b Newer spared = spared.stop

-- ---- the rows are written again, within a transaction

went_again : (to : Schema) (Step Wanted : Trees → Trees → Type 0) {T E : Type 0} (a b : db.State) (r : Result T E) → (Step a.now.trees b.now.trees → Wanted a.now.trees b.now.trees) → OnOk r (Went to Step a b) → OnOk r (Went to Wanted a b)
went_again to Step Wanted a b (Ok x) means went = record { inside = went.inside; committed = went.committed; stands = went.stands; step = means went.step }
went_again to Step Wanted a b (Err e) means went = tt

-- the step means something of what was there before
pub outcome_again : {from to : Schema} {Step Wanted : Trees → Trees → Type 0} {T E : Type 0} (a b : db.State) (r : Result T E) → (db.HasCleanDisk a → Stands from a.now → (trees : Trees) → Step a.now.trees trees → Wanted a.now.trees trees)
    → Outcome from to Step a b r → Outcome from to Wanted a b r
outcome_again {to = to} {Step = Step} {Wanted = Wanted} a b r means out = record {
  went = λ clean inside stands. went_again to Step Wanted a b r (means (omega (arith, clean, out.survives.clean)) stands b.now.trees) (out.went clean inside stands);
  kept = out.kept;
  survives = out.survives;
}

-- nothing was done before the error
pub nothing_done : {S : Type 0} {g : Ghosts S} {from to : Schema} {Step : Trees → Trees → Type 0} {T E : Type 0} {a : Transaction S} {r : Result T E} → IsErr r → TakesStep g from to Step a a r
nothing_done {r = r} fails = record {
  same_reference = refl;
  outcome = record {
    went = λ clean inside stands. none _ r fails;
    kept = λ clean. record { was_open = λ o. o; committed = λ o. refl };
    survives = record { clean = omega arith; shield = λ s. s; counts = omega arith; limit = refl; closes = λ clean o. inl o; crash = λ clean trees may. inl may };
  };
}
  where
    none : {T E : Type 0} (P : Type 0) (r : Result T E) → IsErr r → OnOk r P
    none P (Ok x) fails = absurd (cc)
    none P (Err e) fails = tt
