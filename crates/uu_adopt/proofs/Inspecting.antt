-- How the inspection of a database ends, with the caller's fault.
use Rattle.std.proofs.Common.{◌≡◌, ◌≢◌, inl, inr, Option, Some, Result, Ok, Err, refl, sym, ap, subst, ◌∙◌, arith}
use Rattle.std.specs.Prelude.{IsTrue, IsOk}
use Rattle.sqlite.specs.State as db
use Rattle.uu_schema.specs.Steps.{Stands, Rests}
use Rattle.uu_schema.specs.Spares.{Spares}
use Rattle.uu_schema.proofs.Questions.{spared_same}
use Rattle.uu_schema.specs.declared.fault.StoreFault.{StoreFault}
use Rattle.uu_schema.specs.declared.fault.StoreFault.TheVariants.{Memory, Store, Failed, Newer, Foreign as ForeignFault}
use Rattle.sqlite.specs.Effect.{Database}
use Rattle.uu_schema.specs.declared.version.Version.{Version}
use Rattle.uu_schema.specs.declared.version.Version.TheVariants.{First, Second, Third, Fourth}
use Rattle.sqlite.specs.Tree.{Trees}
use Rattle.sqlite.specs.Schema.{Schema}
use Rattle.uu_core.specs.State.{State}
use Rattle.uu_schema.specs.Faults.{IsFaultOfThisCall}
use Rattle.uu_schema.specs.Encoded.{HoldsStateAs, Encodes, EncodesAs}
use Rattle.uu_adopt.specs.Becoming.{Becomes, CreatesTables, MigratesState}
use Rattle.uu_adopt.specs.FoundTables.{HasNone, HasEarlier}
use Rattle.uu_adopt.specs.Version.{IsLater}
use Rattle.uu_adopt.specs.Adoption.{IsOfNone, Inspects, IsInspected, IsRefused, IsSpared, LeavesNoMore, UnlessStore, UnlessFailed, IsAsBefore, StopsAs}
use Rattle.uu_schema.proofs.Resting.{moved}
use Rattle.uu_schema.specs.Earlier.{IsEarlierVersion, schema_of}
use Rattle.uu_adopt.proofs.Creating.{none_found, all_found, last_found}
use Rattle.uu_adopt.proofs.Becoming.{unless_weaker}
use Rattle.uu_adopt.proofs.Settling.{Settles, leaves}
use Rattle.uu_adopt.proofs.Later.{not_later}

-- nothing differs, so the connection is at rest and shows what it did
rests_same : (a b d : db.State) → db.IsUnchanged b d → Rests b → b.now ≡ a.now → Rests d × (d.now ≡ a.now)
rests_same a b d same rests now =
    (record { is_open = same.0.is_open; idle = same.0.mode ∙ rests.idle; settled = same.0.now_is ∙ rests.settled ∙ sym same.0.committed_is }, same.0.now_is ∙ now)

-- a fact that holds also holds unless the store failed
unless : {T : Type 0} (r : Result T StoreFault) (P : Type 0) → P → UnlessStore r P
unless (Ok x) P p = p
unless (Err Memory) P p = p
unless (Err (Store kind)) P p = tt
unless (Err Failed) P p = p
unless (Err ForeignFault) P p = p
unless (Err Newer) P p = p

-- ---- what is found

module _ (v : Version) (a b : db.State) where
  pub inspected_spool : (db.HasCleanDisk b → Stands (schema_of v) a.now → (s : State) × HoldsStateAs v a.now.trees s) → IsInspected v a b (Ok tt)
  inspected_spool finds = record { ok = finds; newer = λ clean stands is. absurd (cc); foreign = λ clean stands is. absurd (cc) }

  pub inspected_foreign : (db.HasCleanDisk b → Stands (schema_of v) a.now → (IsLater a.now.trees → ⊥) × IsOfNone v a.now.trees) → IsInspected v a b (Err ForeignFault)
  inspected_foreign finds = record { ok = λ clean stands. tt; newer = λ clean stands is. absurd (cc); foreign = λ clean stands is. finds clean stands }

  pub inspected_later : (db.HasCleanDisk b → Stands (schema_of v) a.now → IsLater a.now.trees) → IsInspected v a b (Err Newer)
  inspected_later finds = record { ok = λ clean stands. tt; newer = λ clean stands is. finds clean stands; foreign = λ clean stands is. absurd (cc) }

  pub inspected_err : (fault : StoreFault) → IsFaultOfThisCall fault → IsInspected v a b (Err fault)
  inspected_err fault fresh = record {
    ok = λ clean stands. tt;
    newer = λ clean stands is. absurd (subst IsFaultOfThisCall (fault_is Newer is) fresh);
    foreign = λ clean stands is. absurd (subst IsFaultOfThisCall (fault_is ForeignFault is) fresh);
  }
    where
      fault_is : (other : StoreFault) → ◌≡◌ {A = Result (Unit {0}) StoreFault} (Err fault) (Err other) → fault ≡ other
      fault_is other h = cc

-- ---- what is left

module _ (a b : db.State) where
  pub spared_told : {T E : Type 0} (q : Result T E) (r : Result (Unit {0}) StoreFault) → IsOk q → Spares a b q → IsSpared a b r
  spared_told q r ok h = record {
    same = λ clean rests. unless r (Rests b × (b.now ≡ a.now)) (spared_same a b q ok h clean rests);
    stop = λ clean trees may. elim (h.survives.crash clean trees may) [ inl was ↦ was | inr none ↦ absurd none ];
  }

  pub spared_err : {T E : Type 0} (q : Result T E) (d : db.State) (fault : StoreFault) → Spares a b q → IsFaultOfThisCall fault → (db.HasCleanDisk d → fault ≡ Memory → IsTrue b.is_open × db.IsUnchanged b d) → db.Survives b d (λ _. ⊥) → IsSpared a d (Err fault)
  spared_err q d fault h fresh memory over = record {
    same = λ clean. same fault fresh (memory clean) clean;
    stop = λ clean trees may. elim (over.crash clean trees may) [
      | inl was ↦ elim (h.survives.crash (omega (arith, over.clean)) trees was) [ inl first ↦ first | inr none ↦ absurd none ]
      | inr none ↦ absurd none
    ];
  }
    where
      same : (fault : StoreFault) → IsFaultOfThisCall fault → (fault ≡ Memory → IsTrue b.is_open × db.IsUnchanged b d) → db.HasCleanDisk d → Rests a → UnlessStore {T = Unit {0}} (Err fault) (Rests d × (d.now ≡ a.now))
      same Memory fresh memory clean rests =
          let m = memory refl in
          let it = h.same (omega (arith, over.clean)) rests m.0 in rests_same a b d m.1 it.0 it.1
      same (Store kind) fresh memory clean rests = tt
      same Failed fresh memory clean rests = absurd fresh
      same ForeignFault fresh memory clean rests = absurd fresh
      same Newer fresh memory clean rests = absurd fresh

  -- the answer is what the rows show
  pub inspects_told : {T E : Type 0} (tables : Option Version) (q : Result T E) (r : Result (Unit {0}) StoreFault) → IsOk q → Spares a b q → ((v : Version) → tables ≡ Some v → IsInspected v a b r) → Inspects tables a b r
  inspects_told tables q r ok h inspected = record { inspected = inspected; spared = spared_told q r ok h; clean = h.survives.clean }

-- for a database without the spool's tables the inspection claims nothing
pub inspected_never : (v : Version) (a b : db.State) (r : Result (Unit {0}) StoreFault) → (Stands (schema_of v) a.now → ⊥) → IsInspected v a b r
inspected_never v a b r never = record {
  ok = λ clean stands. absurd (never stands);
  newer = λ clean stands. absurd (never stands);
  foreign = λ clean stands. absurd (never stands);
}

-- the inspection may assume that the database has the tables of the version
pub inspected_if : (v : Version) (a b : db.State) (r : Result (Unit {0}) StoreFault) → (Stands (schema_of v) a.now → IsInspected v a b r) → IsInspected v a b r
inspected_if v a b r h = record { ok = λ clean stands. (h stands).ok clean stands; newer = λ clean stands. (h stands).newer clean stands; foreign = λ clean stands. (h stands).foreign clean stands }

pub becomes_if : (from to : Schema) (Step : Trees → Trees → Type 0) (a b : db.State) (r : Result (Unit {0}) StoreFault) → (Stands from a.now → Becomes from to Step a b r) → Becomes from to Step a b r
becomes_if from to Step a b r h = record { ok = λ clean rests stands. (h stands).ok clean rests stands; memory = λ clean rests stands. (h stands).memory clean rests stands; stop = λ clean rests stands. (h stands).stop clean rests stands }

-- no question was asked
pub spared_self : (a : db.State) (r : Result (Unit {0}) StoreFault) → IsSpared a a r
spared_self a r = record { same = λ clean rests. unless r (Rests a × (a.now ≡ a.now)) (rests, refl); stop = λ clean trees may. may }

-- ---- taking a database

module _ (a b : db.State) where
  pub kept_as : (¬ HasNone a.now.schema → (HasEarlier a.now.schema → IsRefused (Ok tt)) → IsSpared a b (Ok tt)) → ((v : Version) → IsEarlierVersion v → MigratesState v a b (Ok tt)) → db.HasCleanDisk b → (v : Version) (s : State) → Rests a → EncodesAs v a.now s → Rests b × Encodes b.now s
  kept_as spared migrates clean First s rests enc = let it = (migrates First tt).ok clean rests enc.stands in (it.0, record { stands = it.1; holds = it.2.again s enc.holds })
  kept_as spared migrates clean Second s rests enc = let it = (migrates Second tt).ok clean rests enc.stands in (it.0, record { stands = it.1; holds = it.2.again s enc.holds })
  kept_as spared migrates clean Third s rests enc = let it = (migrates Third tt).ok clean rests enc.stands in (it.0, record { stands = it.1; holds = it.2.again s enc.holds })
  kept_as spared migrates clean Fourth s rests enc =
      let it = (spared (all_found Fourth a.now enc.stands) (λ earlier. absurd (last_found a.now enc.stands earlier))).same clean rests in (it.0, moved s a.now b.now it.1 enc)

  pub read_as : (v : Version) → IsInspected v a b (Ok tt) → db.HasCleanDisk b → Stands (schema_of v) a.now → (s : State) × EncodesAs v a.now s
  read_as v inspected clean stands = let it = inspected.ok clean stands in (it.0, record { stands = stands; holds = it.1 })

  pub taken_as : (v : Version) (fault : StoreFault) → IsInspected v a b (Err fault) → db.HasCleanDisk b → (s : State) → EncodesAs v a.now s → (fault ≢ ForeignFault) × (fault ≢ Newer)
  taken_as v fault inspected clean s enc =
      (λ is. (inspected.foreign clean enc.stands (ap Err is)).1 s enc.holds, λ is. not_later v a.now.trees s enc.holds (inspected.newer clean enc.stands (ap Err is)))

  pub refused_as : (v : Version) (fault : StoreFault) → IsInspected v a b (Err fault) → db.HasCleanDisk b → Stands (schema_of v) a.now → fault ≡ ForeignFault → (IsLater a.now.trees → ⊥) × ((s : State) → EncodesAs v a.now s → ⊥)
  refused_as v fault inspected clean stands is = let it = inspected.foreign clean stands (ap Err is) in (it.0, λ s enc. it.1 s enc.holds)

  pub same_as : (fault : StoreFault) → (¬ HasNone a.now.schema → (HasEarlier a.now.schema → IsRefused (Err fault)) → IsSpared a b (Err fault)) → CreatesTables a b (Err fault) → (HasNone a.now.schema → (fault ≢ ForeignFault) × (fault ≢ Newer)) → fault ≢ Failed
      → db.HasCleanDisk b → Rests a → UnlessFailed fault (IsAsBefore a b)
  same_as Memory spared creates welcome not_failed clean rests = record { some = λ some. (spared some (λ first. tt)).same clean rests; none = λ stands. creates.memory clean rests stands refl }
  same_as (Store kind) spared creates welcome not_failed clean rests = tt
  same_as Failed spared creates welcome not_failed clean rests = absurd (not_failed refl)
  same_as ForeignFault spared creates welcome not_failed clean rests = record { some = λ some. (spared some (λ first. tt)).same clean rests; none = λ stands. absurd ((welcome (none_found a.now stands)).0 refl) }
  same_as Newer spared creates welcome not_failed clean rests = record { some = λ some. (spared some (λ first. tt)).same clean rests; none = λ stands. absurd ((welcome (none_found a.now stands)).1 refl) }

  pub stops_as : (r : Result (Unit {0}) StoreFault) → Settles a → db.HasCleanDisk b → Rests a → (¬ HasNone a.now.schema → (HasEarlier a.now.schema → IsRefused r) → IsSpared a b r) → ((v : Version) → IsEarlierVersion v → MigratesState v a b r) → CreatesTables a b r → StopsAs a b
  stops_as r settles clean rests spared migrates creates = record {
    some = λ some other trees may. stays trees ((spared some (λ first. absurd (other first))).stop clean trees may);
    state = λ s enc trees may. leaves s a settles rests enc trees ((spared (all_found Fourth a.now enc.stands) (λ earlier. absurd (last_found a.now enc.stands earlier))).stop clean trees may);
    earlier = λ v early stands trees may. elim ((migrates v early).stop clean rests stands trees may) [ inl was ↦ inl (stays trees was) | inr made ↦ inr made ];
    none = λ stands trees may. elim (creates.stop clean rests stands trees may) [ inl was ↦ inl (stays trees was) | inr made ↦ inr made ];
  }
    where
      stays : (trees : Trees) → a.may_leave trees → trees ≡ a.now.trees
      stays trees was = settles trees rests.is_open was ∙ sym (ap (λ (d : Database). d.trees) rests.settled)

  -- if nothing was made, a stop leaves what was there
  pub unmade_as : (fault : StoreFault) → Settles a → UnlessFailed fault (db.HasCleanDisk b → LeavesNoMore a b) → db.HasCleanDisk b → Rests a → UnlessFailed fault ((trees : Trees) → b.may_leave trees → trees ≡ a.now.trees)
  unmade_as fault settles unmade clean rests =
      unless_weaker fault (λ less trees may. settles trees rests.is_open (less clean trees may) ∙ sym (ap (λ (d : Database). d.trees) rests.settled)) unmade

pub not_ok : {T : Type 0} (r : Result T StoreFault) (x : T) → r ≡ Err ForeignFault → r ≡ Ok x → ⊥
not_ok r x refused is = cc

pub same_fault : {T : Type 0} (r : Result T StoreFault) (fault other : StoreFault) → r ≡ Err fault → r ≡ Err other → fault ≡ other
same_fault r fault other is told = cc
