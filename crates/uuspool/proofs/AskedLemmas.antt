-- Several questions of one spool, one after the other.
use Rattle.std.proofs.Common.{◌≡◌, ◌∙◌, Bool, true, false, [], Option, Some, None, Result, Ok, Err, IfOk, IsErrAnd, ap, arith, refl, subst, sym}
use Rattle.std.specs.Prelude.{IsTrue, ⊤}
use Rattle.std.proofs.lemmas.Result.{err_from_is_err_and}
use Rattle.sqlite.specs.Store.{Ghosts}
use Rattle.sqlite.specs.State.{HasCleanDisk}
use Rattle.uu_core.specs.State.{State}
use Rattle.uu_schema.specs.declared.fault.StoreFault.{StoreFault}
use Rattle.uu_schema.specs.declared.fault.StoreFault.TheVariants as store
use Rattle.uu_schema.specs.declared.fault.StoreKind.{StoreKind}
use Rattle.uu_store.specs.Questions.{IsQuestion}
use Rattle.uu_store.specs.Runs.{Ran, fault_in}
use Rattle.uu_store.specs.Spool as spool
use Rattle.uu_store.specs.declared.spool.Spool.{Spool}
use Rattle.uuspool.specs.Internal.Asked.{IsAsked, WasAsked}
use Rattle.uuspool.specs.Served.{IsOfCall, Marks}

-- ---- one question

marks_of : (before after : Bool) (why : StoreFault) → spool.IsFaultBetween before after why → Marks before after (Some why)
marks_of before after store.Memory marked = marked
marks_of before after (store.Store kind) marked = marked.0
marks_of before after store.Failed marked = marked
marks_of before after store.Foreign marked = marked
marks_of before after store.Newer marked = marked

failed_after : (before after : Bool) (why : StoreFault) (kind : StoreKind) → spool.IsFaultBetween before after why → Some why ≡ Some (store.Store kind) → after ≡ true
failed_after before after store.Memory kind marked same = absurd (cc)
failed_after before after (store.Store why) kind marked same = marked.1
failed_after before after store.Failed kind marked same = marked.1
failed_after before after store.Foreign kind marked same = absurd marked
failed_after before after store.Newer kind marked same = absurd marked

pub marks_are_of_call : (before after : Bool) (why : StoreFault) → Marks before after (Some why) → IsOfCall why
marks_are_of_call before after store.Memory marked = tt
marks_are_of_call before after (store.Store kind) marked = tt
marks_are_of_call before after store.Failed marked = tt
marks_are_of_call before after store.Foreign marked = marked
marks_are_of_call before after store.Newer marked = marked

module _ {S : Type 0} {g : Ghosts S} where
  pub asked_one : {T : Type 0} (Is : State → T → Type 0) (old new : Spool S g) (r : Result T StoreFault) → IsQuestion Is old new r → IsAsked (λ s. ⊤) Is old new r
  asked_one Is old new (Ok answer) asked = record {
    marked = asked.marked;
    noted = λ clean s shown known kind same. absurd (cc);
    answer = λ clean s shown known. asked.answer clean s shown;
    clean = asked.clean;
    ran = asked.ran;
    failed = λ had. (asked.failed had).1;
  }
  asked_one Is old new (Err why) asked = record {
    marked = marks_of (spool.has_failed old) (spool.has_failed new) why asked.marked;
    noted = λ clean s shown known kind same. failed_after (spool.has_failed old) (spool.has_failed new) why kind asked.marked same;
    answer = λ clean s shown known. tt;
    clean = asked.clean;
    ran = asked.ran;
    failed = λ had. (asked.failed had).1;
  }

  -- ---- one after the other

  -- two runs of no command are one
  ran_on : (old mid new : Spool S g) (stopped : Option StoreFault) → Ran 1 [] old mid [] None → Ran 1 [] mid new [] stopped → Ran 1 [] old new [] stopped
  ran_on old mid new stopped first second = record {
    within = second.within;
    from = λ clean s shown. second.from clean s ((first.from (clean_at clean) s shown).shows tt);
    clean = omega (arith, first.clean, second.clean);
  }
    where
      clean_at : HasCleanDisk (spool.disk new) → HasCleanDisk (spool.disk mid)
      clean_at clean = omega (arith, second.clean, clean)

  module _ {A : Type 0} (Knows : State → Type 0) (Is : State → A → Type 0) (old mid new : Spool S g) (a : A) (first : (let r : Result A StoreFault = Ok a in IsAsked Knows Is old mid r)) where
    never : {X : Type 0} → IsTrue (spool.has_failed old) → X
    never had = had_not (spool.has_failed old) first.marked.0 had
      where
        had_not : {X : Type 0} (before : Bool) → before ≡ false → IsTrue before → X
        had_not before is had = absurd (cc)

    -- and the next, whose caller knows what was answered
    pub asked_then : {B : Type 0} (Knew : State → Type 0) (Next : State → B → Type 0) (r : Result B StoreFault) → ((s : State) → spool.Shows old s → Knows s → Is s a → Knew s)
        → IsAsked Knew Next mid new r → IsAsked Knows (λ s b. Is s a × Next s b) old new r
    asked_then {B} Knew Next r knew next = record {
      marked = over r next.marked;
      noted = λ clean s shown known kind same. (let was = first.answer (clean_at clean) s shown known in next.noted clean s was.1 (knew s shown known was.0) kind same);
      answer = λ clean s shown known.
          let was = first.answer (clean_at clean) s shown known in
          both r (Is s a) (spool.Shows new s) (Next s) was.0 (next.answer clean s was.1 (knew s shown known was.0));
      clean = omega (arith, first.clean, next.clean);
      ran = ran_on old mid new (fault_in r) first.ran next.ran;
      failed = never;
    }
      where
        clean_at : HasCleanDisk (spool.disk new) → HasCleanDisk (spool.disk mid)
        clean_at clean = omega (arith, next.clean, clean)

        over : (r : Result B StoreFault) → Marks (spool.has_failed mid) (spool.has_failed new) (fault_in r) → Marks (spool.has_failed old) (spool.has_failed new) (fault_in r)
        over r marked = subst (λ (b : Bool). Marks b (spool.has_failed new) (fault_in r)) (first.marked.1 ∙ sym first.marked.0) marked

        both : (r : Result B StoreFault) (P Q : Type 0) (N : B → Type 0) → P → IfOk r (λ b. N b × Q) → IfOk r (λ b. (P × N b) × Q)
        both (Ok b) P Q N p it = ((p, it.0), it.1)
        both (Err why) P Q N p it = tt

  -- ---- what follows from it

  module _ {A : Type 0} (Knows : State → Type 0) (Is : State → A → Type 0) (old new : Spool S g) where
    -- what was answered, said in other words
    pub asked_as : {B : Type 0} (Other : State → B → Type 0) (a : A) (b : B) → ((s : State) → spool.Shows old s → Knows s → Is s a → Other s b)
        → (let r : Result A StoreFault = Ok a in IsAsked Knows Is old new r) → (let r : Result B StoreFault = Ok b in IsAsked Knows Other old new r)
    asked_as Other a b into asked = record {
      marked = asked.marked;
      noted = λ clean s shown known kind same. absurd (cc);
      answer = λ clean s shown known. (let was = asked.answer clean s shown known in (into s shown known was.0, was.1));
      clean = asked.clean;
      ran = asked.ran;
      failed = asked.failed;
    }

    -- a fault that goes on
    pub asked_fault_as : {B : Type 0} (Other : State → B → Type 0) (why : StoreFault)
        → (let r : Result A StoreFault = Err why in IsAsked Knows Is old new r) → (let r : Result B StoreFault = Err why in IsAsked Knows Other old new r)
    asked_fault_as Other why asked = record {
      marked = asked.marked;
      noted = asked.noted;
      answer = λ clean s shown known. tt;
      clean = asked.clean;
      ran = asked.ran;
      failed = asked.failed;
    }

    -- there was no memory for what was to be made of the answer
    pub asked_refused : {B : Type 0} (Other : State → B → Type 0) (a : A)
        → (let r : Result A StoreFault = Ok a in IsAsked Knows Is old new r) → (let r : Result B StoreFault = Err store.Memory in IsAsked Knows Other old new r)
    asked_refused Other a asked = record {
      marked = asked.marked;
      noted = λ clean s shown known kind same. absurd (cc);
      answer = λ clean s shown known. tt;
      clean = asked.clean;
      ran = record {
        within = asked.ran.within;
        from = λ clean s shown. (let from = asked.ran.from clean s shown in record { answers = from.answers; shows = λ on. from.shows tt; stop = λ on. from.stop tt; stop_store = from.stop_store });
        clean = asked.ran.clean;
      };
      failed = asked.failed;
    }

  -- no question was asked yet
  pub asked_nothing : (Knows Is : State → Type 0) (old : Spool S g) → Ran 1 [] old old [] None → spool.has_failed old ≡ false → ((s : State) → spool.Shows old s → Knows s → Is s) → WasAsked Knows Is old old
  asked_nothing Knows Is old ran usable is = record {
    marked = (usable, usable);
    noted = λ clean s shown known kind same. absurd (cc);
    answer = λ clean s shown known. (is s shown known, shown);
    clean = ran.clean;
    ran = ran;
    failed = λ had. refl;
  }

  -- ---- a fault of the call is the caller's

  pub asked_goes_on : {A B : Type 0} (Knows : State → Type 0) (Is : State → A → Type 0) (Other : State → B → Type 0) (old new : Spool S g) (r : Result B StoreFault) (why : StoreFault) → IsErrAnd r (λ f. f ≡ why)
      → (let q : Result A StoreFault = Err why in IsAsked Knows Is old new q) → IsAsked Knows Other old new r
  asked_goes_on Knows Is Other old new r why told asked =
      let (f, is, same) = err_from_is_err_and r told in
      subst (IsAsked Knows Other old new) (sym (is ∙ ap Err same)) (asked_fault_as Knows Is old new Other why asked)

  -- there was no memory for what was to be made of the answer, and that is the caller's fault
  pub asked_refused_as : {A B : Type 0} (Knows : State → Type 0) (Is : State → A → Type 0) (Other : State → B → Type 0) (old new : Spool S g) (r : Result B StoreFault) (a : A) → IsErrAnd r (λ f. f ≡ store.Memory)
      → (let q : Result A StoreFault = Ok a in IsAsked Knows Is old new q) → IsAsked Knows Other old new r
  asked_refused_as Knows Is Other old new r a told asked =
      let (f, is, same) = err_from_is_err_and r told in
      subst (IsAsked Knows Other old new) (sym (is ∙ ap Err same)) (asked_refused Knows Is old new Other a asked)

  -- what holds for any knowledge of the caller holds for what it knows in each state
  pub asked_of_any : {X T : Type 0} (one : X) (Knows : X → State → Type 0) (Is : X → State → T → Type 0) (old new : Spool S g) (r : Result T StoreFault)
      → ((x : X) → IsAsked (Knows x) (Is x) old new r) → IsAsked (λ s. (x : X) × Knows x s) (λ s a. (x : X) → Knows x s → Is x s a) old new r
  asked_of_any one Knows Is old new (Ok a) asked = record {
    marked = (asked one).marked;
    noted = λ clean s shown known kind same. absurd (cc);
    answer = λ clean s shown known. (λ x knows. ((asked x).answer clean s shown knows).0, ((asked known.0).answer clean s shown known.1).1);
    clean = (asked one).clean;
    ran = (asked one).ran;
    failed = (asked one).failed;
  }
  asked_of_any one Knows Is old new (Err why) asked = record {
    marked = (asked one).marked;
    noted = λ clean s shown known. (asked known.0).noted clean s shown known.1;
    answer = λ clean s shown known. tt;
    clean = (asked one).clean;
    ran = (asked one).ran;
    failed = (asked one).failed;
  }
