-- How the parts of a line's service make up the whole.
use Rattle.std.proofs.Common.{◌≡◌, ◌⊎◌, ◌∙◌, ◌++◌, ◌∷◌, inl, inr, ℕ, List, [], Vec, Option, Some, None, Result, Ok, Err, IfOk, IfErr, IfSome, OnOk, IsErrAnd, IsOkAnd, ap, append-nil, Bool, false, IsTrue, MatchOption, refl, subst, sym}
use Rattle.std.proofs.lemmas.Result.{err_from_is_err_and}
use Rattle.std.specs.declared.alloc.Global.{Global}
use Rattle.std.specs.Io.KnownBytes.{Appends}
use Rattle.sqlite.specs.Store.{Ghosts}
use Rattle.sqlite.specs.State.{HasCleanDisk}
use Rattle.uu_core.specs.State.{State}
use Rattle.uu_core.specs.declared.command.Command.{Command}
use Rattle.uu_schema.specs.declared.fault.StoreFault.{StoreFault}
use Rattle.uu_schema.specs.declared.fault.StoreFault.TheVariants as store
use Rattle.uu_store.specs.Runs.{Ran}
use Rattle.uu_store.specs.Spool as spool
use Rattle.uu_store.specs.declared.spool.Spool.{Spool}
use Rattle.uu_frame.specs.Writing.{IsCut}
use Rattle.uu_settings.specs.declared.settings.Settings.{Settings}
use Rattle.uu_request.specs.declared.request.Question.{Question}
use Rattle.uu_request.specs.declared.request.Request.TheVariants as request
use Rattle.uuspool.specs.Answers.{IsAnswer}
use Rattle.uuspool.specs.Served.{AreChosen, AreCommandsIn, IsBrokenOff, IsLate, IsNoted, IsOfCall, IsPrinted, IsServed, Marks}
use Rattle.uuspool.specs.declared.fault.Fault.{Fault}
use Rattle.uuspool.specs.declared.fault.Fault.TheVariants as fault

-- nothing was written
pub Appends_nothing : (contents : Option (List ℕ)) → Appends contents contents []
Appends_nothing None = tt
Appends_nothing (Some bytes) = sym (append-nil bytes)

-- a fault of printing
abbrev pub IsOfPrinting : Fault → Type 0
IsOfPrinting f = (f ≡ fault.Write) ⊎ (f ≡ fault.Memory)

-- ---- how a request ends

-- what is printed, in other words
pub printed_as : (Is Other : List ℕ → ℕ → Type 0) (written other : List ℕ → Type 0) (r : Result ℕ Fault)
    → ((output : List ℕ) (status : ℕ) → Is output status → Other output status) → ((output : List ℕ) → written output → other output)
    → IsPrinted Is written r → IsPrinted Other other r
printed_as Is Other written other (Ok status) into over (output, is, wrote) = (output, into output status is, over output wrote)
printed_as Is Other written other (Err fault.Write) into over (output, status, is, (front, rest, whole, some, wrote)) =
    (output, status, into output status is, (front, rest, whole, some, over front wrote))
printed_as Is Other written other (Err fault.Memory) into over nothing = over [] nothing
printed_as Is Other written other (Err (fault.Store why)) into over none = none
printed_as Is Other written other (Err (fault.Words text help)) into over none = none
printed_as Is Other written other (Err (fault.Settings why)) into over none = none
printed_as Is Other written other (Err (fault.Name why)) into over none = none
printed_as Is Other written other (Err (fault.Time why)) into over none = none
printed_as Is Other written other (Err fault.TwoSystems) into over none = none
printed_as Is Other written other (Err fault.Input) into over none = none
printed_as Is Other written other (Err fault.Read) into over none = none
printed_as Is Other written other (Err (fault.Bundle why)) into over none = none

pub broken_as : (why : StoreFault) (output : List ℕ) (written other : List ℕ → Type 0) (r : Result ℕ Fault)
    → ((text : List ℕ) → written text → other text) → IsBrokenOff why output written r → IsBrokenOff why output other r
broken_as why output written other (Ok status) over none = none
broken_as why output written other (Err (fault.Store told)) over (same, wrote) = (same, over output wrote)
broken_as why output written other (Err fault.Write) over (front, rest, whole, some, wrote) = (front, rest, whole, some, over front wrote)
broken_as why output written other (Err fault.Memory) over (some, nothing) = (some, over [] nothing)
broken_as why output written other (Err (fault.Words text help)) over none = none
broken_as why output written other (Err (fault.Settings is)) over none = none
broken_as why output written other (Err (fault.Name is)) over none = none
broken_as why output written other (Err (fault.Time is)) over none = none
broken_as why output written other (Err fault.TwoSystems) over none = none
broken_as why output written other (Err fault.Input) over none = none
broken_as why output written other (Err fault.Read) over none = none
broken_as why output written other (Err (fault.Bundle is)) over none = none

-- the fault is one that comes with the calls of the spool
pub printed_is_late : (Is : List ℕ → ℕ → Type 0) (written : List ℕ → Type 0) (r : Result ℕ Fault) → IsPrinted Is written r → IfErr r IsLate
printed_is_late Is written (Ok status) it = tt
printed_is_late Is written (Err fault.Write) it = tt
printed_is_late Is written (Err fault.Memory) it = tt
printed_is_late Is written (Err (fault.Store why)) none = absurd none
printed_is_late Is written (Err (fault.Words text help)) none = none
printed_is_late Is written (Err (fault.Settings why)) none = none
printed_is_late Is written (Err (fault.Name why)) none = none
printed_is_late Is written (Err (fault.Time why)) none = none
printed_is_late Is written (Err fault.TwoSystems) none = none
printed_is_late Is written (Err fault.Input) none = none
printed_is_late Is written (Err fault.Read) none = none
printed_is_late Is written (Err (fault.Bundle why)) none = none

broken_is_late : (why : StoreFault) (output : List ℕ) (written : List ℕ → Type 0) (r : Result ℕ Fault) → IsOfCall why → IsBrokenOff why output written r → IfErr r IsLate
broken_is_late why output written (Ok status) call none = tt
broken_is_late why output written (Err (fault.Store told)) call (same, wrote) = subst IsOfCall (sym same) call
broken_is_late why output written (Err fault.Write) call it = tt
broken_is_late why output written (Err fault.Memory) call it = tt
broken_is_late why output written (Err (fault.Words text help)) call none = none
broken_is_late why output written (Err (fault.Settings is)) call none = none
broken_is_late why output written (Err (fault.Name is)) call none = none
broken_is_late why output written (Err (fault.Time is)) call none = none
broken_is_late why output written (Err fault.TwoSystems) call none = none
broken_is_late why output written (Err fault.Input) call none = none
broken_is_late why output written (Err fault.Read) call none = none
broken_is_late why output written (Err (fault.Bundle is)) call none = none

pub end_is_late : (stopped : Option StoreFault) (Is : List ℕ → ℕ → Type 0) (output : List ℕ) (written : List ℕ → Type 0) (r : Result ℕ Fault) → IfSome stopped IsOfCall
    → MatchOption stopped (IsPrinted Is written r) (λ why. IsBrokenOff why output written r) → IfErr r IsLate
end_is_late None Is output written r call printed = printed_is_late Is written r printed
end_is_late (Some why) Is output written r call broken = broken_is_late why output written r call broken

-- an empty text has no rest
no_rest : (front rest : List ℕ) → front ++ rest ≡ [] → rest ≡ []
no_rest [] rest is = is
no_rest (x ∷ front) rest is = absurd (cc)

-- if nothing was to be written, the fault is the store's, and nothing was written
pub broken_of_nothing : (why : StoreFault) (output : List ℕ) (written : List ℕ → Type 0) (r : Result ℕ Fault) → output ≡ [] → IsBrokenOff why output written r
    → (r ≡ Err (fault.Store why)) × written []
broken_of_nothing why output written (Ok status) empty none = absurd none
broken_of_nothing why output written (Err (fault.Store told)) empty (same, wrote) = (ap (λ w. Err (fault.Store w)) same, subst written empty wrote)
broken_of_nothing why output written (Err fault.Write) empty (front, rest, whole, some, wrote) = absurd (some (no_rest front rest (sym whole ∙ empty)))
broken_of_nothing why output written (Err fault.Memory) empty (some, nothing) = absurd (some empty)
broken_of_nothing why output written (Err (fault.Words text help)) empty none = absurd none
broken_of_nothing why output written (Err (fault.Settings is)) empty none = absurd none
broken_of_nothing why output written (Err (fault.Name is)) empty none = absurd none
broken_of_nothing why output written (Err (fault.Time is)) empty none = absurd none
broken_of_nothing why output written (Err fault.TwoSystems) empty none = absurd none
broken_of_nothing why output written (Err fault.Input) empty none = absurd none
broken_of_nothing why output written (Err fault.Read) empty none = absurd none
broken_of_nothing why output written (Err (fault.Bundle is)) empty none = absurd none

-- a fault of a call of a spool
pub marked_is_of_call : (before after : Bool) (why : StoreFault) → spool.IsFaultBetween before after why → IsOfCall why
marked_is_of_call before after store.Memory marked = tt
marked_is_of_call before after (store.Store kind) marked = tt
marked_is_of_call before after store.Failed marked = tt
marked_is_of_call before after store.Foreign marked = marked
marked_is_of_call before after store.Newer marked = marked

pub marks_of_call : (before after : Bool) (why : StoreFault) → spool.IsFaultBetween before after why → Marks before after (Some why)
marks_of_call before after store.Memory marked = marked
marks_of_call before after (store.Store kind) marked = marked.0
marks_of_call before after store.Failed marked = marked
marks_of_call before after store.Foreign marked = marked
marks_of_call before after store.Newer marked = marked

pub marks_of_run : (before after : Bool) (stopped : Option StoreFault)
    → MatchOption stopped ((before ≡ false) × (after ≡ false)) (spool.IsFaultBetween before after) → Marks before after stopped
marks_of_run before after None marked = marked
marks_of_run before after (Some why) marked = marks_of_call before after why marked

pub noted_of_call : {S : Type 0} {g : Ghosts S} (old new : Spool S g) (why : StoreFault)
    → spool.IsFaultBetween (spool.has_failed old) (spool.has_failed new) why → IsNoted old new (Some why)
noted_of_call old new store.Memory marked = λ clean s shown kind same. absurd (cc)
noted_of_call old new (store.Store why) marked = λ clean s shown kind same. marked.1
noted_of_call old new store.Failed marked = λ clean s shown kind same. marked.1
noted_of_call old new store.Foreign marked = absurd marked
noted_of_call old new store.Newer marked = absurd marked

pub noted_of_run : {S : Type 0} {g : Ghosts S} (old new : Spool S g) (stopped : Option StoreFault)
    → MatchOption stopped ((spool.has_failed old ≡ false) × (spool.has_failed new ≡ false)) (spool.IsFaultBetween (spool.has_failed old) (spool.has_failed new))
    → IsNoted old new stopped
noted_of_run old new None marked = λ clean s shown kind same. absurd (cc)
noted_of_run old new (Some why) marked = noted_of_call old new why marked

-- if a spool had failed, only that is reported
pub failed_alone : (before after : Bool) (why : StoreFault) → Marks before after (Some why) → IsTrue before → why ≡ store.Failed
failed_alone before after store.Memory marked had = absurd (cc)
failed_alone before after (store.Store kind) marked had = absurd (cc)
failed_alone before after store.Failed marked had = refl
failed_alone before after store.Foreign marked had = absurd marked
failed_alone before after store.Newer marked had = absurd marked

-- no spool had failed
pub never_failed : {X : Type 0} (before : Bool) → before ≡ false → IsTrue before → X
never_failed before is had = absurd (cc)

-- ---- an output that was made and printed, with its status

made_is_cut : {E : Type 0} (made : Result (Vec ℕ Global) E) (status : ℕ) (written P : List ℕ → Type 0) (Q : List ℕ → ℕ → Type 0) → ((output : List ℕ) → P output → Q output status)
    → IsOkAnd made (λ output. IsCut output.items written) → IfOk made (λ output. P output.items) → (output : List ℕ) × (status : ℕ) × Q output status × IsCut output written
made_is_cut (Ok output) status written P Q into cut has = (output.items, status, into output.items has, cut)
made_is_cut (Err none) status written P Q into cut has = absurd cut

pub printed : {E : Type 0} (r : Result ℕ Fault) (made : Result (Vec ℕ Global) E) (status : ℕ) (written P : List ℕ → Type 0) (Q : List ℕ → ℕ → Type 0)
    → ((output : List ℕ) → P output → Q output status)
    → OnOk r (IsOkAnd made (λ output. written output.items)) → IfOk r (λ answered. answered ≡ status) → IfErr r IsOfPrinting
    → (r ≡ Err fault.Write → IsOkAnd made (λ output. IsCut output.items written)) → (r ≡ Err fault.Memory → written [])
    → IfOk made (λ output. P output.items) → IsPrinted Q written r
printed (Ok answered) (Ok output) status written P Q into is same printing cut nothing has = (output.items, subst (Q output.items) (sym same) (into output.items has), is)
printed (Ok answered) (Err none) status written P Q into is same printing cut nothing has = absurd is
printed (Err f) made status written P Q into is same (inl write) cut nothing has =
    subst (λ (g : Fault). let r : Result ℕ Fault = Err g in IsPrinted Q written r) (sym write) (made_is_cut made status written P Q into (cut (ap Err write)) has)
printed (Err f) made status written P Q into is same (inr memory) cut nothing has =
    subst (λ (g : Fault). let r : Result ℕ Fault = Err g in IsPrinted Q written r) (sym memory) (nothing (ap Err memory))

-- ---- commands

-- the commands are those in the state
pub chosen_so : (Are : List Command → Type 0) (r : Result ℕ Fault) (commands : List Command) → Are commands → AreChosen commands Are r
chosen_so Are (Ok status) commands is = is
chosen_so Are (Err why) commands is = inl is

-- ---- questions

-- what is printed of the answer, and the status, in each state that the spool showed
abbrev pub Answers : {S : Type 0} {g : Ghosts S} → Settings → Question → Spool S g → Spool S g → List ℕ → ℕ → Type 0
Answers settings q old new output status = HasCleanDisk (spool.disk new) → (s : State) → spool.Shows old s → IsAnswer settings s q output status

module _ {S : Type 0} {g : Ghosts S} (settings : Settings) (q : Question) (old new : Spool S g) (written : List ℕ → Type 0) where
  -- the question was answered, and its answer printed
  pub question_served : (r : Result ℕ Fault) → Ran 1 [] old new [] None → (spool.has_failed old ≡ false) × (spool.has_failed new ≡ false)
      → (HasCleanDisk (spool.disk new) → (s : State) → spool.Shows old s → spool.Shows new s) → IsPrinted (Answers settings q old new) written r
      → IsServed settings (request.Question q) old new written r
  question_served r ran marked shows answered = record {
    commands = [];
    are = refl;
    chosen = λ clean s shown. chosen_so (AreCommandsIn settings s (request.Question q)) r [] refl;
    replies = [];
    stopped = None;
    ran = ran;
    every = refl;
    printed = λ none. printed_as (Answers settings q old new) _ written written r (λ output status is. (tt, is)) (λ output wrote. wrote) answered;
    shows = λ none. shows;
    broken_off = λ why same. absurd (cc);
    late = printed_is_late (Answers settings q old new) written r answered;
    marked = marked;
    noted = λ clean s shown kind same. absurd (cc);
    failed = never_failed (spool.has_failed old) marked.0;
  }

  -- the store gave a fault, and nothing was printed
  pub question_unanswered : (why : StoreFault) → Ran 1 [] old new [] (Some why) → Marks (spool.has_failed old) (spool.has_failed new) (Some why)
      → IsNoted old new (Some why) → (IsTrue (spool.has_failed old) → new ≡ old) → IsOfCall why → written []
      → (let r : Result ℕ Fault = Err (fault.Store why) in IsServed settings (request.Question q) old new written r)
  question_unanswered why ran marked noted failed call nothing = record {
    commands = [];
    are = refl;
    chosen = λ clean s shown. inl refl;
    replies = [];
    stopped = Some why;
    ran = ran;
    every = refl;
    printed = λ same. absurd (cc);
    shows = λ same. absurd (cc);
    broken_off = λ other same. (let is : why ≡ other = cc in (is, nothing));
    late = call;
    marked = marked;
    noted = noted;
    failed = λ had. (ap (λ w. Err (fault.Store w)) (failed_alone (spool.has_failed old) (spool.has_failed new) why marked had), nothing, failed had);
  }

  -- and its fault goes on as the program's
  pub fault_goes_on : (r : Result ℕ Fault) (why : StoreFault) → IsErrAnd r (λ f. f ≡ fault.Store why) → Ran 1 [] old new [] (Some why)
      → spool.IsFaultBetween (spool.has_failed old) (spool.has_failed new) why → (IsTrue (spool.has_failed old) → new ≡ old) → written []
      → IsServed settings (request.Question q) old new written r
  fault_goes_on r why told ran marked failed nothing =
      let (f, is, store) = err_from_is_err_and r told in
      subst (IsServed settings (request.Question q) old new written) (sym (is ∙ ap Err store))
      (question_unanswered why ran (marks_of_call _ _ why marked) (noted_of_call old new why marked) failed (marked_is_of_call _ _ why marked) nothing)
