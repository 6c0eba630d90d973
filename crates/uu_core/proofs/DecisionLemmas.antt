-- What is accepted, and why.
use Rattle.std.proofs.Common.{◌≡◌, ℕ, Bool, true, false, cond, ◌==◌, List, [], Option, Some, None, Ok, Err, refl, ap, sym, ◌∙◌}
use Rattle.std.proofs.lemmas.Bool.{false≢true}
use Rattle.uu_core.specs.declared.custody.HandIn.TheVariants.{First}
use Rattle.uu_core.specs.declared.custody.Key.{Key}
use Rattle.uu_core.specs.declared.custody.Taken.{Taken}
use Rattle.uu_core.specs.declared.job.NewJob.{NewJob}
use Rattle.uu_core.specs.declared.command.Command.{Command}
use Rattle.uu_core.specs.declared.refusal.Refusal.{Refusal}
use Rattle.uu_core.specs.Refusal.{decided, first_reason, value_unless}
use Rattle.uu_core.specs.State.{State, numbers_end}
use Rattle.uu_core.specs.Verdict.{verdict, fresh_reasons, once_reasons, is_other, is_too_large}
use Rattle.uu_core.specs.After.{after, after_verdict, accept, reply_to, hand_in_of}
use Rattle.uu_core.proofs.KeyLemmas.{first_is}
use Rattle.uu_core.proofs.WellFormedLemmas.{once_accepted}

pub carried : (state : State) (command : Command) → verdict state command ≡ None → after state command ≡ (accept state command, reply_to state command)
carried state command e = ap (λ v. after_verdict v state command) e

pub none_decided : {V : Type 0} (reasons : List (Bool × Refusal)) (value x : V) → decided reasons value ≡ Ok x → (first_reason reasons ≡ None) × (value ≡ x)
none_decided {V} reasons value x e = by_first (first_reason reasons) e
  where
    by_first : (v : Option Refusal) → value_unless v value ≡ Ok x → (v ≡ None) × (value ≡ x)
    by_first None e = (refl, cc)
    by_first (Some refusal) e = absurd (cc)

pub some_decided : {V : Type 0} (reasons : List (Bool × Refusal)) (value : V) (refusal : Refusal) → decided reasons value ≡ Err refusal → first_reason reasons ≡ Some refusal
some_decided {V} reasons value refusal e = by_first (first_reason reasons) e
  where
    by_first : (v : Option Refusal) → value_unless v value ≡ Err refusal → v ≡ Some refusal
    by_first None e = absurd (cc)
    by_first (Some other) e = cc

-- why a job that comes for the first time is accepted: it is small enough, and a number is left
pub first_room : (known : Bool) (next below : ℕ) (taken : Option Taken) (key : Key) (job : NewJob) (number : ℕ) → Ok (First number) ≡ decided (once_reasons known next below taken key job) (hand_in_of taken key next) → (is_too_large job ≡ false) × ((next == numbers_end) ≡ false) × (next ≡ number)
first_room known next below taken key job number e =
    let d = none_decided (once_reasons known next below taken key job) (hand_in_of taken key next) (First number) (sym e) in
    let first = first_is taken key next number d.1 in
    let why = once_accepted known next below (is_other taken key) key job (ap (λ again. first_reason (cond again [] (fresh_reasons known next below (is_other taken key) key job))) (sym first.0) ∙ d.0) in
    (why.0, why.2, first.1)

pub not_last : (next number : ℕ) → (next == numbers_end) ≡ false → next ≡ number → number ≡ 4294967295 → ⊥
not_last next number free same e = false≢true (sym free ∙ ap (λ n. n == numbers_end) (same ∙ e))
