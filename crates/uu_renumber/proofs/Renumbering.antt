-- What a later number leaves as it was.
use Rattle.std.proofs.Common.{◌≡◌, ℕ, ◌≤◌, ◌<◌, Bool, true, false, ◌==◌, [], ◌∷◌, ◌++◌, Option, Some, None, refl, ap, ◌∙◌, arith}
use Rattle.std.specs.Prelude.{max, not, nat_lt, if◌then◌else◌}
use Rattle.std.proofs.lemmas.Bool.{eqb-true, eq-eqb}
use Rattle.std.proofs.lemmas.List.Elements.{All-weaker}
use Rattle.uu_core.specs.declared.command.Command.{Command}
use Rattle.uu_core.specs.declared.command.Command.TheVariants.{Define, Remove, Queue, QueueOnce, Kill, Regrade, Rejuvenate, Failed, Done, Release, Entry, Forget}
use Rattle.uu_core.specs.declared.command.Reply.{Reply}
use Rattle.uu_core.specs.declared.custody.Taken.{Taken}
use Rattle.uu_core.specs.declared.refusal.Refusal.{Refusal}
use Rattle.uu_core.specs.declared.refusal.Refusal.TheVariants.{NoSystem, TooLarge, NumbersOut, Stale, Differs}
use Rattle.uu_core.specs.Refusal.{first_reason}
use Rattle.uu_core.specs.State.{State, Job, Link, IsWellFormed, has_system, link_of, numbers_end}
use Rattle.uu_core.specs.Verdict.{verdict, taken_of, is_again, is_other, is_too_large, are_known}
use Rattle.uu_core.specs.After.{after, after_verdict, accept, reply_to}
use Rattle.uu_core.specs.Laws.{handed_by}
use Rattle.uu_renumber.specs.Renumbered.{renumbered}

-- what was below the next number is below a later one
below_later : (next number n : ℕ) → n < next → n < max next number
below_later next number n below = omega arith

pub good : (state : State) (number : ℕ) → number ≤ numbers_end → IsWellFormed state → IsWellFormed (renumbered number state)
good state number small h = record {
  some_next = (let first = h.some_next in omega arith);
  next = (let last = h.next in omega arith);
  jobs = h.jobs;
  rising = h.rising;
  below_next = All-weaker _ _ (λ (job : Job). below_later state.next number job.number) state.jobs h.below_next;
  placed = h.placed;
  definitions = h.definitions;
  calls = h.calls;
  by_name = h.by_name;
  hosts = h.hosts;
  by_host = h.by_host;
  links = h.links;
  linked = h.linked;
  taken = All-weaker _ _ (λ (link : Link) all. All-weaker _ _ (λ (taken : Taken). below_later state.next number taken.job) link.taken all) state.links h.taken;
  by_link = h.by_link;
}

pub needless : (state : State) (number : ℕ) → number ≤ state.next → renumbered number state ≡ state
needless state number given = ap (λ (next : ℕ). record state { next = next }) (let it : max state.next number ≡ state.next = omega arith in it)

-- a number that isn't below the later one isn't below either
pub above_both : (next number given : ℕ) → max next number ≤ given → (number ≤ given) × (next ≤ given)
above_both next number given above = (omega arith, omega arith)

-- ---- verdicts

-- a later number that jobs may have is the end exactly if the number before it was
at_end : (next number : ℕ) → next ≤ numbers_end → number < numbers_end → (max next number == numbers_end) ≡ (next == numbers_end)
at_end next number last small = by-test (next == numbers_end) refl (max next number == numbers_end) refl
  where
    by-test : (was : Bool) → next == numbers_end ≡ was → (is : Bool) → max next number == numbers_end ≡ is → is ≡ was
    by-test true was true is = refl
    by-test false was false is = refl
    by-test true was false is = absurd (let ended = eqb-true next numbers_end was in let other : max next number ≡ numbers_end = omega arith in let e = eq-eqb (max next number) numbers_end other in cc)
    by-test false was true is = absurd (let ended = eqb-true (max next number) numbers_end is in let other : next ≡ numbers_end = omega arith in let e = eq-eqb next numbers_end other in cc)

pub same_verdict : (state : State) (number : ℕ) (command : Command) → number < numbers_end → IsWellFormed state → verdict (renumbered number state) command ≡ verdict state command
same_verdict state number (Define def) small h = refl
same_verdict state number (Remove name) small h = refl
same_verdict state number (Queue job) small h =
    ap (λ (out : Bool). first_reason ((is_too_large job, TooLarge) ∷ (not (has_system state job.system), NoSystem) ∷ (out, NumbersOut) ∷ [])) (at_end state.next number h.next small)
same_verdict state number (QueueOnce key job) small h =
    let taken = taken_of state key in
    ap (λ (out : Bool). first_reason (if is_again taken key then [] else (((is_too_large job, TooLarge) ∷ (not (are_known state key job), NoSystem) ∷ (out, NumbersOut) ∷ [])
    ++ (nat_lt key.number (link_of state key.from).below, Stale) ∷ (is_other taken key, Differs) ∷ []))) (at_end state.next number h.next small)
same_verdict state number (Kill job by) small h = refl
same_verdict state number (Regrade job grade by) small h = refl
same_verdict state number (Rejuvenate job at by) small h = refl
same_verdict state number (Failed system at why) small h = refl
same_verdict state number (Done system at jobs) small h = refl
same_verdict state number (Release system jobs) small h = refl
same_verdict state number (Entry bytes) small h = refl
same_verdict state number (Forget system below) small h = refl

-- ---- commands that hand in no job

-- its verdict, and what it does if it is accepted, stay as they were
record DoesSame (state : State) (number : ℕ) (command : Command) : Type 0 where
  verdict_is : verdict (renumbered number state) command ≡ verdict state command
  state_is : accept (renumbered number state) command ≡ renumbered number (accept state command)
  reply_is : reply_to (renumbered number state) command ≡ reply_to state command

does_same : (state : State) (number : ℕ) (command : Command) → handed_by command ≡ None → DoesSame state number command
does_same state number (Define def) none = record { verdict_is = refl; state_is = refl; reply_is = refl }
does_same state number (Remove name) none = record { verdict_is = refl; state_is = refl; reply_is = refl }
does_same state number (Queue job) none = absurd (cc)
does_same state number (QueueOnce key job) none = absurd (cc)
does_same state number (Kill job by) none = record { verdict_is = refl; state_is = refl; reply_is = refl }
does_same state number (Regrade job grade by) none = record { verdict_is = refl; state_is = refl; reply_is = refl }
does_same state number (Rejuvenate job at by) none = record { verdict_is = refl; state_is = refl; reply_is = refl }
does_same state number (Failed system at why) none = record { verdict_is = refl; state_is = refl; reply_is = refl }
does_same state number (Done system at jobs) none = record { verdict_is = refl; state_is = refl; reply_is = refl }
does_same state number (Release system jobs) none = record { verdict_is = refl; state_is = refl; reply_is = refl }
does_same state number (Entry bytes) none = record { verdict_is = refl; state_is = refl; reply_is = refl }
does_same state number (Forget system below) none = record { verdict_is = refl; state_is = refl; reply_is = refl }

pub same_after : (state : State) (number : ℕ) (command : Command) → handed_by command ≡ None → after (renumbered number state) command ≡ (renumbered number (after state command).0, (after state command).1)
same_after state number command none = let it = does_same state number command none in ap (λ v. after_verdict v (renumbered number state) command) it.verdict_is ∙ by_verdict (verdict state command) it.state_is it.reply_is
  where
    by_verdict : (v : Option Refusal) → accept (renumbered number state) command ≡ renumbered number (accept state command) → reply_to (renumbered number state) command ≡ reply_to state command
        → after_verdict v (renumbered number state) command ≡ (renumbered number (after_verdict v state command).0, (after_verdict v state command).1)
    by_verdict None state_is reply_is = ap (λ (it : State). (it, reply_to (renumbered number state) command)) state_is ∙ ap (λ (reply : Reply). (renumbered number (accept state command), reply)) reply_is
    by_verdict (Some refusal) state_is reply_is = refl
