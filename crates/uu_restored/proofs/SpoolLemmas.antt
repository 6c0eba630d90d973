-- What a command, or the wire, makes of one spool.
use Rattle.std.proofs.Common.{◌≡◌, ℕ, ◌<◌, Bool, true, List, [], ◌∷◌, Contains, Option, Some, None, option_map, refl, ap, sym, ◌∙◌, subst, inl, inr}
use Rattle.std.specs.List.{list_all}
use Rattle.std.proofs.lemmas.Bool.{eqb-true}
use Rattle.std.proofs.lemmas.List.Elements.{All-contains}
use Rattle.uu_names.proofs.Basics.{none_in, in_one, first_or_later, find_there, and_first, and_second}
use Rattle.uu_core.specs.declared.command.Command.{Command}
use Rattle.uu_core.specs.declared.command.Command.TheVariants.{Define, Remove, Queue, QueueOnce, Kill, Regrade, Rejuvenate, Failed, Done, Release, Entry, Forget}
use Rattle.uu_core.specs.declared.job.By.{By}
use Rattle.uu_core.specs.declared.custody.HandIn.{HandIn}
use Rattle.uu_core.specs.declared.custody.HandIn.TheVariants.{First, Again}
use Rattle.uu_core.specs.declared.custody.Key.{Key}
use Rattle.uu_core.specs.declared.custody.Taken.{Taken}
use Rattle.uu_core.specs.declared.job.NewJob.{NewJob}
use Rattle.uu_core.specs.declared.refusal.Refusal.{Refusal}
use Rattle.uu_core.specs.Refusal.{first_reason}
use Rattle.uu_core.specs.State.{State, Job, Link, link_of, head_of, is_job, job_at}
use Rattle.uu_core.specs.Order.{IsInOrder}
use Rattle.uu_core.specs.Verdict.{verdict, job_reasons}
use Rattle.uu_core.specs.After.{after, after_verdict, hand_in, with_job, with_taken, with_job_once}
use Rattle.uu_core.specs.Laws.{IsSameJob, IsAmong, accepted_of, unless_refused}
use Rattle.uu_core.proofs.LinkLemmas.{link_own, taken_says, name_is}
use Rattle.uu_handover.specs.Custody.{kills_in}

-- ---- the same job

pub itself : (job : Job) → IsSameJob job job
itself job = record { number = refl; system = refl; user = refl; kind = refl; bytes = refl }

pub turned : (job later : Job) → IsSameJob job later → IsSameJob later job
turned job later s = record { number = sym s.number; system = sym s.system; user = sym s.user; kind = sym s.kind; bytes = sym s.bytes }

pub followed : (job later last : Job) → IsSameJob job later → IsSameJob later last → IsSameJob job last
followed job later last s t = record { number = t.number ∙ s.number; system = t.system ∙ s.system; user = t.user ∙ s.user; kind = t.kind ∙ s.kind; bytes = t.bytes ∙ s.bytes }

pub among_back : (jobs : List Job) (job later : Job) → IsSameJob job later → IsAmong jobs later → IsAmong jobs job
among_back jobs job later same among = record { later = among.later; there = among.there; same = followed job later among.later same among.same }

-- ---- lists

pub each_passes : {X : Type 0} (p : X → Bool) (xs : List X) → list_all p xs ≡ true → (x : X) → Contains xs x → p x ≡ true
each_passes p [] e x there = absurd (none_in x there)
each_passes p (y ∷ ys) e x there = elim (first_or_later y x ys there) [
  | inl same ↦ subst (λ z. p z ≡ true) same (and_first (p y) (list_all p ys) e)
  | inr later ↦ each_passes p ys (and_second (p y) (list_all p ys) e) x later
]

-- ---- what is killed was there

pub kills_there : (state : State) (command : Command) (number : ℕ) → IsInOrder state → Contains (kills_in (accepted_of state (command ∷ []))) number → number < state.next
kills_there state command number h = by_verdict (verdict state command) refl
  where
    kill_there : (job : ℕ) (found : Option Job) → job_at state job ≡ found → (by : By) → first_reason (job_reasons (option_map head_of found) by) ≡ None → job < state.next
    kill_there job None is by e = absurd (cc)
    kill_there job (Some one) is by e =
        let it = find_there (is_job job) state.jobs one is in
        let below = All-contains (λ (j : Job). j.number < state.next) state.jobs one h.below_next it.0 in
        subst (λ n. n < state.next) (eqb-true one.number job it.1) below

    by_command : (c : Command) → verdict state c ≡ None → Contains (kills_in (c ∷ [])) number → number < state.next
    by_command (Kill job by) e there = subst (λ n. n < state.next) (in_one job number there) (kill_there job (job_at state job) refl by e)
    by_command (Define def) e there = absurd (none_in number there)
    by_command (Remove name) e there = absurd (none_in number there)
    by_command (Queue new) e there = absurd (none_in number there)
    by_command (QueueOnce key new) e there = absurd (none_in number there)
    by_command (Regrade job grade by) e there = absurd (none_in number there)
    by_command (Rejuvenate job at by) e there = absurd (none_in number there)
    by_command (Failed system at why) e there = absurd (none_in number there)
    by_command (Done system at jobs) e there = absurd (none_in number there)
    by_command (Release system jobs) e there = absurd (none_in number there)
    by_command (Entry bytes) e there = absurd (none_in number there)
    by_command (Forget system below) e there = absurd (none_in number there)

    by_verdict : (v : Option Refusal) → verdict state command ≡ v → Contains (kills_in (unless_refused v command [])) number → number < state.next
    by_verdict None e there = by_command command e there
    by_verdict (Some refusal) e there = absurd (none_in number there)

-- ---- a job that is taken leaves the number below which none is asked for

below_once : (state : State) (key : Key) (job : NewJob) (comes : HandIn) → (link_of (with_job_once comes key job state) key.from).below ≡ (link_of state key.from).below
below_once state key job (First number) =
    let row : Taken = record { number = key.number; mark = key.mark; job = number } in
    ap (λ (l : Link). l.below) (link_own (with_job job state) key.from (with_taken row (link_of state key.from)) (name_is state key.from) (λ silent. absurd (taken_says row (link_of state key.from) silent)))
below_once state key job (Again number) = refl

pub below_taken : (state : State) (key : Key) (job : NewJob) → (link_of (after state (QueueOnce key job)).0 key.from).below ≡ (link_of state key.from).below
below_taken state key job = by_verdict (verdict state (QueueOnce key job))
  where
    by_verdict : (v : Option Refusal) → (link_of (after_verdict v state (QueueOnce key job)).0 key.from).below ≡ (link_of state key.from).below
    by_verdict None = below_once state key job (hand_in state key)
    by_verdict (Some refusal) = refl
