-- What always holds of two spools and a wire.
use Rattle.std.proofs.Common.{◌≡◌, ℕ, ◌<◌, ◌≤◌, max, Bool, true, false, List, Contains, Option, Some, None, refl, ap, sym, ◌∙◌, arith, inl, inr, ◌⊎◌}
use Rattle.std.specs.Cmp.Lexicographic.{bytes_decides}
use Rattle.std.proofs.lemmas.List.Elements.{All-weaker, All-contains}
use Rattle.std.proofs.lemmas.Bool.{not-true}
use Rattle.uu_names.proofs.Basics.{one_of_number, all_from}
use Rattle.uu_core.specs.declared.command.Command.{Command}
use Rattle.uu_core.specs.declared.command.Command.TheVariants.{Define, Remove, Queue, QueueOnce, Kill, Regrade, Rejuvenate, Failed, Done, Release, Entry, Forget}
use Rattle.uu_core.specs.declared.custody.HandIn.{HandIn}
use Rattle.uu_core.specs.declared.custody.HandIn.TheVariants.{First, Again}
use Rattle.uu_core.specs.declared.custody.Key.{Key}
use Rattle.uu_core.specs.declared.job.NewJob.{NewJob}
use Rattle.uu_core.specs.declared.refusal.Refusal.{Refusal}
use Rattle.uu_core.specs.State.{State, Job, Link, same_text, link_of}
use Rattle.uu_core.specs.Verdict.{verdict}
use Rattle.uu_core.specs.After.{after, after_verdict, accept, with_job, with_taken, forgotten, hand_in, with_job_once}
use Rattle.uu_core.specs.Laws.{IsSameJob, IsHandedIn}
use Rattle.uu_core.specs.Order.{IsInOrder}
use Rattle.uu_handover.specs.Custody.{Parcel, parcel_of, Crossing, IsLeast, is_of_others}
use Rattle.uu_core.proofs.LinkLemmas.{link_own, link_other, link_kept, forgotten_says, name_is}
use Rattle.uu_core.proofs.RunLemmas.{next-after}
use Rattle.uu_core.proofs.JobLemmas.{handed_in}

-- ---- the same parcel

pub same_parcel : (job later : Job) → IsSameJob job later → parcel_of later ≡ parcel_of job
same_parcel job later s =
    ap (λ n. record { number = n; user = later.user; kind = later.kind; bytes = later.bytes }) s.number
    ∙ ap (λ u. record { number = job.number; user = u; kind = later.kind; bytes = later.bytes }) s.user
    ∙ ap (λ k. record { number = job.number; user = job.user; kind = k; bytes = later.bytes }) s.kind
    ∙ ap (λ b. record { number = job.number; user = job.user; kind = job.kind; bytes = b }) s.bytes

-- ---- what is known of a parcel that was shown

pub record IsShown (sender : State) (parcel : Parcel) : Type 0 where
  pub used : parcel.number < sender.next
  pub same : (job : Job) → Contains sender.jobs job → job.number ≡ parcel.number → parcel_of job ≡ parcel

-- a job that a command hands in has the next number
pub handed_number : (state : State) (command : Command) (job : Job) → IsHandedIn state command job → job.number ≡ state.next
handed_number state command job it = ap (λ (j : Job). j.number) it.job_is

pub still_shown : (sender : State) (command : Command) (parcel : Parcel) → IsShown sender parcel → IsShown (after sender command).0 parcel
still_shown sender command parcel h = record {
  used = omega (arith, next-after sender command, h.used);
  same = λ job there is. elim (handed_in sender command job there) [
    | inl among ↦ (sym (same_parcel job among.later among.same) ∙ h.same among.later among.there (among.same.number ∙ is))
    | inr made ↦ absurd (let n = handed_number sender command job made in let u = h.used in omega (arith, n, u, is))
  ];
}

pub shown_now : (sender : State) (job : Job) → IsInOrder sender → Contains sender.jobs job → IsShown sender (parcel_of job)
shown_now sender job h there = record {
  used = All-contains (λ (j : Job). j.number < sender.next) sender.jobs job h.below_next there;
  same = λ other inside is. ap parcel_of (one_of_number (λ (j : Job). j.number) sender.jobs other job h.rising inside there is);
}

-- ---- what the sender says it won't ask for

pub still_least : (crossing : Crossing) (sender : State) (command : Command) (below : ℕ) → IsLeast crossing sender below → IsLeast crossing (after sender command).0 below
still_least crossing sender command below h = record {
  now = all_from (λ (job : Job). job.system ≡ crossing.to → below ≤ job.number) (after sender command).0.jobs waits;
  later = omega (arith, next-after sender command, h.later);
}
  where
    waits : (job : Job) → Contains (after sender command).0.jobs job → job.system ≡ crossing.to → below ≤ job.number
    waits job there own = elim (handed_in sender command job there) [
      | inl among ↦ (let l = All-contains (λ (j : Job). j.system ≡ crossing.to → below ≤ j.number) sender.jobs among.later h.now among.there (among.same.system ∙ own) in let n = among.same.number in omega (arith, l, n))
      | inr made ↦ (let n = handed_number sender command job made in let l = h.later in omega (arith, n, l))
    ]

pub least_below : (crossing : Crossing) (sender : State) (low high : ℕ) → low ≤ high → IsLeast crossing sender high → IsLeast crossing sender low
least_below crossing sender low high l h = record {
  now = All-weaker (λ (job : Job). job.system ≡ crossing.to → high ≤ job.number) (λ (job : Job). job.system ≡ crossing.to → low ≤ job.number) (λ job f own. let n = f own in omega (arith, l, n)) sender.jobs h.now;
  later = omega (arith, l, h.later);
}

pub least_both : (crossing : Crossing) (sender : State) (one other : ℕ) → IsLeast crossing sender one → IsLeast crossing sender other → IsLeast crossing sender (max one other)
least_both crossing sender one other h k = record {
  now = all_from (λ (job : Job). job.system ≡ crossing.to → max one other ≤ job.number) sender.jobs
      (λ job there own. let l = All-contains (λ (j : Job). j.system ≡ crossing.to → one ≤ j.number) sender.jobs job h.now there own in let m = All-contains (λ (j : Job). j.system ≡ crossing.to → other ≤ j.number) sender.jobs job k.now there own in omega (arith, l, m));
  later = omega (arith, h.later, k.later);
}

pub least_zero : (crossing : Crossing) (sender : State) → IsLeast crossing sender 0
least_zero crossing sender = record { now = all_from (λ (job : Job). job.system ≡ crossing.to → 0 ≤ job.number) sender.jobs (λ job there own. omega arith); later = omega arith }

-- ---- what the receiver's commands make of the link

-- the link of a name stays, or the sender won't ask again for some
abbrev pub LinkAfter : List ℕ → State → Command → Link → Type 0
LinkAfter name state command link = (link ≡ link_of state name) ⊎ ((below : ℕ) × (system : List ℕ) × (command ≡ Forget system below) × (system ≡ name) × (link ≡ forgotten below (link_of state name)))

link_once : (crossing : Crossing) (state : State) (key : Key) (job : NewJob) (comes : HandIn) → same_text key.from crossing.from ≡ false → link_of (with_job_once comes key job state) crossing.from ≡ link_of state crossing.from
link_once crossing state key job (First number) differs =
    link_other (with_job job state) crossing.from (with_taken (record { number = key.number; mark = key.mark; job = number }) (link_of state key.from)) (ap (λ n. same_text n crossing.from) (name_is state key.from) ∙ differs)
link_once crossing state key job (Again number) differs = refl

link_forget : (crossing : Crossing) (state : State) (system : List ℕ) (below : ℕ) → LinkAfter crossing.from state (Forget system below) (link_of (accept state (Forget system below)) crossing.from)
link_forget crossing state system below = by-test (same_text system crossing.from) refl
  where
    by-test : (t : Bool) → same_text system crossing.from ≡ t → LinkAfter crossing.from state (Forget system below) (link_of (accept state (Forget system below)) crossing.from)
    by-test false e = inl (link_other state crossing.from (forgotten below (link_of state system)) (ap (λ n. same_text n crossing.from) (name_is state system) ∙ e))
    by-test true e =
        let own : system ≡ crossing.from = (bytes_decides system crossing.from).0 e in
        let new : Link = forgotten below (link_of state system) in
        let now : link_of (accept state (Forget system below)) crossing.from ≡ new = link_own state crossing.from new (name_is state system ∙ own) (λ silent. forgotten_says below (link_of state system) silent ∙ ap (link_of state) own) in
        inr (below, system, refl, own, now ∙ ap (λ n. forgotten below (link_of state n)) own)

link_accept : (crossing : Crossing) (state : State) (command : Command) → is_of_others crossing command ≡ true → LinkAfter crossing.from state command (link_of (accept state command) crossing.from)
link_accept crossing state (Define def) e = inl refl
link_accept crossing state (Remove name) e = inl (link_kept state crossing.from name (not-true (same_text name crossing.from) e))
link_accept crossing state (Queue job) e = inl refl
link_accept crossing state (QueueOnce key job) e = inl (link_once crossing state key job (hand_in state key) (not-true (same_text key.from crossing.from) e))
link_accept crossing state (Kill job by) e = inl refl
link_accept crossing state (Regrade job grade by) e = inl refl
link_accept crossing state (Rejuvenate job at by) e = inl refl
link_accept crossing state (Failed system at why) e = inl refl
link_accept crossing state (Done system at jobs) e = inl refl
link_accept crossing state (Release system jobs) e = inl refl
link_accept crossing state (Entry bytes) e = inl refl
link_accept crossing state (Forget system below) e = link_forget crossing state system below

pub link_after : (crossing : Crossing) (state : State) (command : Command) → is_of_others crossing command ≡ true → LinkAfter crossing.from state command (link_of (after state command).0 crossing.from)
link_after crossing state command e = by_verdict (verdict state command)
  where
    by_verdict : (v : Option Refusal) → LinkAfter crossing.from state command (link_of (after_verdict v state command).0 crossing.from)
    by_verdict None = link_accept crossing state command e
    by_verdict (Some refusal) = inl refl
