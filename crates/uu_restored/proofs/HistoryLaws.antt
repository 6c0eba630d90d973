-- What follows of jobs of a spool that was put back.
use Rattle.std.proofs.Common.{◌≡◌, ℕ, ◌<◌, ◌≤◌, Bool, true, false, cond, ltb, leb, [], ◌∷◌, ◌++◌, All, Contains, Option, Some, None, refl, ap, sym, ◌∙◌, arith, inl, inr, ◌⊎◌}
use Rattle.std.proofs.lemmas.Bool.{eqb-true, eq-eqb, both_ways}
use Rattle.std.proofs.lemmas.Bool.Decides.{nat_tests}
use Rattle.std.proofs.lemmas.List.Elements.{All-weaker}
use Rattle.uu_names.proofs.Basics.{all_from, find_there}
use Rattle.uu_core.specs.declared.command.Command.TheVariants.{QueueOnce}
use Rattle.uu_core.specs.declared.custody.Key.{Key}
use Rattle.uu_core.specs.declared.custody.Taken.{Taken}
use Rattle.uu_core.specs.declared.job.NewJob.{NewJob}
use Rattle.uu_core.specs.declared.refusal.Refusal.TheVariants.{TooLarge, NoSystem, NumbersOut, Stale, Differs}
use Rattle.uu_core.specs.Refusal.{first_reason}
use Rattle.uu_core.specs.State.{Job, is_taken}
use Rattle.uu_core.specs.Verdict.{verdict, queue_reasons, fresh_reasons, is_again, is_other, are_known, taken_of}
use Rattle.uu_core.specs.After.{after}
use Rattle.uu_handover.specs.Bundles.{Bundle, Told, IsSaid, settling}
use Rattle.uu_handover.specs.Custody.{Parcel, parcel_of, Crossing, key_of, IsQueued, IsFree}
use Rattle.uu_handover.proofs.BundleLaws.{told_of_job, settled_told}
use Rattle.uu_handover.proofs.CustodyInvariant.{kept_of}
use Rattle.uu_handover.proofs.CustodyLaws.{unchanged, free_above}
use Rattle.uu_handover.proofs.SettledLaws.{gone}
use Rattle.uu_restored.specs.Restored.{Copy, History, present, CountsAnew, IsDone}
use Rattle.uu_restored.proofs.HistoryInvariant.{silent, IsBelowSaid, Lives, the_present}

-- ---- what was handed in is not queued again

pub still_unchanged : (crossing : Crossing) (history : History) (parcel : Parcel) (new : NewJob) → Lives crossing history → IsQueued crossing history.world parcel
    → (after history.world.receiver (QueueOnce (key_of crossing parcel) new)).0 ≡ history.world.receiver
still_unchanged crossing history parcel new h queued = unchanged crossing (silent history.world) parcel new h.holds (record { handed = queued.handed; there = queued.there; of = queued.of })

-- ---- what is given from now on

pub counts_anew : (crossing : Crossing) (history : History) → Lives crossing history → CountsAnew history
counts_anew crossing history h = record {
  shown = all_from (λ (p : Parcel). p.number < history.world.sender.next) history.world.shown (λ parcel there. (h.holds.shown parcel there).used);
  killed = all_from (λ n. n < history.world.sender.next) history.world.killed (h.killed (present history) (the_present history));
  copies = all_from (λ (c : Copy). All (λ (j : Job). j.number < history.world.sender.next) c.spool.jobs) history.copies
      (λ copy there. All-weaker (λ (j : Job). j.number < copy.spool.next) (λ (j : Job). j.number < history.world.sender.next) (λ j l. let m = h.next copy there in omega (arith, l, m)) copy.spool.jobs (h.order copy there).below_next);
  said = all_from (λ b. b ≤ history.world.sender.next) history.world.said h.said;
}

-- ---- what a bundle has is settled

pub settled : (crossing : Crossing) (history : History) (mark : Parcel → ℕ) (bundle : Bundle) (told : Told) (job : Job) → Lives crossing history
    → IsSaid crossing.to crossing.from mark history.world.receiver bundle → Contains bundle.has told → Contains history.world.sender.jobs job → job.system ≡ crossing.to → job.number ≡ told.number
    → IsQueued crossing history.world (parcel_of job) × (told.mark ≡ crossing.mark (parcel_of job))
    × (¬ Contains (after history.world.sender (settling crossing.to crossing.mark history.world.sender bundle)).0.jobs job)
settled crossing history mark bundle told job h said there waits own number =
    let it = told_of_job crossing (silent history.world) h.holds mark bundle told said there job waits number in
    let queued = it.0 in (
      record { handed = queued.handed; there = queued.there; of = queued.of },
      it.1,
      gone history.world.sender crossing.to _ job (settled_told crossing.to crossing.mark history.world.sender bundle.has told job there waits own number it.1) own,
    )

-- ---- a parcel of the wire never differs

no_differs : (large unknown out stale : Bool) → first_reason ((large, TooLarge) ∷ (unknown, NoSystem) ∷ (out, NumbersOut) ∷ (stale, Stale) ∷ (false, Differs) ∷ []) ≡ Some Differs → ⊥
no_differs true unknown out stale e = cc
no_differs false true out stale e = cc
no_differs false false true stale e = cc
no_differs false false false true e = cc
no_differs false false false false e = cc

no_stale : (large unknown out : Bool) → first_reason ((large, TooLarge) ∷ (unknown, NoSystem) ∷ (out, NumbersOut) ∷ []) ≡ Some Stale → ⊥
no_stale true unknown out e = cc
no_stale false true out e = cc
no_stale false false true e = cc
no_stale false false false e = cc

module _ (crossing : Crossing) (history : History) (h : Lives crossing history) (parcel : Parcel) (new : NewJob) (there : Contains history.world.shown parcel) where
  abbrev key : Key
  key = key_of crossing parcel

  abbrev taken : Option Taken
  taken = taken_of history.world.receiver (key_of crossing parcel)

  abbrev known : Bool
  known = are_known history.world.receiver (key_of crossing parcel) new

  abbrev least : ℕ
  least = (kept_of crossing history.world).below

  -- what was taken under its number has its mark
  same_mark : (row : Taken) → taken ≡ Some row → row.mark ≡ crossing.mark parcel
  same_mark row is =
      let found = find_there (is_taken parcel.number) (kept_of crossing history.world).taken row is in
      let was = h.holds.taken row found.0 in
      was.mark ∙ ap crossing.mark (sym (h.one parcel was.parcel there was.shown (sym (eqb-true row.number parcel.number found.1) ∙ sym was.of)))

  not_other : (o : Option Taken) → taken ≡ o → is_again o key ≡ false → is_other o key ≡ false
  not_other None is e = refl
  not_other (Some row) is e = absurd (both_ways _ e (eq-eqb row.mark (crossing.mark parcel) (same_mark row is)))

  by_again : (s : Bool) → is_again taken key ≡ s → first_reason (cond s [] (fresh_reasons known history.world.receiver.next least (is_other taken key) key new)) ≡ Some Differs → ⊥
  by_again true e differs = cc
  by_again false e differs = no_differs _ _ _ _
      (sym (ap (λ o. first_reason (queue_reasons known history.world.receiver.next new ++ (ltb parcel.number least, Stale) ∷ (o, Differs) ∷ [])) (not_other taken refl e)) ∙ differs)

  pub never_differs : ¬ (verdict history.world.receiver (QueueOnce (key_of crossing parcel) new) ≡ Some Differs)
  never_differs differs = by_again (is_again taken key) refl differs

-- ---- a job is free, or is done

module _ (crossing : Crossing) (history : History) (h : Lives crossing history) (job : Job) (new : NewJob) (newest : history.is_newest ≡ true) (heard : history.world.is_heard ≡ true)
    (there : Contains history.world.sender.jobs job) (own : job.system ≡ crossing.to)
  where
    forgotten_done : job.number < (kept_of crossing history.world).below → IsBelowSaid history.world.said (kept_of crossing history.world).below → IsDone crossing history job
    forgotten_done low (inl none) = absurd (omega (arith, low, none))
    forgotten_done low (inr (one, inside, most)) = h.behind newest (present history) (the_present history) job one there own inside (omega (arith, low, most))

    pub free_or_done : IsFree crossing history.world job new ⊎ IsDone crossing history job
    free_or_done = by-test (leb (kept_of crossing history.world).below job.number) refl
      where
        by-test : (t : Bool) → leb (kept_of crossing history.world).below job.number ≡ t → IsFree crossing history.world job new ⊎ IsDone crossing history job
        by-test true e = inl (free_above crossing (silent history.world) job new h.holds there (grind (arith, nat_tests)))
        by-test false e = inr (forgotten_done (grind (arith, nat_tests)) (h.heard heard))

    pub stale_was_done : verdict history.world.receiver (QueueOnce (key_of crossing (parcel_of job)) new) ≡ Some Stale → IsDone crossing history job
    stale_was_done stale = elim free_or_done [
      | inl free ↦ (elim free [
        | inl none ↦ absurd (let e : None ≡ Some Stale = sym none ∙ stale in cc)
        | inr first ↦ absurd (no_stale _ _ _ (sym first ∙ stale))
      ])
      | inr done ↦ done
    ]
