-- What follows of jobs that cross from one spool to another.
use Rattle.std.proofs.Common.{◌≡◌, ℕ, ◌<◌, ◌≤◌, Bool, true, false, not, cond, ltb, ◌==◌, ◌&&◌, ◌||◌, List, [], ◌∷◌, ◌++◌, map, find, length, All, AllPairs, Contains, Option, Some, None, option_map, unwrap_or, refl, ap, sym, ◌∙◌, subst, arith, inl, inr, ◌⊎◌}
use Rattle.std.specs.List.{list_any}
use Rattle.std.specs.Cmp.Lexicographic.{bytes_decides}
use Rattle.std.proofs.lemmas.Bool.{eqb-true, eq-eqb, both_ways, and_parts, not-true, le-ltb}
use Rattle.std.proofs.lemmas.Bool.Decides.{nat_tests}
use Rattle.std.proofs.lemmas.List.Elements.{All-nil, All-cons, All-contains, Contains-append_left, Contains-append_right}
use Rattle.uu_names.proofs.Basics.{first_of, none_in, first_or_later, from_filter, from_map, in_map, some_passes, passing_one, find_there, find_none, one_of_number, and_first, and_second, pairs_first, pairs_rest, all_from, cond_none}
use Rattle.uu_times.specs.declared.moment.Moment.{Moment}
use Rattle.uu_core.specs.declared.command.Command.{Command}
use Rattle.uu_core.specs.declared.command.Command.TheVariants.{Define, Remove, Queue, QueueOnce, Kill, Regrade, Rejuvenate, Failed, Done, Release, Entry, Forget}
use Rattle.uu_core.specs.declared.command.Reply.{Reply}
use Rattle.uu_core.specs.declared.command.Reply.TheVariants.{Number}
use Rattle.uu_core.specs.declared.custody.HandIn.{HandIn}
use Rattle.uu_core.specs.declared.custody.Key.{Key}
use Rattle.uu_core.specs.declared.custody.Taken.{Taken}
use Rattle.uu_core.specs.declared.job.JobHead.{JobHead}
use Rattle.uu_core.specs.declared.job.NewJob.{NewJob}
use Rattle.uu_core.specs.declared.refusal.Refusal.{Refusal}
use Rattle.uu_core.specs.declared.refusal.Refusal.TheVariants.{NoSystem, NoJob, JobTwice, OtherSystem, TooLarge, Stale, Differs}
use Rattle.uu_core.specs.Refusal.{first_reason}
use Rattle.uu_core.specs.State.{State, Job, same_text, has_system, head_of, is_taken}
use Rattle.uu_core.specs.Order.{IsInOrder}
use Rattle.uu_core.specs.Verdict.{verdict, queue_reasons, fresh_reasons, is_again, is_other, are_known, taken_of, has_other, has_number, is_missing_one, has_repeat, done_reasons}
use Rattle.uu_core.specs.After.{after, after_verdict, hand_in, with_job_once, hand_in_number, is_among}
use Rattle.uu_core.specs.Laws.{IsSameJob, IsAmong, lets_go, accepted_of, unless_refused}
use Rattle.uu_handover.specs.Custody.{Parcel, parcel_of, Crossing, key_of, World, Step, IsLeast, least_of, MayRun, MayGo, MayGoOn, kills_in, handed_for, added, answer_to, go, world_after, IsQueued, IsNotLost, IsFree, MayCross}
use Rattle.uu_handover.specs.Custody.Step.{SenderRuns, SenderShows, SenderSays, ReceiverTakes, ReceiverRuns, ReceiverTells}
use Rattle.uu_core.proofs.KeyLemmas.{by_hand_in, first_why}
use Rattle.uu_core.proofs.JobLemmas.{stays}
use Rattle.uu_core.proofs.DecisionLemmas.{carried}
use Rattle.uu_handover.proofs.CustodyLemmas.{same_parcel}
use Rattle.uu_handover.proofs.CustodyInvariant.{Holds, kept_of, IsRemembered}
use Rattle.uu_handover.proofs.CustodyRuns.{holds_after}

-- ---- what was handed in is not queued again

pub unchanged : (crossing : Crossing) (world : World) (parcel : Parcel) (new : NewJob) → Holds crossing world → IsQueued crossing world parcel → (after world.receiver (QueueOnce (key_of crossing parcel) new)).0 ≡ world.receiver
unchanged crossing world parcel new h queued = by_verdict (verdict world.receiver (QueueOnce (key_of crossing parcel) new)) refl
  where
    by_verdict : (v : Option Refusal) → verdict world.receiver (QueueOnce (key_of crossing parcel) new) ≡ v → (after_verdict v world.receiver (QueueOnce (key_of crossing parcel) new)).0 ≡ world.receiver
    by_verdict (Some refusal) e = refl
    by_verdict None e = by_hand_in P (taken_of world.receiver (key_of crossing parcel)) (key_of crossing parcel) world.receiver.next (λ first. absurd (not_new first)) (λ row is mark repeat. refl) refl
      where
        P : Bool → HandIn → Type 0
        P again comes = is_again (taken_of world.receiver (key_of crossing parcel)) (key_of crossing parcel) ≡ again → with_job_once comes (key_of crossing parcel) new world.receiver ≡ world.receiver

        not_new : is_again (taken_of world.receiver (key_of crossing parcel)) (key_of crossing parcel) ≡ false → ⊥
        not_new first = by_remembered (h.handed queued.handed queued.there)
          where
            why : ((kept_of crossing world).below ≤ parcel.number) × (taken_of world.receiver (key_of crossing parcel) ≡ None)
            why = first_why world.receiver (key_of crossing parcel) new e first

            by_remembered : IsRemembered (kept_of crossing world) queued.handed → ⊥
            by_remembered (inl small) = omega (arith, small, why.0, queued.of.number)
            by_remembered (inr (row, there, same)) =
                both_ways _ (find_none (is_taken parcel.number) (kept_of crossing world).taken why.1) (some_passes (is_taken parcel.number) (kept_of crossing world).taken row there (eq-eqb row.number parcel.number (same ∙ queued.of.number)))

-- ---- a job that waits is free, unless its number is one of those that are forgotten

module _ (crossing : Crossing) (world : World) (job : Job) (new : NewJob) (h : Holds crossing world) (there : Contains world.sender.jobs job) (low : (kept_of crossing world).below ≤ job.number) where
  abbrev key : Key
  key = key_of crossing (parcel_of job)

  abbrev taken : Option Taken
  taken = taken_of world.receiver key

  abbrev known : Bool
  known = are_known world.receiver key new

  abbrev next : ℕ
  next = world.receiver.next

  abbrev least : ℕ
  least = (kept_of crossing world).below

  -- what was taken under its number has its mark
  same_mark : (row : Taken) → taken ≡ Some row → row.mark ≡ crossing.mark (parcel_of job)
  same_mark row is =
      let found = find_there (is_taken job.number) (kept_of crossing world).taken row is in
      let was = h.taken row found.0 in
      let number : job.number ≡ was.parcel.number = sym (eqb-true row.number job.number found.1) ∙ sym was.of in
      was.mark ∙ ap crossing.mark (sym ((h.shown was.parcel was.shown).same job there number))

  not_other : (o : Option Taken) → taken ≡ o → is_again o key ≡ false → is_other o key ≡ false
  not_other None is e = refl
  not_other (Some row) is e = absurd (both_ways _ e (eq-eqb row.mark (crossing.mark (parcel_of job)) (same_mark row is)))

  by_again : (s t : Bool) → is_again taken key ≡ s → is_other taken key ≡ t → IsFree crossing world job new
  by_again true t e f = inl (ap (λ s. first_reason (cond s [] (fresh_reasons known next least (is_other taken key) key new))) e)
  by_again false t e f =
      inr (ap (λ s. first_reason (cond s [] (fresh_reasons known next least (is_other taken key) key new))) e
      ∙ ap (λ s. first_reason (queue_reasons known next new ++ (ltb job.number least, Stale) ∷ (s, Differs) ∷ [])) (not_other taken refl e)
      ∙ ap (λ s. first_reason (queue_reasons known next new ++ (s, Stale) ∷ (false, Differs) ∷ [])) (le-ltb job.number least low))

  pub free_above : IsFree crossing world job new
  free_above = by_again (is_again taken key) (is_other taken key) refl refl

-- if only what was said is forgotten, its number is not one of those
pub free : (crossing : Crossing) (world : World) (job : Job) (new : NewJob) → Holds crossing world → world.is_heard ≡ true → Contains world.sender.jobs job → job.system ≡ crossing.to → IsFree crossing world job new
free crossing world job new h heard there own =
    free_above crossing world job new h there (All-contains (λ (j : Job). j.system ≡ crossing.to → (kept_of crossing world).below ≤ j.number) world.sender.jobs job (h.heard heard).now there own)

-- ---- no job is lost

-- an accepted report of a call names jobs of its own system alone
own_system : (state : State) (system : List ℕ) (at : Moment) (numbers : List ℕ) (job : Job) → verdict state (Done system at numbers) ≡ None → Contains state.jobs job → list_any (λ number. number == job.number) numbers ≡ true → job.system ≡ system
own_system state system at numbers job e there named = (bytes_decides job.system system).0 (by-test (same_text job.system system) refl)
  where
    heads : List JobHead
    heads = map head_of state.jobs

    none : has_other system numbers (map head_of state.jobs) ≡ false
    none =
        let first = cond_none (ltb 256 (length numbers)) _ _ e in
        let second = cond_none (not (has_system state system)) _ _ first.1 in
        let third = cond_none (is_missing_one numbers (map head_of state.jobs)) _ _ second.1 in
        let fourth = cond_none (has_repeat numbers) _ _ third.1 in
        (cond_none (has_other system numbers (map head_of state.jobs)) _ _ fourth.1).0

    both : (a b : Bool) → a ≡ true → b ≡ false → a && not b ≡ true
    both true false p q = refl
    both true true p q = absurd (cc)
    both false b p q = absurd (cc)

    by-test : (t : Bool) → same_text job.system system ≡ t → t ≡ true
    by-test true e = refl
    by-test false e = absurd (both_ways _ none
        (some_passes (λ (other : JobHead). list_any (λ number. number == other.number) numbers && not (same_text other.system system)) (map head_of state.jobs) (head_of job) (in_map head_of state.jobs job there) (both (list_any (λ number. number == job.number) numbers) (same_text job.system system) named e)))

is_same : (a b : ℕ) → a == b ≡ true → b ≡ a
is_same a b e = grind (arith, nat_tests)

module _ (crossing : Crossing) (world : World) (h : Holds crossing world) (job : Job) (there : Contains world.sender.jobs job) (own : job.system ≡ crossing.to) where
  -- a number that was answered was queued for this very job
  was_queued : Contains world.answered job.number → IsQueued crossing world (parcel_of job)
  was_queued told =
      let was = h.answered job.number told in
      let made = h.made was.it was.there in
      let same : parcel_of job ≡ made.0 = (h.shown made.0 made.1).same job there (sym was.is ∙ made.2.number) in
      subst (IsQueued crossing world) (sym same) (record { handed = was.it; there = was.there; of = made.2 })

  gone_by : (command : Command) → MayRun crossing world command → verdict world.sender command ≡ None → lets_go command job ≡ true → Contains (kills_in (command ∷ [])) job.number ⊎ IsQueued crossing world (parcel_of job)
  gone_by (Kill number by) may e goes = inl (let same : number ≡ job.number = is_same job.number number goes in subst (λ n. Contains (n ∷ []) job.number) (sym same) (first_of job.number []))
  gone_by (Done system at numbers) may e goes =
      let mine : job.system ≡ system = own_system world.sender system at numbers job e there goes in
      let one = passing_one (λ number. number == job.number) numbers goes in
      let told = All-contains (Contains world.answered) numbers one.0 (may (sym mine ∙ own)) one.1 in
      inr (was_queued (subst (Contains world.answered) (eqb-true one.0 job.number one.2) told))
  gone_by (Release system numbers) may e goes =
      let mine : job.system ≡ system = (bytes_decides job.system system).0 (and_second (is_among numbers job) (same_text job.system system) goes) in
      let one = passing_one (λ number. number == job.number) numbers (and_first (is_among numbers job) (same_text job.system system) goes) in
      let told = All-contains (Contains world.answered) numbers one.0 (may (sym mine ∙ own)) one.1 in
      inr (was_queued (subst (Contains world.answered) (eqb-true one.0 job.number one.2) told))
  gone_by (Define def) may e goes = absurd (cc)
  gone_by (Remove name) may e goes = absurd (cc)
  gone_by (Queue new) may e goes = absurd (cc)
  gone_by (QueueOnce key new) may e goes = absurd (cc)
  gone_by (Regrade number grade by) may e goes = absurd (cc)
  gone_by (Rejuvenate number at by) may e goes = absurd (cc)
  gone_by (Failed system at why) may e goes = absurd (cc)
  gone_by (Entry bytes) may e goes = absurd (cc)
  gone_by (Forget system below) may e goes = absurd (cc)

  abbrev Ends : Command → Option Refusal → Type 0
  Ends command v = IsAmong (after_verdict v world.sender command).0.jobs job ⊎ Contains (world.killed ++ kills_in (unless_refused v command [])) job.number ⊎ IsQueued crossing world (parcel_of job)

  ends : (command : Command) → MayRun crossing world command → Ends command (verdict world.sender command)
  ends command may = by_verdict (verdict world.sender command) refl (stays world.sender command job there)
    where
      by_verdict : (v : Option Refusal) → verdict world.sender command ≡ v → (lets_go command job ≡ false → IsAmong (after_verdict v world.sender command).0.jobs job) → Ends command v
      by_verdict (Some refusal) e stay = inl (record { later = job; there = there; same = record { number = refl; system = refl; user = refl; kind = refl; bytes = refl } })
      by_verdict None e stay = by-test (lets_go command job) refl
        where
          by-test : (t : Bool) → lets_go command job ≡ t → Ends command None
          by-test false f = inl (stay f)
          by-test true f = inr (elim (gone_by command may e f) [
            | inl killed ↦ inl (Contains-append_right world.killed (kills_in (command ∷ [])) job.number killed)
            | inr queued ↦ inr queued
          ])

-- the same, of a job that was the same before
pub carried_back : (crossing : Crossing) (world : World) (job later : Job) → IsSameJob job later → IsNotLost crossing world later → IsNotLost crossing world job
carried_back crossing world job later same (inl among) = inl (record {
  later = among.later;
  there = among.there;
  same = record { number = among.same.number ∙ same.number; system = among.same.system ∙ same.system; user = among.same.user ∙ same.user; kind = among.same.kind ∙ same.kind; bytes = among.same.bytes ∙ same.bytes };
})
carried_back crossing world job later same (inr (inl killed)) = inr (inl (subst (Contains world.killed) same.number killed))
carried_back crossing world job later same (inr (inr queued)) = inr (inr (subst (IsQueued crossing world) (same_parcel job later same) queued))

-- a step leaves a job accounted for that waits
pub waits_on : (crossing : Crossing) (world : World) (step : Step) (job : Job) → Holds crossing world → MayGo crossing world step → Contains world.sender.jobs job → job.system ≡ crossing.to → IsNotLost crossing (go crossing world step) job
waits_on crossing world (SenderRuns command) job h may there own = elim (ends crossing world h job there own command may) [
  | inl among ↦ inl among
  | inr rest ↦ (elim rest [
    | inl killed ↦ inr (inl killed)
    | inr queued ↦ inr (inr (record { handed = queued.handed; there = queued.there; of = queued.of }))
  ])
]
waits_on crossing world (SenderShows shown) job h may there own = inl (record { later = job; there = there; same = record { number = refl; system = refl; user = refl; kind = refl; bytes = refl } })
waits_on crossing world (SenderSays below) job h may there own = inl (record { later = job; there = there; same = record { number = refl; system = refl; user = refl; kind = refl; bytes = refl } })
waits_on crossing world (ReceiverTakes parcel new) job h may there own = inl (record { later = job; there = there; same = record { number = refl; system = refl; user = refl; kind = refl; bytes = refl } })
waits_on crossing world (ReceiverRuns command) job h may there own = inl (record { later = job; there = there; same = record { number = refl; system = refl; user = refl; kind = refl; bytes = refl } })
waits_on crossing world (ReceiverTells number) job h may there own = inl (record { later = job; there = there; same = record { number = refl; system = refl; user = refl; kind = refl; bytes = refl } })

pub still_killed : (crossing : Crossing) (world : World) (step : Step) (number : ℕ) → Contains world.killed number → Contains (go crossing world step).killed number
still_killed crossing world (SenderRuns command) number there = Contains-append_left world.killed (kills_in (accepted_of world.sender (command ∷ []))) number there
still_killed crossing world (SenderShows job) number there = there
still_killed crossing world (SenderSays below) number there = there
still_killed crossing world (ReceiverTakes parcel new) number there = there
still_killed crossing world (ReceiverRuns command) number there = there
still_killed crossing world (ReceiverTells told) number there = there

pub still_queued : (crossing : Crossing) (world : World) (step : Step) (parcel : Parcel) → IsQueued crossing world parcel → IsQueued crossing (go crossing world step) parcel
still_queued crossing world (SenderRuns command) parcel q = record { handed = q.handed; there = q.there; of = q.of }
still_queued crossing world (SenderShows job) parcel q = record { handed = q.handed; there = q.there; of = q.of }
still_queued crossing world (SenderSays below) parcel q = record { handed = q.handed; there = q.there; of = q.of }
still_queued crossing world (ReceiverTakes other new) parcel q =
    record { handed = q.handed; there = Contains-append_left world.handed (map (handed_for other) (added world.receiver (after world.receiver (QueueOnce (key_of crossing other) new)).0)) q.handed q.there; of = q.of }
still_queued crossing world (ReceiverRuns command) parcel q = record { handed = q.handed; there = q.there; of = q.of }
still_queued crossing world (ReceiverTells number) parcel q = record { handed = q.handed; there = q.there; of = q.of }

pub accounted : (crossing : Crossing) (world : World) (steps : List Step) (job : Job) → Holds crossing world → MayGoOn crossing world steps → job.system ≡ crossing.to → IsNotLost crossing world job → IsNotLost crossing (world_after crossing world steps) job
accounted crossing world [] job h may own was = was
accounted crossing world (step ∷ steps) job h may own was =
    accounted crossing (go crossing world step) steps job (holds_after crossing world step h may.0) may.1 own (by-case was)
  where
    by-case : IsNotLost crossing world job → IsNotLost crossing (go crossing world step) job
    by-case (inl among) = carried_back crossing (go crossing world step) job among.later among.same (waits_on crossing world step among.later h may.0 among.there (among.same.system ∙ own))
    by-case (inr (inl killed)) = inr (inl (still_killed crossing world step job.number killed))
    by-case (inr (inr queued)) = inr (inr (still_queued crossing world step (parcel_of job) queued))

pub never_lost : (crossing : Crossing) (world : World) (steps : List Step) (job : Job) → Holds crossing world → MayGoOn crossing world steps → Contains world.sender.jobs job → job.system ≡ crossing.to → IsNotLost crossing (world_after crossing world steps) job
never_lost crossing world steps job h may there own =
    accounted crossing world steps job h may own (inl (record { later = job; there = there; same = record { number = refl; system = refl; user = refl; kind = refl; bytes = refl } }))

-- ---- a job that waits may cross

-- a report of one job that waits for the system is accepted
pub done_accepted : (state : State) (system : List ℕ) (job : Job) → AllPairs (λ (a b : Job). a.number < b.number) state.jobs → has_system state system ≡ true → Contains state.jobs job → job.system ≡ system → first_reason (done_reasons (has_system state system) system (job.number ∷ []) (map head_of state.jobs)) ≡ None
done_accepted state system job rising known there own =
    ap (λ t. first_reason ((false, TooLarge) ∷ (not t, NoSystem) ∷ (is_missing_one numbers heads, NoJob) ∷ (false, JobTwice) ∷ (has_other system numbers heads, OtherSystem) ∷ [])) known
    ∙ ap (λ t. first_reason ((not t || false, NoJob) ∷ (false, JobTwice) ∷ (has_other system numbers heads, OtherSystem) ∷ [])) found
    ∙ ap (λ t. first_reason ((t, OtherSystem) ∷ [])) (by-test (has_other system numbers heads) refl)
  where
    numbers : List ℕ
    numbers = job.number ∷ []

    heads : List JobHead
    heads = map head_of state.jobs

    found : has_number (map head_of state.jobs) job.number ≡ true
    found = some_passes (λ (head : JobHead). head.number == job.number) (map head_of state.jobs) (head_of job) (in_map head_of state.jobs job there) (eq-eqb job.number job.number refl)

    or_first : (a : Bool) → a || false ≡ true → a ≡ true
    or_first true e = refl
    or_first false e = absurd (cc)

    by-test : (t : Bool) → has_other system (job.number ∷ []) (map head_of state.jobs) ≡ t → t ≡ false
    by-test false e = refl
    by-test true e =
        let one = passing_one (λ (other : JobHead). list_any (λ number. number == other.number) (job.number ∷ []) && not (same_text other.system system)) (map head_of state.jobs) e in
        let from = from_map head_of state.jobs one.0 one.1 in
        let both = and_parts (list_any (λ number. number == one.0.number) (job.number ∷ [])) (not (same_text one.0.system system)) one.2 in
        let number : job.number ≡ one.0.number = eqb-true job.number one.0.number (or_first (job.number == one.0.number) both.0) in
        let same : job ≡ from.0 = one_of_number (λ (j : Job). j.number) state.jobs job from.0 rising there from.1 (number ∙ sym (ap (λ (head : JobHead). head.number) from.2)) in
        let system_is : one.0.system ≡ system = sym (ap (λ (head : JobHead). head.system) from.2) ∙ sym (ap (λ (j : Job). j.system) same) ∙ own in
        absurd (both_ways _ (not-true (same_text one.0.system system) both.1) ((bytes_decides one.0.system system).1 system_is))

pub done_gone : (state : State) (system : List ℕ) (at : Moment) (job : Job) → verdict state (Done system at (job.number ∷ [])) ≡ None → ¬ IsAmong (after state (Done system at (job.number ∷ []))).0.jobs job
done_gone state system at job e among =
    let inside = subst (λ v. Contains (after_verdict v state (Done system at (job.number ∷ []))).0.jobs among.later) e among.there in
    let kept = from_filter (λ (other : Job). not (is_among (job.number ∷ []) other)) state.jobs among.later inside in
    left (job.number == among.later.number) (same job.number among.later.number among.same.number) kept.1
  where
    same : (a b : ℕ) → b ≡ a → a == b ≡ true
    same a b e = grind (arith, nat_tests)

    left : (t : Bool) → t ≡ true → not (t || false) ≡ true → ⊥
    left true e f = cc
    left false e f = cc

module _ (crossing : Crossing) (world : World) (job : Job) (new : NewJob) (at : Moment) (h : Holds crossing world) (there : Contains world.sender.jobs job) (own : job.system ≡ crossing.to) (made : crossing.makes (parcel_of job) new ≡ true)
    (accepted : verdict world.receiver (QueueOnce (key_of crossing (parcel_of job)) new) ≡ None) (knows : has_system world.sender crossing.to ≡ true)
  where
    abbrev parcel : Parcel
    parcel = parcel_of job

    abbrev hand-in : Command
    hand-in = QueueOnce (key_of crossing parcel) new

    abbrev report : Command
    report = Done crossing.to at (job.number ∷ [])

    abbrev one : World
    one = go crossing world (SenderShows job)

    abbrev two : World
    two = go crossing one (ReceiverTakes parcel new)

    shown : Contains one.shown parcel
    shown = Contains-append_right world.shown (parcel ∷ []) parcel (first_of parcel [])

    told : Contains two.answered job.number
    told =
        let reply : (after world.receiver hand-in).1 ≡ Number (hand_in_number (hand_in world.receiver (key_of crossing parcel))) = ap (λ (p : State × Reply). p.1) (carried world.receiver hand-in accepted) in
        subst (λ r. Contains (world.answered ++ answer_to parcel r) job.number) (sym reply) (Contains-append_right world.answered (job.number ∷ []) job.number (first_of job.number []))

    first : Holds crossing one
    first = holds_after crossing world (SenderShows job) h (there, own)

    second : Holds crossing two
    second = holds_after crossing one (ReceiverTakes parcel new) first (shown, made)

    reported : verdict world.sender report ≡ None
    reported = done_accepted world.sender crossing.to job h.sender_order.rising knows there own

    answers : (system_is : crossing.to ≡ crossing.to) → All (Contains two.answered) (job.number ∷ [])
    answers system_is = All-cons (Contains two.answered) job.number [] told (All-nil (Contains two.answered))

    pub may_cross : MayCross crossing world job
    may_cross = record {
      steps = SenderShows job ∷ ReceiverTakes parcel new ∷ SenderRuns report ∷ [];
      may_go = ((there, own), ((shown, made), (answers, tt)));
      queued = still_queued crossing two (SenderRuns report) parcel (was_queued crossing two second job there own told);
      gone = done_gone world.sender crossing.to at job reported;
    }

-- ---- what the sender may say

-- in the order of the numbers the first that passes has the least
first_least : (p : Job → Bool) (jobs : List Job) (job : Job) → AllPairs (λ (a b : Job). a.number < b.number) jobs → find p jobs ≡ Some job → (other : Job) → Contains jobs other → p other ≡ true → job.number ≤ other.number
first_least p [] job rising e other there own = absurd (none_in other there)
first_least p (one ∷ jobs) job rising e other there own = by-test (p one) refl e (first_or_later one other jobs there) (λ f later. first_least p jobs job (pairs_rest R one jobs rising) f other later own)
  where
    R : Job → Job → Type 0
    R a b = a.number < b.number

    by-test : (t : Bool) → p one ≡ t → cond t (Some one) (find p jobs) ≡ Some job → (one ≡ other) ⊎ Contains jobs other → (find p jobs ≡ Some job → Contains jobs other → job.number ≤ other.number) → job.number ≤ other.number
    by-test true f e (inl same) again = let first : one ≡ job = cc in let a = ap (λ (j : Job). j.number) first in let b = ap (λ (j : Job). j.number) same in omega arith
    by-test true f e (inr later) again = let first : one ≡ job = cc in let a = ap (λ (j : Job). j.number) first in let l = All-contains (R one) jobs other (pairs_first R one jobs rising) later in omega arith
    by-test false f e (inl same) again = absurd (both_ways _ f (ap p same ∙ own))
    by-test false f e (inr later) again = again e later

pub least_waiting : (crossing : Crossing) (sender : State) → IsInOrder sender → IsLeast crossing sender (least_of crossing sender)
least_waiting crossing sender h = by_first (find (λ (job : Job). same_text job.system crossing.to) sender.jobs) refl
  where
    by_first : (o : Option Job) → find (λ (job : Job). same_text job.system crossing.to) sender.jobs ≡ o → IsLeast crossing sender (unwrap_or (option_map (λ (job : Job). job.number) o) sender.next)
    by_first None e = record {
      now = all_from (λ (job : Job). job.system ≡ crossing.to → sender.next ≤ job.number) sender.jobs
          (λ job there own. absurd (both_ways _ (find_none (λ (j : Job). same_text j.system crossing.to) sender.jobs e) (some_passes (λ (j : Job). same_text j.system crossing.to) sender.jobs job there ((bytes_decides job.system crossing.to).1 own))));
      later = omega arith;
    }
    by_first (Some first) e = record {
      now = all_from (λ (job : Job). job.system ≡ crossing.to → first.number ≤ job.number) sender.jobs
          (λ job there own. first_least (λ (j : Job). same_text j.system crossing.to) sender.jobs first h.rising e job there ((bytes_decides job.system crossing.to).1 own));
      later = let l = All-contains (λ (j : Job). j.number < sender.next) sender.jobs first h.below_next (find_there (λ (j : Job). same_text j.system crossing.to) sender.jobs first e).0 in omega arith;
    }
