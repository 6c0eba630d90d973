-- What becomes of the jobs, by the law of custody.
use Rattle.std.proofs.Common.{◌≡◌, ◌<◌, inl, inr, ℕ, Bool, true, false, cond, nat_le, List, [], ◌∷◌, ◌++◌, map, All, AllPairs, Contains, Option, Some, None, refl, sym, ap, subst, ◌∙◌, append_assoc, ◌+◌}
use Rattle.std.proofs.lemmas.List.Elements.{Contains-append_cases}
use Rattle.uu_names.proofs.Basics.{later_of, none_in, all_from, from_filter, from_map, all_or_one}
use Rattle.uu_core.specs.declared.command.Command.{Command}
use Rattle.uu_core.specs.declared.command.Command.TheVariants.{Define, Remove, Queue, QueueOnce, Kill, Regrade, Rejuvenate, Failed, Done, Release, Entry, Forget}
use Rattle.uu_core.specs.declared.command.Reply.TheVariants.{Number, Refused}
use Rattle.uu_core.specs.declared.job.NewJob.{NewJob}
use Rattle.uu_core.specs.declared.custody.Key.{Key}
use Rattle.uu_core.specs.declared.refusal.Refusal.{Refusal}
use Rattle.uu_core.specs.State.{State, Job, IsWellFormed, link_of, new_link, same_text}
use Rattle.uu_core.specs.Verdict.{verdict}
use Rattle.uu_core.specs.After.{after, after_verdict, job_of}
use Rattle.uu_core.specs.Run.{state_after}
use Rattle.uu_core.specs.Laws.{accepted_of, unless_refused, lets_go, IsAmong, is_repeat, IsFirstUnder}
use Rattle.uu_handover.specs.Custody.{Parcel, Crossing, Handed, World, Step, MayGoOn, world_after, start, IsReached, IsHandedFor, IsNotLost, IsFree, added}
use Rattle.uu_custody.specs.Events.{Event, sender, receiver, sessions_at, PassesTruly, KeepsToWire, nothing_sent, ForgetsWhatWasSaid}
use Rattle.uu_store.specs.Acknowledged.{WasLetGo}
use Rattle.uu_custody.specs.Handovers.{handed_of, handed_in, Waited, IsKeptOrGone, IsInCustody, IsOfWaiting, AreOfWorld, ComeOnce, NothingIsInTheWay}
use Rattle.uu_store.proofs.Acknowledging.{Placed}
use Rattle.uu_custody.proofs.Steps.{world_on, may_first, may_second, Proceeds}
use Rattle.uu_custody.proofs.Proceeding.{proceeds}

-- ---- a job that was queued is kept

accepted_behind : (s : State) (command : Command) (commands : List Command) (c : Command) → Contains (accepted_of (after s command).0 commands) c → Contains (accepted_of s (command ∷ commands)) c
accepted_behind s command commands c there = by_verdict (verdict s command)
  where
    by_verdict : (v : Option Refusal) → Contains (unless_refused v command (accepted_of (after s command).0 commands)) c
    by_verdict None = later_of command c (accepted_of (after s command).0 commands) there
    by_verdict (Some refusal) = there

gone_behind : (s : State) (command : Command) (commands : List Command) (job : Job) → WasLetGo (after s command).0 commands job → WasLetGo s (command ∷ commands) job
gone_behind s command commands job went = (went.0, accepted_behind s command commands went.0 went.1, went.2)

pub there_then : (crossing : Crossing) (s : State) (command : Command) (handed : Handed) → Contains (handed_of crossing s command) handed → Contains (after s command).0.jobs handed.job
there_then crossing s (QueueOnce key new) handed there = by-name (same_text key.from crossing.from) there
  where
    by-name : (t : Bool) → Contains (cond t (map {B = Handed} (λ job. record { number = key.number; job = job }) (added s (after s (QueueOnce key new)).0)) []) handed → Contains (after s (QueueOnce key new)).0.jobs handed.job
    by-name true there =
        let one = from_map {Y = Handed} (λ job. record { number = key.number; job = job }) (added s (after s (QueueOnce key new)).0) handed there in
        subst (Contains (after s (QueueOnce key new)).0.jobs) (ap (λ (h : Handed). h.job) one.2) (from_filter (λ (job : Job). nat_le s.next job.number) (after s (QueueOnce key new)).0.jobs one.0 one.1).0
    by-name false there = absurd (none_in handed there)
there_then crossing s (Define def) handed there = absurd (none_in handed there)
there_then crossing s (Remove name) handed there = absurd (none_in handed there)
there_then crossing s (Queue new) handed there = absurd (none_in handed there)
there_then crossing s (Kill job by) handed there = absurd (none_in handed there)
there_then crossing s (Regrade job grade by) handed there = absurd (none_in handed there)
there_then crossing s (Rejuvenate job at by) handed there = absurd (none_in handed there)
there_then crossing s (Failed system at why) handed there = absurd (none_in handed there)
there_then crossing s (Done system at jobs) handed there = absurd (none_in handed there)
there_then crossing s (Release system jobs) handed there = absurd (none_in handed there)
there_then crossing s (Entry bytes) handed there = absurd (none_in handed there)
there_then crossing s (Forget system below) handed there = absurd (none_in handed there)

abbrev Stay : Type 0
Stay = (state : State) (commands : List Command) (job : Job) → Contains state.jobs job → All (λ command. lets_go command job ≡ false) (accepted_of state commands) → IsAmong (state_after state commands).jobs job

kept : Stay → (crossing : Crossing) (s : State) (commands : List Command) (handed : Handed) → Contains (handed_in crossing s commands) handed → IsKeptOrGone s commands handed.job
kept stay crossing s [] handed there = absurd (none_in handed there)
kept stay crossing s (command ∷ commands) handed there = elim (Contains-append_cases (handed_of crossing s command) (handed_in crossing (after s command).0 commands) handed there) [
  | inl own ↦ (elim (all_or_one (λ c. lets_go c handed.job) (accepted_of (after s command).0 commands)) [
    | inl none ↦ inl (stay (after s command).0 commands handed.job (there_then crossing s command handed own) none)
    | inr one ↦ inr (gone_behind s command commands handed.job one)
  ])
  | inr later ↦ (elim (kept stay crossing (after s command).0 commands handed later) [
    | inl among ↦ inl among
    | inr went ↦ inr (gone_behind s command commands handed.job went)
  ])
]

-- ---- all claims

module _
    (once : (crossing : Crossing) (world : World) → IsReached crossing world → AllPairs (λ one other. ¬ (one.number ≡ other.number)) world.handed)
    (rising : (crossing : Crossing) (world : World) → IsReached crossing world → AllPairs (λ one other. one.job.number < other.job.number) world.handed)
    (not_lost : (crossing : Crossing) (world : World) (steps : List Step) (job : Job) → IsReached crossing world → MayGoOn crossing world steps → Contains world.sender.jobs job → job.system ≡ crossing.to → IsNotLost crossing (world_after crossing world steps) job)
    (made : (crossing : Crossing) (world : World) (handed : Handed) → IsReached crossing world → Contains world.handed handed → (parcel : Parcel) × Contains world.shown parcel × IsHandedFor crossing parcel handed)
    (stay : Stay)
    (crossing : Crossing) (a b : State) (sent received : List Command) (good : IsWellFormed a) (well : IsWellFormed b) (nothing : link_of b crossing.from ≡ new_link crossing.from)
    (events : List Event) (run : Proceeds (ForgetsWhatWasSaid crossing nothing_sent events) crossing (start a b) sent received)
  where
    abbrev last : World
    last = world_after crossing (start a b) run.steps

    reached : IsReached crossing last
    reached = record { sender = a; receiver = b; steps = run.steps; sender_is = good; receiver_is = well; nothing_kept = nothing; may_go = run.may_go; world_is = refl }

    handed_is : last.handed ≡ handed_in crossing b received
    handed_is = run.handed_is

    inside : (handed : Handed) → Contains (handed_in crossing b received) handed → Contains last.handed handed
    inside handed there = subst (λ l. Contains l handed) (sym handed_is) there

    of_waiting : (handed : Handed) → Contains (handed_in crossing b received) handed → IsOfWaiting crossing a sent handed
    of_waiting handed there =
        let it = made crossing last handed reached (inside handed there) in
        elim (run.shown_are it.0 it.1) [
          | inl before ↦ absurd (none_in it.0 before)
          | inr one ↦ (record { job = one.job; waited = one.waited; of = subst (λ p. IsHandedFor crossing p handed) one.is it.2 })
        ]

    accounted : (job : Job) → IsNotLost crossing last job → IsInCustody crossing a sent b received job
    accounted job (inl among) = inl (subst (λ (s : State). IsAmong s.jobs job) run.sender_is among)
    accounted job (inr (inl killed)) = inr (inl (subst (λ l. Contains l job.number) run.killed_is killed))
    accounted job (inr (inr queued)) =
        let there : Contains (handed_in crossing b received) queued.handed = subst (λ l. Contains l queued.handed) handed_is queued.there in
        inr (inr (record { handed = queued.handed; there = there; of = queued.of; kept = kept stay crossing b received queued.handed there }))

    never_lost : (job : Job) → Waited crossing a sent job → IsInCustody crossing a sent b received job
    never_lost job waited =
        let came = run.came job waited in
        let may = subst (MayGoOn crossing (start a b)) came.steps_are run.may_go in
        let then = not_lost crossing (world_after crossing (start a b) came.first) came.second job
        (record { sender = a; receiver = b; steps = came.first; sender_is = good; receiver_is = well; nothing_kept = nothing; may_go = may_first crossing (start a b) came.first came.second may; world_is = refl })
        (may_second crossing (start a b) came.first came.second may) came.there waited.system in
        accounted job (subst (λ w. IsNotLost crossing w job) (sym (world_on crossing (start a b) came.first came.second) ∙ ap (world_after crossing (start a b)) (sym came.steps_are)) then)

    pub of_world : AreOfWorld crossing events a sent b received
    of_world = record { world = last; reached = reached; sender_is = run.sender_is; receiver_is = run.receiver_is; handed_is = handed_is; heard = run.heard }

    pub come_once : ComeOnce crossing a sent b received
    come_once = record {
      never_lost = never_lost;
      never_twice = subst (AllPairs (λ (one other : Handed). ¬ (one.number ≡ other.number))) handed_is (once crossing last reached);
      apart = subst (AllPairs (λ (one other : Handed). one.job.number < other.job.number)) handed_is (rising crossing last reached);
      same = all_from (IsOfWaiting crossing a sent) (handed_in crossing b received) of_waiting;
      kept = all_from (λ (handed : Handed). IsKeptOrGone b received handed.job) (handed_in crossing b received) (kept stay crossing b received);
    }

-- ---- what is in a job's way

pub nothing_in_the_way : (crossing : Crossing) (a b : State) (events : List Event) (sent received : List Command)
    → ((world : World) (job : Job) (new : NewJob) → IsReached crossing world → world.is_heard ≡ true → Contains world.sender.jobs job → job.system ≡ crossing.to → IsFree crossing world job new)
    → AreOfWorld crossing events a sent b received → ForgetsWhatWasSaid crossing nothing_sent events → NothingIsInTheWay crossing a sent b received
nothing_in_the_way crossing a b events sent received free of said job new there own =
    subst (λ (s : State). IsFree crossing (start (state_after a sent) s) job new) of.receiver_is
    (free of.world job new of.reached (of.heard said) (subst (λ (s : State). Contains s.jobs job) (sym of.sender_is) there) own)

-- ---- an acknowledged job waited

pub told_waited : (crossing : Crossing) (a : State) (sent : List Command) (new : NewJob) (number : ℕ)
    → ((state : State) (first second : List Command) → state_after state (first ++ second) ≡ state_after (state_after state first) second)
    → ((state : State) (job : NewJob) (given : ℕ) → (after state (Queue job)).1 ≡ Number given → (given ≡ state.next) × ((after state (Queue job)).0.next ≡ given + 1))
    → ((state : State) (job : NewJob) → verdict state (Queue job) ≡ None → Contains (after state (Queue job)).0.jobs (job_of state.next job))
    → Placed a sent (Queue new) (Number number) → new.system ≡ crossing.to → Waited crossing a sent (job_of number new)
told_waited crossing a sent new number follow used queued it own = record {
  before = it.before ++ Queue new ∷ [];
  behind = it.behind;
  commands_are = it.is ∙ sym (append_assoc it.before (Queue new ∷ []) it.behind);
  there = subst (λ (s : State). Contains s.jobs (job_of number new)) (sym (follow a it.before (Queue new ∷ [])))
      (subst (λ n. Contains (after (state_after a it.before) (Queue new)).0.jobs (job_of n new)) (sym (used (state_after a it.before) new number it.told).0)
      (queued (state_after a it.before) new (accepted (verdict (state_after a it.before) (Queue new)) refl it.told)));
  system = own;
}
  where
    accepted : (v : Option Refusal) → verdict (state_after a it.before) (Queue new) ≡ v → (after_verdict v (state_after a it.before) (Queue new)).1 ≡ Number number → verdict (state_after a it.before) (Queue new) ≡ None
    accepted None is told = is
    accepted (Some refusal) is told = absurd (apart told)
      where
        apart : Refused refusal ≡ Number number → ⊥
        apart q = cc

-- the job that was handed in first under a key waited
pub first_waited : (crossing : Crossing) (a : State) (sent : List Command) (key : Key) (first : NewJob) (number : ℕ)
    → ((state : State) (one other : List Command) → state_after state (one ++ other) ≡ state_after (state_after state one) other)
    → ((state : State) (key : Key) (job : NewJob) → verdict state (QueueOnce key job) ≡ None → is_repeat state (QueueOnce key job) ≡ false → Contains (after state (QueueOnce key job)).0.jobs (job_of state.next job))
    → IsFirstUnder a sent key first number → first.system ≡ crossing.to → Waited crossing a sent (job_of number first)
first_waited crossing a sent key first number follow queued it own = record {
  before = it.before ++ QueueOnce key first ∷ [];
  behind = it.behind;
  commands_are = it.run_is ∙ sym (append_assoc it.before (QueueOnce key first ∷ []) it.behind);
  there = subst (λ (s : State). Contains s.jobs (job_of number first)) (sym (follow a it.before (QueueOnce key first ∷ [])))
      (subst (λ n. Contains (after (state_after a it.before) (QueueOnce key first)).0.jobs (job_of n first)) (sym (ap (λ (j : Job). j.number) it.made.job_is))
      (queued (state_after a it.before) key first it.made.accepted it.made.first));
  system = own;
}

pub runs_proceed : (crossing : Crossing) (a b : State) (events : List Event) (sent received : List Command) → PassesTruly crossing a (sessions_at sender events) sent → PassesTruly crossing b (sessions_at receiver events) received → KeepsToWire crossing nothing_sent events → Proceeds (ForgetsWhatWasSaid crossing nothing_sent events) crossing (start a b) sent received
runs_proceed crossing a b events sent received p q keeps =
    proceeds (ForgetsWhatWasSaid crossing nothing_sent events) crossing events (start a b) nothing_sent sent received (record { parcels = λ parcel there. absurd (none_in parcel there); answers = λ number there. absurd (none_in number there); said = λ number there. absurd (none_in number there) })
    p q keeps (λ h. h) (λ h. refl)
