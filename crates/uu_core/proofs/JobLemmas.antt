-- What a command does to the jobs.
use Rattle.std.proofs.Common.{◌≡◌, ℕ, Bool, true, false, not, cond, ◌&&◌, List, [], ◌∷◌, map, Contains, All, Option, Some, None, refl, ap, sym, subst, ◌∙◌, inl, inr, ◌⊎◌}
use Rattle.std.proofs.lemmas.List.Elements.{Contains-append_left, Contains-append_right, Contains-push_cases, All-head, All-tail, All-weaker}
use Rattle.std.proofs.lemmas.Bool.{not_from_false}
use Rattle.uu_names.proofs.Basics.{first_of, in_filter, from_filter, in_map, from_map}
use Rattle.uu_core.specs.declared.command.Command.{Command}
use Rattle.uu_core.specs.declared.command.Command.TheVariants.{Define, Remove, Queue, QueueOnce, Kill, Regrade, Rejuvenate, Failed, Done, Release, Entry, Forget}
use Rattle.uu_core.specs.declared.refusal.Refusal.{Refusal}
use Rattle.uu_core.specs.declared.custody.HandIn.{HandIn}
use Rattle.uu_core.specs.declared.custody.HandIn.TheVariants.{First, Again}
use Rattle.uu_core.specs.declared.custody.Key.{Key}
use Rattle.uu_core.specs.declared.job.NewJob.{NewJob}
use Rattle.uu_core.specs.State.{State, Job, same_text, is_job}
use Rattle.uu_core.specs.Verdict.{verdict, taken_of}
use Rattle.uu_core.specs.After.{after, after_verdict, accept, hand_in, with_job_once, with_job, change_job, job_of, is_among, is_released}
use Rattle.uu_core.specs.Run.{state_after}
use Rattle.uu_core.specs.Laws.{accepted_of, unless_refused, lets_go, IsSameJob, IsAmong, IsHandedIn, IsOfRun, handed_by, is_repeat}
use Rattle.uu_core.proofs.KeyLemmas.{by_hand_in, first_where}

same_job : (job : Job) → IsSameJob job job
same_job job = record { number = refl; system = refl; user = refl; kind = refl; bytes = refl }

itself : (jobs : List Job) (job : Job) → Contains jobs job → IsAmong jobs job
itself jobs job h = record { later = job; there = h; same = same_job job }

stays_changed : (jobs : List Job) (number : ℕ) (change : Job → Job) (job : Job) → ((j : Job) → IsSameJob j (change j)) → Contains jobs job → IsAmong (change_job number change jobs) job
stays_changed jobs number change job little h = by-test (is_job number job) refl
  where
    f : Job → Job
    f other = cond (is_job number other) (change other) other

    by-test : (t : Bool) → is_job number job ≡ t → IsAmong (change_job number change jobs) job
    by-test true e = record { later = change job; there = ap_there (rw e) (in_map f jobs job h); same = little job }
      where
        ap_there : f job ≡ change job → Contains (map f jobs) (f job) → Contains (map f jobs) (change job)
        ap_there q c = rw (← q) c
    by-test false e = record { later = job; there = ap_there (rw e) (in_map f jobs job h); same = same_job job }
      where
        ap_there : f job ≡ job → Contains (map f jobs) (f job) → Contains (map f jobs) job
        ap_there q c = rw q at c

stays_added : (state : State) (key : Key) (new : NewJob) (job : Job) (comes : HandIn) → Contains state.jobs job → IsAmong (with_job_once comes key new state).jobs job
stays_added state key new job (First number) h = itself _ job (Contains-append_left state.jobs (job_of state.next new ∷ []) job h)
stays_added state key new job (Again number) h = itself state.jobs job h

pub stays_accept : (state : State) (command : Command) (job : Job) → Contains state.jobs job → lets_go command job ≡ false → IsAmong (accept state command).jobs job
stays_accept state (Define def) job h e = itself state.jobs job h
stays_accept state (Remove name) job h e = itself state.jobs job h
stays_accept state (Queue new) job h e = itself _ job (Contains-append_left state.jobs (job_of state.next new ∷ []) job h)
stays_accept state (QueueOnce key new) job h e = stays_added state key new job (hand_in state key) h
stays_accept state (Kill number by) job h e = itself _ job (in_filter (λ other. not (is_job number other)) state.jobs job h (not_from_false (is_job number job) e))
stays_accept state (Regrade number grade by) job h e = stays_changed state.jobs number (λ other. record other { grade = grade }) job (λ j. record { number = refl; system = refl; user = refl; kind = refl; bytes = refl }) h
stays_accept state (Rejuvenate number at by) job h e = stays_changed state.jobs number (λ other. record other { queued = at.second }) job (λ j. record { number = refl; system = refl; user = refl; kind = refl; bytes = refl }) h
stays_accept state (Failed system at why) job h e = itself state.jobs job h
stays_accept state (Done system at jobs) job h e = itself _ job (in_filter (λ j. not (is_among jobs j)) state.jobs job h (not_from_false (is_among jobs job) e))
stays_accept state (Release system jobs) job h e = itself _ job (in_filter (λ j. not (is_released system jobs j)) state.jobs job h (not_from_false (is_released system jobs job) e))
stays_accept state (Entry bytes) job h e = itself state.jobs job h
stays_accept state (Forget system below) job h e = itself state.jobs job h

pub stays : (state : State) (command : Command) (job : Job) → Contains state.jobs job → lets_go command job ≡ false → IsAmong (after state command).0.jobs job
stays state command job h e = by_verdict (verdict state command)
  where
    by_verdict : (v : Option Refusal) → IsAmong (after_verdict v state command).0.jobs job
    by_verdict None = stays_accept state command job h e
    by_verdict (Some refusal) = itself state.jobs job h

-- ---- nothing is made

back : (job later : Job) → IsSameJob job later → IsSameJob later job
back job later s = record { number = sym s.number; system = sym s.system; user = sym s.user; kind = sym s.kind; bytes = sym s.bytes }

was_changed : (jobs : List Job) (number : ℕ) (change : Job → Job) (later : Job) → ((j : Job) → IsSameJob j (change j)) → Contains (change_job number change jobs) later → IsAmong jobs later
was_changed jobs number change later little h =
    let r = from_map (λ other. cond (is_job number other) (change other) other) jobs later h in
    record { later = r.0; there = r.1; same = back r.0 later (by-test (is_job number r.0) r.2) }
  where
    by-test : {job : Job} (t : Bool) → cond t (change job) job ≡ later → IsSameJob job later
    by-test {job} true e = rw (← e) (little job)
    by-test {job} false e = rw (← e) (same_job job)

-- one that was added is the new one
was_added : (state : State) (new : NewJob) (command : Command) (later : Job) → handed_by command ≡ Some new → is_repeat state command ≡ false → verdict state command ≡ None → Contains (with_job new state).jobs later → IsAmong state.jobs later ⊎ IsHandedIn state command later
was_added state new command later is first e h = elim (Contains-push_cases state.jobs (job_of state.next new) later h) [
  | inl there ↦ inl (itself state.jobs later there)
  | inr same ↦ inr (record { new = new; command_is = is; accepted = e; first = first; job_is = sym same })
]

pub handed_in_accept : (state : State) (command : Command) (later : Job) → verdict state command ≡ None → Contains (accept state command).jobs later → IsAmong state.jobs later ⊎ IsHandedIn state command later
handed_in_accept state (Define def) later e h = inl (itself state.jobs later h)
handed_in_accept state (Remove name) later e h = inl (itself state.jobs later h)
handed_in_accept state (Queue new) later e h = was_added state new (Queue new) later refl refl e h
handed_in_accept state (QueueOnce key new) later e h = by_hand_in P (taken_of state key) key state.next (λ first h. was_added state new (QueueOnce key new) later refl first e h) (λ row is same repeat h. inl (itself state.jobs later h)) refl h
  where
    P : Bool → HandIn → Type 0
    P again comes = is_repeat state (QueueOnce key new) ≡ again → Contains (with_job_once comes key new state).jobs later → IsAmong state.jobs later ⊎ IsHandedIn state (QueueOnce key new) later
handed_in_accept state (Kill number by) later e h = inl (itself state.jobs later (from_filter (λ other. not (is_job number other)) state.jobs later h).0)
handed_in_accept state (Regrade number grade by) later e h = inl (was_changed state.jobs number (λ other. record other { grade = grade }) later (λ j. record { number = refl; system = refl; user = refl; kind = refl; bytes = refl }) h)
handed_in_accept state (Rejuvenate number at by) later e h = inl (was_changed state.jobs number (λ other. record other { queued = at.second }) later (λ j. record { number = refl; system = refl; user = refl; kind = refl; bytes = refl }) h)
handed_in_accept state (Failed system at why) later e h = inl (itself state.jobs later h)
handed_in_accept state (Done system at jobs) later e h = inl (itself state.jobs later (from_filter (λ j. not (is_among jobs j)) state.jobs later h).0)
handed_in_accept state (Release system jobs) later e h = inl (itself state.jobs later (from_filter (λ j. not (is_released system jobs j)) state.jobs later h).0)
handed_in_accept state (Entry bytes) later e h = inl (itself state.jobs later h)
handed_in_accept state (Forget system below) later e h = inl (itself state.jobs later h)

pub handed_in : (state : State) (command : Command) (later : Job) → Contains (after state command).0.jobs later → IsAmong state.jobs later ⊎ IsHandedIn state command later
handed_in state command later h = by_verdict (verdict state command) refl h
  where
    by_verdict : (v : Option Refusal) → verdict state command ≡ v → Contains (after_verdict v state command).0.jobs later → IsAmong state.jobs later ⊎ IsHandedIn state command later
    by_verdict None e h = handed_in_accept state command later e h
    by_verdict (Some refusal) e h = inl (itself state.jobs later h)

-- ---- runs

same_later : (job later last : Job) → IsSameJob job later → IsSameJob later last → IsSameJob job last
same_later job later last s t = record { number = t.number ∙ s.number; system = t.system ∙ s.system; user = t.user ∙ s.user; kind = t.kind ∙ s.kind; bytes = t.bytes ∙ s.bytes }

-- a command lets the same job go
same_gone : (command : Command) (job later : Job) → IsSameJob job later → lets_go command job ≡ lets_go command later
same_gone (Kill number by) job later same = ap (λ n. is_job number (record job { number = n })) (sym same.number)
same_gone (Done system at jobs) job later same = ap (λ n. is_among jobs (record job { number = n })) (sym same.number)
same_gone (Release system jobs) job later same =
    ap (λ n. is_among jobs (record job { number = n }) && same_text job.system system) (sym same.number) ∙ ap (λ s. is_among jobs later && same_text s system) (sym same.system)
same_gone (Define def) job later same = refl
same_gone (Remove name) job later same = refl
same_gone (Queue new) job later same = refl
same_gone (QueueOnce key new) job later same = refl
same_gone (Regrade number grade by) job later same = refl
same_gone (Rejuvenate number at by) job later same = refl
same_gone (Failed system at why) job later same = refl
same_gone (Entry bytes) job later same = refl
same_gone (Forget system below) job later same = refl

pub stays_run : (state : State) (commands : List Command) (job : Job) → Contains state.jobs job → All (λ (command : Command). lets_go command job ≡ false) (accepted_of state commands) → IsAmong (state_after state commands).jobs job
stays_run state [] job there h = itself state.jobs job there
stays_run state (command ∷ commands) job there h = by_verdict (verdict state command) refl h (λ later inside kept. stays_run (after state command).0 commands later inside kept)
  where
    by_verdict : (v : Option Refusal) → verdict state command ≡ v → All (λ (c : Command). lets_go c job ≡ false) (unless_refused v command (accepted_of (after state command).0 commands))
        → ((later : Job) → Contains (after state command).0.jobs later → All (λ (c : Command). lets_go c later ≡ false) (accepted_of (after state command).0 commands) → IsAmong (state_after (after state command).0 commands).jobs later)
        → IsAmong (state_after (after state command).0 commands).jobs job
    by_verdict None e h again =
        let rest : All (λ (c : Command). lets_go c job ≡ false) (accepted_of (after state command).0 commands) = All-tail (λ (c : Command). lets_go c job ≡ false) command (accepted_of (after state command).0 commands) h in
        let a : IsAmong (after state command).0.jobs job = stays state command job there (All-head (λ (c : Command). lets_go c job ≡ false) command (accepted_of (after state command).0 commands) h) in
        let b : IsAmong (state_after (after state command).0 commands).jobs a.later = again a.later a.there (All-weaker (λ (c : Command). lets_go c job ≡ false) (λ (c : Command). lets_go c a.later ≡ false) (λ c gone. sym (same_gone c job a.later a.same) ∙ gone) (accepted_of (after state command).0 commands) rest) in
        record { later = b.later; there = b.there; same = same_later job a.later b.later a.same b.same }
    by_verdict (Some refusal) e h again = again job (subst (λ (s : State). Contains s.jobs job) (sym (ap (λ v. (after_verdict v state command).0) e)) there) h

-- a job that is among those after the first command of a run
earlier : (state : State) (command : Command) (commands : List Command) (last : Job) → IsAmong (after state command).0.jobs last → IsAmong state.jobs last ⊎ IsOfRun state (command ∷ commands) last
earlier state command commands last among = elim (handed_in state command among.later among.there) [
  | inl before ↦ inl (record { later = before.later; there = before.there; same = same_later last among.later before.later among.same before.same })
  | inr made ↦ inr (record {
    before = [];
    command = command;
    behind = commands;
    run_is = refl;
    job = among.later;
    made = made;
    same = back last among.later among.same;
  })
]

pub handed_in_run : (state : State) (commands : List Command) (last : Job) → Contains (state_after state commands).jobs last → IsAmong state.jobs last ⊎ IsOfRun state commands last
handed_in_run state [] last h = inl (itself state.jobs last h)
handed_in_run state (command ∷ commands) last h = elim (handed_in_run (after state command).0 commands last h) [
  | inl among ↦ earlier state command commands last among
  | inr made ↦ inr (record {
    before = command ∷ made.before;
    command = made.command;
    behind = made.behind;
    run_is = ap (λ rest. command ∷ rest) made.run_is;
    job = made.job;
    made = made.made;
    same = made.same;
  })
]

pub queued : (state : State) (job : NewJob) → verdict state (Queue job) ≡ None → Contains (after state (Queue job)).0.jobs (job_of state.next job)
queued state job e = subst (λ (s : State). Contains s.jobs (job_of state.next job)) (sym (ap (λ v. (after_verdict v state (Queue job)).0) e)) (Contains-append_right state.jobs (job_of state.next job ∷ []) (job_of state.next job) (first_of (job_of state.next job) []))

pub queued_once : (state : State) (key : Key) (job : NewJob) → verdict state (QueueOnce key job) ≡ None → is_repeat state (QueueOnce key job) ≡ false → Contains (after state (QueueOnce key job)).0.jobs (job_of state.next job)
queued_once state key job e first =
    subst (λ (s : State). Contains s.jobs (job_of state.next job)) (sym (ap (λ v. (after_verdict v state (QueueOnce key job)).0) e ∙ ap (λ comes. with_job_once comes key job state) (first_where (taken_of state key) key state.next first)))
    (Contains-append_right state.jobs (job_of state.next job ∷ []) (job_of state.next job) (first_of (job_of state.next job) []))
