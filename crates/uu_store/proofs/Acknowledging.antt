-- The commands that count account for an acknowledged job.
use Rattle.std.proofs.Common.{◌≡◌, ◌⊎◌, ◌≤◌, ◌<◌, inl, inr, ℕ, ◌+◌, Bool, true, false, List, [], ◌∷◌, ◌++◌, length, find, Option, Some, None, All, Contains, refl, sym, ap, subst, ◌∙◌, append_assoc, arith}
use Rattle.std.specs.Prelude.{zip}
use Rattle.std.proofs.lemmas.Bool.{eqb-true}
use Rattle.std.proofs.lemmas.Bool.Decides.{nat_tests}
use Rattle.std.proofs.lemmas.List.{length-append}
use Rattle.std.proofs.lemmas.List.Elements.{All-contains, Contains-append_right}
use Rattle.std.proofs.lemmas.Option.{same_Some}
use Rattle.uu_names.proofs.Basics.{first_of, first_or_later, none_in, later_of, all_or_one}
use Rattle.uu_core.specs.declared.command.Command.{Command}
use Rattle.uu_core.specs.declared.command.Command.TheVariants.{Define, Remove, Queue, QueueOnce, Kill, Regrade, Rejuvenate, Failed, Done, Release, Entry, Forget}
use Rattle.uu_core.specs.declared.command.Reply.{Reply}
use Rattle.uu_core.specs.declared.command.Reply.TheVariants.{Number, Refused}
use Rattle.uu_core.specs.declared.refusal.Refusal.{Refusal}
use Rattle.uu_core.specs.declared.custody.Key.{Key}
use Rattle.uu_core.specs.declared.job.NewJob.{NewJob}
use Rattle.uu_core.specs.State.{State, Job, IsWellFormed, is_job}
use Rattle.uu_core.specs.Verdict.{verdict}
use Rattle.uu_core.specs.After.{after, after_verdict, job_of}
use Rattle.uu_core.specs.Run.{state_after, replies_to}
use Rattle.uu_core.specs.Laws.{accepted_of, unless_refused, handed_by, is_repeat, lets_go, IsSameJob, IsAmong, IsHandedIn, IsOfRun, IsKept, IsFirstUnder}
use Rattle.uu_store.specs.Exchanges.{Exchange, Counts, Passes}
use Rattle.uu_store.proofs.Running.{replies_length}
use Rattle.uu_store.specs.Acknowledged.{IsThere, WasLetGo, IsAccountedFor, IsAccountedForUnder}

-- ---- lists

-- a pair of two lists is a pair of their first parts, if the second part is no shorter
of_fronts : {X Y : Type 0} (xs more : List X) (ys others : List Y) (p : X × Y) → length ys ≤ length xs → Contains (zip (xs ++ more) ys) p → Contains (zip xs (ys ++ others)) p
of_fronts [] [] ys others p le h = absurd (none_in p h)
of_fronts [] (x ∷ more) [] others p le h = absurd (none_in p h)
of_fronts [] (x ∷ more) (y ∷ ys) others p le h = absurd (omega (arith, le))
of_fronts (x ∷ xs) more [] others p le h = absurd (none_in p h)
of_fronts (x ∷ xs) more (y ∷ ys) others p le h = elim (first_or_later (x, y) p (zip (xs ++ more) ys) h) [
  | inl same ↦ subst (Contains (zip (x ∷ xs) (y ∷ ys ++ others))) same (first_of (x, y) (zip xs (ys ++ others)))
  | inr later ↦ later_of (x, y) p (zip xs (ys ++ others)) (of_fronts xs more ys others p (omega (arith, le)) later)
]

-- what is found if one passes
found_one : {X : Type 0} (p : X → Bool) (xs : List X) (x : X) → Contains xs x → p x ≡ true → (y : X) × (find p xs ≡ Some y) × Contains xs y × (p y ≡ true)
found_one p [] x h e = absurd (none_in x h)
found_one {X} p (y ∷ xs) x h e = by-test (p y) refl (first_or_later y x xs h) (λ later. found_one p xs x later e)
  where
    by-test : (t : Bool) → p y ≡ t → (y ≡ x) ⊎ Contains xs x → (Contains xs x → (z : X) × (find p xs ≡ Some z) × Contains xs z × (p z ≡ true)) → (z : X) × (find p (y ∷ xs) ≡ Some z) × Contains (y ∷ xs) z × (p z ≡ true)
    by-test true f which again = (y, rw f refl, first_of y xs, f)
    by-test false f (inl same) again = absurd (let q : true ≡ false = sym e ∙ ap p (sym same) ∙ f in cc)
    by-test false f (inr later) again = let r = again later in (r.0, rw f r.1, later_of y r.0 xs r.2, r.3)

-- ---- the same job

itself : (job : Job) → IsSameJob job job
itself job = record { number = refl; system = refl; user = refl; kind = refl; bytes = refl }

-- a job that is the same as one that it came from
follow_same : {one mid last : Job} → IsSameJob one mid → IsSameJob last mid → IsSameJob one last
follow_same first second = record {
  number = sym second.number ∙ first.number;
  system = sym second.system ∙ first.system;
  user = sym second.user ∙ first.user;
  kind = sym second.kind ∙ first.kind;
  bytes = sym second.bytes ∙ first.bytes;
}

has_number : (number : ℕ) (job : Job) → job.number ≡ number → is_job number job ≡ true
has_number number job is = grind (arith, nat_tests, is)

-- ---- an acknowledged job is handed in by one of the commands that count

-- the command of a pair of commands and their replies, with what was given before and after it
pub record Placed (s : State) (commands : List Command) (command : Command) (reply : Reply) : Type 0 where
  pub before : List Command
  pub behind : List Command
  pub is : commands ≡ before ++ command ∷ behind
  pub told : (after (state_after s before) command).1 ≡ reply

-- a job that a command handed in under this number, with what was given before and after it
pub record Entered (s : State) (commands : List Command) (new : NewJob) (number : ℕ) : Type 0 where
  pub before : List Command
  pub command : Command
  pub behind : List Command
  pub is : commands ≡ before ++ command ∷ behind
  pub made : IsHandedIn (state_after s before) command (job_of number new)

placed : (s : State) (commands : List Command) (command : Command) (reply : Reply) → Contains (zip commands (replies_to s commands)) (command, reply) → Placed s commands command reply
placed s [] command reply h = absurd (none_in (command, reply) h)
placed s (first ∷ commands) command reply h = elim (first_or_later (first, (after s first).1) (command, reply) _ h) [
  | inl same ↦ (record { before = []; behind = commands; is = ap (λ (p : Command × Reply). p.0 ∷ commands) same; told = ap (λ c. (after s c).1) (sym (ap (λ (p : Command × Reply). p.0) same)) ∙ ap (λ (p : Command × Reply). p.1) same })
  | inr later ↦ (let it = placed (after s first).0 commands command reply later in record { before = first ∷ it.before; behind = it.behind; is = ap (λ l. first ∷ l) it.is; told = it.told })
]

module _
    (follow : (state : State) (first second : List Command) → state_after state (first ++ second) ≡ state_after (state_after state first) second)
  where
    -- after others
    placed_behind : (s : State) (front commands : List Command) (command : Command) (reply : Reply) → Placed (state_after s front) commands command reply → Placed s (front ++ commands) command reply
    placed_behind s front commands command reply it = record {
      before = front ++ it.before;
      behind = it.behind;
      is = ap (λ l. front ++ l) it.is ∙ sym (append_assoc front it.before (command ∷ it.behind));
      told = ap (λ t. (after t command).1) (follow s front it.before) ∙ it.told;
    }

    placed_before : (s : State) (commands back : List Command) (command : Command) (reply : Reply) → Placed s commands command reply → Placed s (commands ++ back) command reply
    placed_before s commands back command reply it = record {
      before = it.before;
      behind = it.behind ++ back;
      is = ap (λ l. l ++ back) it.is ∙ append_assoc it.before (command ∷ it.behind) back;
      told = it.told;
    }

    of_exchange : (it : Exchange) (s : State) (here : List Command) (command : Command) (reply : Reply) → Counts it s here → Contains (zip it.commands it.replies) (command, reply) → Placed s here command reply
    of_exchange it s here command reply counts h =
        placed s here command reply
        (subst (λ r. Contains (zip here r) (command, reply)) (sym counts.answers)
        (of_fronts here counts.rest it.replies counts.unheard (command, reply) no_longer (subst (λ l. Contains (zip l it.replies) (command, reply)) counts.prefix h)))
      where
        no_longer : length it.replies ≤ length here
        no_longer = let e = ap length counts.answers in let r = replies_length s here in let l = length-append it.replies counts.unheard in omega (arith, e, r, l)

    pub of_exchanges : (exchanges : List Exchange) (s : State) (counted : List Command) (it : Exchange) (command : Command) (reply : Reply) → Passes s exchanges counted → Contains exchanges it → Contains (zip it.commands it.replies) (command, reply) → Placed s counted command reply
    of_exchanges [] s counted it command reply passes there h = absurd (none_in it there)
    of_exchanges (first ∷ more) s counted it command reply (here, later, is, counts, passes) there h = subst (λ l. Placed s l command reply) (sym is) (elim (first_or_later first it more there) [
      | inl same ↦ placed_before s here later command reply (of_exchange first s here command reply counts (subst (λ (e : Exchange). Contains (zip e.commands e.replies) (command, reply)) (sym same) h))
      | inr behind ↦ placed_behind s here later command reply (of_exchanges more (state_after s here) later it command reply passes behind h)
    ])

    -- ---- accepted commands

    accepted_append : (s : State) (first second : List Command) → accepted_of s (first ++ second) ≡ accepted_of s first ++ accepted_of (state_after s first) second
    accepted_append s [] second = refl
    accepted_append s (command ∷ first) second = by_verdict (verdict s command) (accepted_append (after s command).0 first second)
      where
        by_verdict : (v : Option Refusal) → accepted_of (after s command).0 (first ++ second) ≡ accepted_of (after s command).0 first ++ accepted_of (state_after (after s command).0 first) second
            → unless_refused v command (accepted_of (after s command).0 (first ++ second)) ≡ unless_refused v command (accepted_of (after s command).0 first) ++ accepted_of (state_after (after s command).0 first) second
        by_verdict None again = ap (λ l. command ∷ l) again
        by_verdict (Some refusal) again = again

    -- ---- one job

    module _
        (rise : (state : State) (commands : List Command) → state.next ≤ (state_after state commands).next)
        (handed : (state : State) (command : Command) (job : Job) → IsHandedIn state command job → (job.number ≡ state.next) × ((after state command).0.next ≡ job.number + 1) × ((after state command).1 ≡ Number job.number))
        (queued : (state : State) (job : NewJob) → verdict state (Queue job) ≡ None → Contains (after state (Queue job)).0.jobs (job_of state.next job))
        (queued_once : (state : State) (key : Key) (job : NewJob) → verdict state (QueueOnce key job) ≡ None → is_repeat state (QueueOnce key job) ≡ false → Contains (after state (QueueOnce key job)).0.jobs (job_of state.next job))
        (stays : (state : State) (commands : List Command) (job : Job) → Contains state.jobs job → All (λ command. lets_go command job ≡ false) (accepted_of state commands) → IsAmong (state_after state commands).jobs job)
        (made : (state : State) (command : Command) (later : Job) → Contains (after state command).0.jobs later → IsAmong state.jobs later ⊎ IsHandedIn state command later)
        (made_in : (state : State) (commands : List Command) (later : Job) → Contains (state_after state commands).jobs later → IsAmong state.jobs later ⊎ IsOfRun state commands later)
        (s : State) (good : IsWellFormed s) (number : ℕ)
      where
        -- the reply to a run's command is what the next number was
        number_of_run : (state : State) (commands : List Command) (job : Job) → IsOfRun state commands job → state.next ≤ job.number × (job.number < (state_after state commands).next)
        number_of_run state commands job it =
            let at = state_after state it.before in
            let next = handed at it.command it.job it.made in
            let low = rise state it.before in
            let high = rise (after at it.command).0 it.behind in
            let same : (state_after state commands).next ≡ (state_after (after at it.command).0 it.behind).next = ap (λ (l : State). l.next) (ap (state_after state) it.run_is ∙ follow state it.before (it.command ∷ it.behind)) in
            let is : job.number ≡ it.job.number = it.same.number in
            (omega (arith, low, is, next.0), omega (arith, high, is, same, next.1))

        -- so no job of an earlier state has it
        below : (commands : List Command) (job : Job) → Contains (state_after s commands).jobs job → job.number < (state_after s commands).next
        below commands job there = elim (made_in s commands job there) [
          | inl was ↦ (let small = All-contains (λ (j : Job). j.number < s.next) s.jobs was.later good.below_next was.there in let up = rise s commands in let same = was.same.number in omega (arith, small, up, same))
          | inr ours ↦ (number_of_run s commands job ours).1
        ]

        -- what is handed in is there
        enters : (state : State) (command : Command) (new : NewJob) → IsHandedIn state command (job_of number new) → Contains (after state command).0.jobs (job_of state.next new)
        enters state command new it = by_command command it.command_is it.accepted it.first
          where
            is : (other : NewJob) → Some other ≡ Some it.new → job_of state.next other ≡ job_of state.next new
            is other e = ap (job_of state.next) (same_Some other it.new e) ∙ same_new
              where
                same_new : job_of state.next it.new ≡ job_of state.next new
                same_new = sym it.job_is ∙ ap (λ n. job_of n new) (handed state command (job_of number new) it).0

            by_command : (c : Command) → handed_by c ≡ Some it.new → verdict state c ≡ None → is_repeat state c ≡ false → Contains (after state c).0.jobs (job_of state.next new)
            by_command (Queue job) e v f = subst (Contains (after state (Queue job)).0.jobs) (is job e) (queued state job v)
            by_command (QueueOnce key job) e v f = subst (Contains (after state (QueueOnce key job)).0.jobs) (is job e) (queued_once state key job v f)
            by_command (Define def) e v f = absurd (cc)
            by_command (Remove name) e v f = absurd (cc)
            by_command (Kill job by) e v f = absurd (cc)
            by_command (Regrade job grade by) e v f = absurd (cc)
            by_command (Rejuvenate job at by) e v f = absurd (cc)
            by_command (Failed system at why) e v f = absurd (cc)
            by_command (Done system at jobs) e v f = absurd (cc)
            by_command (Release system jobs) e v f = absurd (cc)
            by_command (Entry bytes) e v f = absurd (cc)
            by_command (Forget system below) e v f = absurd (cc)

        -- a command that got a number was accepted
        accepts : (state : State) (command : Command) → (after state command).1 ≡ Number number → verdict state command ≡ None
        accepts state command told = by_verdict (verdict state command) refl told
          where
            by_verdict : (v : Option Refusal) → verdict state command ≡ v → (after_verdict v state command).1 ≡ Number number → verdict state command ≡ None
            by_verdict None is told = is
            by_verdict (Some refusal) is told = absurd (apart told)
              where
                apart : Refused refusal ≡ Number number → ⊥
                apart q = cc

        -- a job that was there first is there, or was let go
        kept_from : (state : State) (commands : List Command) (job : Job) → Contains state.jobs job → IsAmong (state_after state commands).jobs job ⊎ WasLetGo state commands job
        kept_from state commands job there = elim (all_or_one (λ c. lets_go c job) (accepted_of state commands)) [
          | inl none ↦ inl (stays state commands job there none)
          | inr one ↦ inr one
        ]

        module _ (counted : List Command) (new : NewJob) (it : Entered s counted new number) where
          abbrev at : State
          at = state_after s it.before

          abbrev then : State
          then = (after at it.command).0

          next : (number ≡ at.next) × (then.next ≡ number + 1)
          next = let h = handed at it.command (job_of number new) it.made in (h.0, h.1)

          last : state_after s counted ≡ state_after then it.behind
          last = ap (state_after s) it.is ∙ follow s it.before (it.command ∷ it.behind)

          -- every job of this number is the one that was handed in
          then_alone : (job : Job) → Contains then.jobs job → job.number ≡ number → IsSameJob (job_of number new) job
          then_alone job there is = elim (made at it.command job there) [
            | inl was ↦ (let low = below it.before was.later was.there in let same = was.same.number in absurd (omega (arith, low, same, is, next.0)))
            | inr ours ↦ (
                let same : ours.new ≡ it.made.new = same_Some ours.new it.made.new (sym ours.command_is ∙ it.made.command_is) in
                subst (IsSameJob (job_of number new)) (it.made.job_is ∙ ap (job_of at.next) (sym same) ∙ sym ours.job_is) (itself (job_of number new)))
          ]

          alone : (job : Job) → Contains (state_after then it.behind).jobs job → job.number ≡ number → IsSameJob (job_of number new) job
          alone job there is = elim (made_in then it.behind job there) [
            | inl was ↦ follow_same (then_alone was.later was.there (was.same.number ∙ is)) was.same
            | inr ours ↦ absurd (let low = (number_of_run then it.behind job ours).0 in omega (arith, low, is, next.1))
          ]

          kept : IsThere (state_after then it.behind) new number ⊎ WasLetGo s counted (job_of number new)
          kept = elim (all_or_one (λ c. lets_go c (job_of number new)) (accepted_of then it.behind)) [
            | inl none ↦ inl (there none)
            | inr one ↦ inr (one.0, subst (λ l. Contains l one.0) (sym (ap (accepted_of s) it.is ∙ accepted_append s it.before (it.command ∷ it.behind))) (Contains-append_right (accepted_of s it.before) _ one.0 (behind_it one.0 one.1)), one.2)
          ]
            where
              behind_it : (c : Command) → Contains (accepted_of then it.behind) c → Contains (accepted_of at (it.command ∷ it.behind)) c
              behind_it c h = subst (λ v. Contains (unless_refused v it.command (accepted_of then it.behind)) c) (sym it.made.accepted) (later_of it.command c (accepted_of then it.behind) h)

              there : All (λ c. lets_go c (job_of number new) ≡ false) (accepted_of then it.behind) → IsThere (state_after then it.behind) new number
              there none =
                  let job = job_of number new in
                  let first : Contains then.jobs job = subst (λ n. Contains then.jobs (job_of n new)) (sym next.0) (enters at it.command new it.made) in
                  let among = stays then it.behind job first none in
                  let found = found_one (is_job number) (state_after then it.behind).jobs among.later among.there (has_number number among.later among.same.number) in
                  (found.0, found.1, alone found.0 found.2 (eqb-true found.0.number number found.3))

          accounted_in : IsAccountedFor s counted new number
          accounted_in = record {
            kept = subst (λ t. IsThere t new number ⊎ WasLetGo s counted (job_of number new)) (sym last) kept;
            alone = λ job there is. alone job (subst (λ (t : State). Contains t.jobs job) last there) is;
          }

        -- ---- the job that got the number

        -- the reply to what is handed in for the first time is its number
        is_next : (state : State) (command : Command) (new : NewJob) → IsHandedIn state command (job_of state.next new) → (after state command).1 ≡ Number number → number ≡ state.next
        is_next state command new it told = same (sym told ∙ (handed state command (job_of state.next new) it).2)
          where
            same : Number number ≡ Number state.next → number ≡ state.next
            same e = cc

        pub accounted : (counted : List Command) (new : NewJob) → Placed s counted (Queue new) (Number number) → IsAccountedFor s counted new number
        accounted counted new it =
            let at = state_after s it.before in
            let taken = accepts at (Queue new) it.told in
            let first : IsHandedIn at (Queue new) (job_of at.next new) = record { new = new; command_is = refl; accepted = taken; first = refl; job_is = refl } in
            accounted_in counted new (record {
              before = it.before;
              command = Queue new;
              behind = it.behind;
              is = it.is;
              made = record { new = new; command_is = refl; accepted = taken; first = refl; job_is = ap (λ n. job_of n new) (is_next at (Queue new) new first it.told) };
            })

        pub accounted_under : ((state : State) (key : Key) (job : NewJob) (given : ℕ) → (after state (QueueOnce key job)).1 ≡ Number given → IsKept (after state (QueueOnce key job)).0 key given)
            → ((state : State) (commands : List Command) (key : Key) (given : ℕ) → IsKept (state_after state commands) key given → IsKept state key given ⊎ ((first : NewJob) × IsFirstUnder state commands key first given))
            → (counted : List Command) (key : Key) (new : NewJob) → Placed s counted (QueueOnce key new) (Number number) → IsAccountedForUnder s counted key number
        accounted_under keeps origin counted key new it = by_origin (origin s (it.before ++ QueueOnce key new ∷ []) key number then_kept)
          where
            then_kept : IsKept (state_after s (it.before ++ QueueOnce key new ∷ [])) key number
            then_kept = subst (λ t. IsKept t key number) (sym (follow s it.before (QueueOnce key new ∷ []))) (keeps (state_after s it.before) key new number it.told)

            counted_is : counted ≡ (it.before ++ QueueOnce key new ∷ []) ++ it.behind
            counted_is = it.is ∙ sym (append_assoc it.before (QueueOnce key new ∷ []) it.behind)

            by_origin : IsKept s key number ⊎ ((first : NewJob) × IsFirstUnder s (it.before ++ QueueOnce key new ∷ []) key first number) → IsAccountedForUnder s counted key number
            by_origin (inl was) = inl (record { kept = was; job = λ job there is. kept_from s counted job there })
            by_origin (inr (first, h)) =
                let is : counted ≡ h.before ++ QueueOnce key first ∷ (h.behind ++ it.behind) = counted_is ∙ ap (λ l. l ++ it.behind) h.run_is ∙ append_assoc h.before (QueueOnce key first ∷ h.behind) it.behind in
                inr (
                  first,
                  record { before = h.before; behind = h.behind ++ it.behind; run_is = is; made = h.made },
                  accounted_in counted first (record { before = h.before; command = QueueOnce key first; behind = h.behind ++ it.behind; is = is; made = h.made }),
                )
