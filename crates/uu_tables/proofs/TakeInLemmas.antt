-- A bundle that is planned job by job.
use Rattle.std.proofs.Common.{◌≡◌, ℕ, ◌+◌, ◌<◌, ◌≤◌, List, [], ◌∷◌, ◌++◌, append-nil, map, take, length, get_or, All, Ok, Err, refl, ap, sym, subst, ◌∙◌, arith}
use Rattle.std.proofs.lemmas.List.{take_all, take_more, map-append, get_or-map, length-map}
use Rattle.std.specs.List.{flat_map}
use Rattle.std.proofs.lemmas.List.Concat.{flat_map-append}
use Rattle.std.proofs.lemmas.List.Elements.{All-tail}
use Rattle.uu_core.specs.declared.command.Command.{Command}
use Rattle.uu_core.specs.declared.command.Command.TheVariants.{QueueOnce, Forget}
use Rattle.uu_core.specs.declared.command.Reply.{Reply}
use Rattle.uu_core.specs.declared.take_in.Offered.{Offered}
use Rattle.uu_core.specs.declared.take_in.TakeIn.{TakeIn}
use Rattle.uu_core.specs.declared.command.Reply.TheVariants.{Number, Refused}
use Rattle.uu_core.specs.declared.custody.HandIn.TheVariants.{First, Again}
use Rattle.uu_core.specs.declared.custody.Key.{Key}
use Rattle.uu_core.specs.declared.refusal.Refusal.{Refusal}
use Rattle.uu_core.specs.Refusal.{decided}
use Rattle.uu_core.specs.State.{State, IsWellFormed, link_of}
use Rattle.uu_core.specs.Verdict.{key_under, are_known, taken_of, once_reasons_in}
use Rattle.uu_core.specs.After.{after, hand_in, hand_in_number, with_job_once}
use Rattle.uu_core.specs.Run.{state_after, replies_to}
use Rattle.uu_core.specs.TakeIns.{Progress, IsTaking, offering, commands_in}
use Rattle.uu_core.specs.WellFormed.{IsCommand}
use Rattle.uu_tables.specs.declared.change.Change.{Change}
use Rattle.uu_tables.specs.declared.facts.OfferedFacts.{OfferedFacts}
use Rattle.uu_tables.specs.declared.plan.Plan.{Plan}
use Rattle.uu_tables.specs.declared.plan.take_in.TakeInPlan.{TakeInPlan}
use Rattle.uu_tables.specs.Tables.{Tables, tables_of}
use Rattle.uu_tables.specs.Parts.{with_new_job, with_new_key}
use Rattle.uu_tables.specs.Changes.{applied}
use Rattle.uu_tables.specs.Plans.{IsPlan}
use Rattle.uu_tables.specs.TakeInPlans.{ArePlans, IsTakeInPlan, fact_of}
use Rattle.uu_tables.proofs.PlanLemmas.{applied_append, when_accepted, when_refused, accepts, refuses}
use Rattle.uu_tables.proofs.LinkLemmas.{first_is, keyed}

-- the first jobs of a bundle as commands, and the state after them
abbrev pub first_of : TakeIn → ℕ → List Command
first_of it i = map (offering it.from) (take i it.jobs)

abbrev pub begun : State → TakeIn → State
begun s it = (after s (Forget it.from it.below)).0

abbrev pub so_far : State → TakeIn → ℕ → State
so_far s it i = state_after (begun s it) (first_of it i)

abbrev pub changes_of : List Plan → List Change
changes_of plans = flat_map (λ (plan : Plan). plan.changes.items) plans

-- the first jobs of a bundle were planned
pub record IsUpTo (s : State) (it : TakeIn) (i : ℕ) (taking : Progress) (replies : List Reply) (changes : List Change) : Type 0 where
  pub formed : IsWellFormed (so_far s it i)
  pub is_taking : IsTaking s it.from (so_far s it i) taking
  pub are_replies : replies ≡ (after s (Forget it.from it.below)).1 ∷ replies_to (begun s it) (first_of it i)
  pub makes_tables : applied changes (tables_of s) ≡ tables_of (so_far s it i)
  pub plans : List Plan
  pub are_plans : ArePlans s (Forget it.from it.below ∷ first_of it i) plans
  pub of_plans : changes ≡ changes_of plans

pub up_to_none : (s : State) (it : TakeIn) (plan : Plan) (taking : Progress) (replies : List Reply) → IsWellFormed (begun s it) → IsPlan s (Forget it.from it.below) plan → IsTaking s it.from (begun s it) taking
    → replies ≡ plan.reply ∷ [] → IsUpTo s it 0 taking replies plan.changes.items
up_to_none s it plan taking replies good planned is made = record { formed = good; is_taking = is; are_replies = made ∙ ap (λ r. r ∷ []) planned.reply; makes_tables = planned.tables; plans = plan ∷ []; are_plans = (planned, tt); of_plans = sym (append-nil plan.changes.items) }

states_more : (s : State) (commands : List Command) (command : Command) → state_after s (commands ++ command ∷ []) ≡ (after (state_after s commands) command).0
states_more s [] command = refl
states_more s (first ∷ commands) command = states_more (after s first).0 commands command

replies_more : (s : State) (commands : List Command) (command : Command) → replies_to s (commands ++ command ∷ []) ≡ replies_to s commands ++ (after (state_after s commands) command).1 ∷ []
replies_more s [] command = refl
replies_more s (first ∷ commands) command = ap (λ rest. (after s first).1 ∷ rest) (replies_more (after s first).0 commands command)

plans_more : (s : State) (commands : List Command) (plans : List Plan) (command : Command) (plan : Plan) → ArePlans s commands plans → IsPlan (state_after s commands) command plan
    → ArePlans s (commands ++ command ∷ []) (plans ++ plan ∷ [])
plans_more s [] [] command plan are is = (is, tt)
plans_more s (first ∷ commands) (one ∷ plans) command plan are is = (are.0, plans_more (after s first).0 commands plans command plan are.1 is)
plans_more s [] (one ∷ plans) command plan are is = absurd are
plans_more s (first ∷ commands) [] command plan are is = absurd are

changes_more : (plans : List Plan) (plan : Plan) → changes_of (plans ++ plan ∷ []) ≡ changes_of plans ++ plan.changes.items
changes_more plans plan =
    flat_map-append (λ (p : Plan). p.changes.items) plans (plan ∷ []) ∙ ap (λ l. changes_of plans ++ l) (append-nil plan.changes.items)

first_more : (it : TakeIn) (i : ℕ) (offered : Offered) → i < length it.jobs → offered ≡ get_or it.jobs i offered → first_of it (i + 1) ≡ first_of it i ++ offering it.from offered ∷ []
first_more it i offered within here =
    ap (map (offering it.from)) (take_more it.jobs i offered within ∙ ap (λ o. take i it.jobs ++ o ∷ []) (sym here)) ∙ map-append (offering it.from) (take i it.jobs) (offered ∷ [])

pub up_to_more : (s : State) (it : TakeIn) (i : ℕ) (offered : Offered) (old new : Progress) (replies more : List Reply) (changes last : List Change) (plan : Plan) → i < length it.jobs → offered ≡ get_or it.jobs i offered
    → IsUpTo s it i old replies changes → IsPlan (so_far s it i) (offering it.from offered) plan → IsTaking s it.from (after (so_far s it i) (offering it.from offered)).0 new
    → IsWellFormed (after (so_far s it i) (offering it.from offered)).0 → more ≡ replies ++ plan.reply ∷ [] → last ≡ changes ++ plan.changes.items
    → IsUpTo s it (i + 1) new more last
up_to_more s it i offered old new replies more changes last plan within here before planned is good told made =
    let first = first_more it i offered within here in
    let state : so_far s it (i + 1) ≡ (after (so_far s it i) (offering it.from offered)).0 = ap (state_after (begun s it)) first ∙ states_more (begun s it) (first_of it i) (offering it.from offered) in
    record {
      formed = subst IsWellFormed (sym state) good;
      is_taking = subst (λ (t : State). IsTaking s it.from t new) (sym state) is;
      are_replies =
          told ∙ ap (λ r. replies ++ r ∷ []) planned.reply
          ∙ ap (λ rs. rs ++ (after (so_far s it i) (offering it.from offered)).1 ∷ []) before.are_replies
          ∙ ap (λ rs. (after s (Forget it.from it.below)).1 ∷ rs) (sym (replies_more (begun s it) (first_of it i) (offering it.from offered)) ∙ ap (replies_to (begun s it)) (sym first));
      makes_tables =
          ap (λ l. applied l (tables_of s)) made ∙ applied_append changes plan.changes.items (tables_of s) ∙ ap (applied plan.changes.items) before.makes_tables ∙ planned.tables ∙ ap tables_of (sym state);
      plans = before.plans ++ plan ∷ [];
      are_plans =
          subst (λ commands. ArePlans s (Forget it.from it.below ∷ commands) (before.plans ++ plan ∷ [])) (sym first)
          (plans_more s (Forget it.from it.below ∷ first_of it i) before.plans (offering it.from offered) plan before.are_plans planned);
      of_plans = made ∙ ap (λ l. l ++ plan.changes.items) before.of_plans ∙ sym (changes_more before.plans plan);
    }

-- the facts about a job
pub fact_is : (s : State) (it : TakeIn) (facts : List OfferedFacts) (i : ℕ) (offered : Offered) (fact : OfferedFacts) → facts ≡ map (fact_of s it.from) it.jobs → i < length it.jobs → offered ≡ get_or it.jobs i offered
    → fact ≡ get_or facts i fact → fact ≡ fact_of s it.from offered
fact_is s it facts i offered fact all within here found =
    found ∙ ap (λ l. get_or l i fact) all ∙ get_or-map (fact_of s it.from) it.jobs i offered fact within ∙ ap (fact_of s it.from) (sym here)

-- ---- one job

module _ (now : State) (good : IsWellFormed now) (from : List ℕ) (offered : Offered) (plan : Plan) where
  abbrev own : Key
  own = key_under from offered.number offered.mark

  pub queued : (number : ℕ) → Ok (First number) ≡ decided (once_reasons_in now own offered.job) (hand_in now own) → plan.reply ≡ Number number
      → ((t : Tables) → applied plan.changes.items t ≡ with_new_key own number (with_new_job number offered.job t)) → IsPlan now (offering from offered) plan
  queued number e reply changes =
      let job = offered.job in
      let d = when_accepted (once_reasons_in now own job) (hand_in now own) (First number) (sym e) in
      let first = first_is (are_known now own job) now.next (link_of now from).below (taken_of now own) own job number d.1 d.0 in
      let handed : hand_in now own ≡ First now.next = d.1 ∙ ap First (sym first.1) in
      accepts now (QueueOnce own job) plan d.0 (reply ∙ ap (λ h. Number (hand_in_number h)) (sym d.1))
      (changes (tables_of now) ∙ ap (λ n. with_new_key own n (with_new_job n job (tables_of now))) (sym first.1) ∙ keyed now good own job first.0 ∙ ap (λ h. tables_of (with_job_once h own job now)) (sym handed))

  pub asked_again : (number : ℕ) → Ok (Again number) ≡ decided (once_reasons_in now own offered.job) (hand_in now own) → plan.reply ≡ Number number → plan.changes.items ≡ [] → IsPlan now (offering from offered) plan
  asked_again number e reply none =
      let job = offered.job in
      let d = when_accepted (once_reasons_in now own job) (hand_in now own) (Again number) (sym e) in
      accepts now (QueueOnce own job) plan d.0 (reply ∙ ap (λ h. Number (hand_in_number h)) (sym d.1)) (ap (λ l. applied l (tables_of now)) none ∙ ap (λ h. tables_of (with_job_once h own job now)) (sym d.1))

  pub turned_down : (refusal : Refusal) → Err refusal ≡ decided (once_reasons_in now own offered.job) (hand_in now own) → plan.reply ≡ Refused refusal → plan.changes.items ≡ [] → IsPlan now (offering from offered) plan
  turned_down refusal e reply none =
      refuses now (QueueOnce own offered.job) plan refusal (when_refused (once_reasons_in now own offered.job) (hand_in now own) refusal (sym e)) reply none

-- ---- the ends

pub sound_at : (it : TakeIn) (i : ℕ) (offered : Offered) → All IsCommand (commands_in it) → i < length it.jobs → offered ≡ get_or it.jobs i offered → IsCommand (offering it.from offered)
sound_at it i offered all within here =
    let rest : All IsCommand (map (offering it.from) it.jobs) = All-tail IsCommand (Forget it.from it.below) (map (offering it.from) it.jobs) all in
    subst IsCommand (get_or-map (offering it.from) it.jobs i offered (offering it.from offered) within ∙ ap (offering it.from) (sym here))
    (rest i (offering it.from offered) (omega (arith, length-map it.jobs (offering it.from), within)))

pub up_to_all : (s : State) (it : TakeIn) (i : ℕ) (taking : Progress) (replies : List Reply) (changes : List Change) → length it.jobs ≤ i → IsUpTo s it i taking replies changes
    → (plan : TakeInPlan) → plan.replies.items ≡ replies → plan.changes.items ≡ changes → IsTakeInPlan s it plan
up_to_all s it i taking replies changes past up plan told made =
    let all : first_of it i ≡ map (offering it.from) it.jobs = ap (map (offering it.from)) (take_all i it.jobs past) in record {
      replies = told ∙ up.are_replies ∙ ap (λ commands. (after s (Forget it.from it.below)).1 ∷ replies_to (begun s it) commands) all;
      tables = ap (λ l. applied l (tables_of s)) made ∙ up.makes_tables ∙ ap (λ commands. tables_of (state_after (begun s it) commands)) all;
      plans = up.plans;
      are_plans = subst (λ commands. ArePlans s (Forget it.from it.below ∷ commands) up.plans) all up.are_plans;
      changes = made ∙ up.of_plans;
    }
