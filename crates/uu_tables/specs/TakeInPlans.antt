-- What is known before a neighbour's bundle is taken whole, and what it will do. (This project's
-- choice.)
use Rattle.std.specs.Prelude.{◌≡◌, ◌∷◌, ℕ, List, [], map, ⊤}
use Rattle.std.specs.List.{flat_map}
use Rattle.uu_core.specs.declared.command.Command.{Command}
use Rattle.uu_core.specs.declared.take_in.Offered.{Offered}
use Rattle.uu_core.specs.declared.take_in.TakeIn.{TakeIn}
use Rattle.uu_core.specs.State.{State, has_system, link_of}
use Rattle.uu_core.specs.Verdict.{are_known, key_under, taken_of}
use Rattle.uu_core.specs.After.{after}
use Rattle.uu_core.specs.TakeIns.{commands_in, after_take_in}
use Rattle.uu_tables.specs.declared.facts.OfferedFacts.{OfferedFacts}
use Rattle.uu_tables.specs.declared.facts.TakeInFacts.{TakeInFacts}
use Rattle.uu_tables.specs.declared.plan.Plan.{Plan}
use Rattle.uu_tables.specs.declared.plan.take_in.TakeInPlan.{TakeInPlan}
use Rattle.uu_tables.specs.Plans.{IsPlan}
use Rattle.uu_tables.specs.Tables.{tables_of}
use Rattle.uu_tables.specs.Changes.{applied}

-- the facts for a job of the neighbour's
abbrev pub fact_of : State → List ℕ → Offered → OfferedFacts
fact_of s from offered =
    let key = key_under from offered.number offered.mark in
    record { known = are_known s key offered.job; taken = taken_of s key }

-- they are the facts of the state that the bundle asks for
pub record AreTakeInFacts (facts : TakeInFacts) (s : State) (it : TakeIn) : Type 0 where
  pub known : facts.known ≡ has_system s it.from
  pub next : facts.next ≡ s.next
  pub before : facts.before ≡ (link_of s it.from).below
  pub jobs : facts.jobs.items ≡ map (fact_of s it.from) it.jobs

-- each command has its plan, in the state that those before it leave
abbrev pub ArePlans : State → List Command → List Plan → Type 0
ArePlans s [] [] = ⊤
ArePlans s (command ∷ commands) (plan ∷ plans) = IsPlan s command plan × ArePlans (after s command).0 commands plans
ArePlans s [] (plan ∷ plans) = ⊥
ArePlans s (command ∷ commands) [] = ⊥

-- The replies are the machine's, and the changes make the tables of the state after the bundle.
-- They are those of its commands, one after the other, so a refused command makes none.
pub record IsTakeInPlan (s : State) (it : TakeIn) (plan : TakeInPlan) : Type 0 where
  pub replies : plan.replies.items ≡ (after_take_in s it).1
  pub tables : applied plan.changes.items (tables_of s) ≡ tables_of (after_take_in s it).0
  pub plans : List Plan
  pub are_plans : ArePlans s (commands_in it) plans
  pub changes : plan.changes.items ≡ flat_map (λ part. part.changes.items) plans
