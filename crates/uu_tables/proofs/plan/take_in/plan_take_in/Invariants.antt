use Rattle.std.proofs.Common.{◌≡◌, ◌+◌, length}
use Rattle.uu_core.specs.State.{State, IsWellFormed}
use Rattle.uu_tables.specs.TakeInPlans.{AreTakeInFacts}
use Rattle.uu_tables.proofs.TakeInLemmas.{IsUpTo}
use Rattle.uu_tables.proofs.plan.take_in.plan_take_in.Given as goal

abbrev pub invariant-loop-i : goal.invariant-loop-i
invariant-loop-i l = ((s : State) → IsWellFormed s → AreTakeInFacts l.facts s l.it → IsUpTo s l.it l.i l.taking l.replies.items l.changes.items) × (length l.replies.items ≡ l.i + 1)
