use Rattle.std.proofs.Common.{◌≡◌, map, take, length, Ok}
use Rattle.std.specs.Prelude.{ℕ}
use Rattle.uu_core.specs.State.{has_system}
use Rattle.uu_tables.specs.TakeInPlans.{fact_of}
use Rattle.uu_questions.specs.Answers.{Asks}
use Rattle.uu_questions.proofs.bundle.facts_of_jobs.Given as goal

abbrev pub invariant-loop-offered : goal.invariant-loop-offered
invariant-loop-offered g l =
    Asks {T = ℕ} g.S.Store (λ s _. l.fn.known ≡ has_system s l.fn.from → l.facts.items ≡ map (fact_of s l.fn.from) (take l.offered-index l.jobs)) l.fn.conn l.conn (Ok 0) × (length l.facts.items ≡ l.offered-index)
