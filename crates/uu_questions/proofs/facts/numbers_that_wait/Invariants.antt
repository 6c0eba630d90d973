use Rattle.std.proofs.Common.{◌≡◌, filter, take, Ok}
use Rattle.std.specs.Prelude.{ℕ}
use Rattle.uu_tables.specs.Plans.{waits_under}
use Rattle.uu_questions.specs.Answers.{Asks}
use Rattle.uu_questions.proofs.facts.numbers_that_wait.Given as goal

abbrev pub invariant-loop-number : goal.invariant-loop-number
invariant-loop-number g l = Asks {T = ℕ} g.S.Store (λ s _. l.found.items ≡ filter (waits_under s l.fn.name) (take l.number-index l.numbers)) l.fn.conn l.conn (Ok 0)
