use Rattle.std.proofs.Common.{refl}
use Rattle.uu_rows.proofs.Showing.{answered}
use Rattle.uu_questions.proofs.Answering.{answer_in}
use Rattle.uu_questions.proofs.Asking.{asks_as, asks_refused}
use Rattle.uu_questions.proofs.facts.release_facts.Goals as goal

pub returns-clause-asks : goal.returns-clause-asks
returns-clause-asks g c =
    asks_as c.numbers_that_wait.ensures (λ ok. answered _ _ c.in_ok-found.was) (λ s good it. (c.in_ok-found.found, refl, answer_in _ c.numbers_that_wait.result _ c.in_ok-found.was it))

pub returns-in_err-found-clause-asks : goal.returns-in_err-found-clause-asks
returns-in_err-found-clause-asks g c = asks_refused c.numbers_that_wait.ensures c.from_residual.ensures.0
