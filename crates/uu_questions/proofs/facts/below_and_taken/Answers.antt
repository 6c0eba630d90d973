use Rattle.uu_questions.proofs.Asking.{asks_both, asks_beside, asks_refused}
use Rattle.uu_questions.proofs.facts.below_and_taken.Goals as goal

pub returns : goal.returns
returns g c = asks_both c.below_of.ensures c.in_ok-below.was c.taken_of.ensures c.in_ok-taken.was (λ s good below taken. (below, taken))

pub returns-in_err-below : goal.returns-in_err-below
returns-in_err-below g c = asks_refused c.below_of.ensures c.from_residual.ensures.0

pub returns-in_err-taken : goal.returns-in_err-taken
returns-in_err-taken g c = asks_refused (asks_beside c.below_of.ensures c.in_ok-below.was c.taken_of.ensures) c.from_residual-in_err-taken.ensures.0
