use Rattle.uu_questions.proofs.Asking.{asks_both, asks_beside, asks_refused}
use Rattle.uu_questions.proofs.bundle.facts_of_neighbour.Goals as goal

pub returns : goal.returns
returns g c = asks_both c.known_and_next.ensures c.in_ok-known.was c.below_of.ensures c.in_ok-before.was (λ s good pair before. (pair.0, pair.1, before))

pub returns-in_err-known : goal.returns-in_err-known
returns-in_err-known g c = asks_refused c.known_and_next.ensures c.from_residual.ensures.0

pub returns-in_err-before : goal.returns-in_err-before
returns-in_err-before g c = asks_refused (asks_beside c.known_and_next.ensures c.in_ok-known.was c.below_of.ensures) c.from_residual-in_err-before.ensures.0
