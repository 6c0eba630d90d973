use Rattle.uu_questions.proofs.Asking.{asks_both, asks_beside, asks_refused}
use Rattle.uu_questions.proofs.bundle.known_and_next.Goals as goal

pub returns : goal.returns
returns g c = asks_both c.is_known.ensures c.in_ok-known.was c.next_number.ensures c.in_ok-next.was (λ s good known next. (known, next))

pub returns-in_err-known : goal.returns-in_err-known
returns-in_err-known g c = asks_refused c.is_known.ensures c.from_residual.ensures.0

pub returns-in_err-next : goal.returns-in_err-next
returns-in_err-next g c = asks_refused (asks_beside c.is_known.ensures c.in_ok-known.was c.next_number.ensures) c.from_residual-in_err-next.ensures.0
