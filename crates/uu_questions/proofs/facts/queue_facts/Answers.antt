use Rattle.uu_tables.specs.declared.facts.Facts.TheVariants as fact
use Rattle.uu_questions.proofs.Asking.{asks_both, asks_beside, asks_refused}
use Rattle.uu_questions.proofs.facts.queue_facts.Goals as goal

pub returns-clause-asks : goal.returns-clause-asks
returns-clause-asks g c = asks_both c.is_known.ensures c.in_ok-known.was c.next_number.ensures c.in_ok-next.was (λ s good known next i. fact.Queue (known i) (next i))

pub returns-in_err-known-clause-asks : goal.returns-in_err-known-clause-asks
returns-in_err-known-clause-asks g c = asks_refused c.is_known.ensures c.from_residual.ensures.0

pub returns-in_err-next-clause-asks : goal.returns-in_err-next-clause-asks
returns-in_err-next-clause-asks g c = asks_refused (asks_beside c.is_known.ensures c.in_ok-known.was c.next_number.ensures) c.from_residual-in_err-next.ensures.0
