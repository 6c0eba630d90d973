use Rattle.uu_tables.specs.declared.facts.Facts.TheVariants as fact
use Rattle.uu_questions.proofs.Asking.{asks_both, asks_beside, asks_refused}
use Rattle.uu_questions.proofs.facts.remove_facts.Goals as goal

pub returns-clause-asks : goal.returns-clause-asks
returns-clause-asks g c = asks_both c.is_known.ensures c.in_ok-known.was c.is_waiting.ensures c.in_ok-waiting.was (λ s good known waiting i. fact.Remove (known i) (waiting i))

pub returns-in_err-known-clause-asks : goal.returns-in_err-known-clause-asks
returns-in_err-known-clause-asks g c = asks_refused c.is_known.ensures c.from_residual.ensures.0

pub returns-in_err-waiting-clause-asks : goal.returns-in_err-waiting-clause-asks
returns-in_err-waiting-clause-asks g c = asks_refused (asks_beside c.is_known.ensures c.in_ok-known.was c.is_waiting.ensures) c.from_residual-in_err-waiting.ensures.0
