use Rattle.uu_tables.specs.declared.facts.Facts.TheVariants as fact
use Rattle.uu_questions.proofs.Asking.{asks_both, asks_beside, asks_refused}
use Rattle.uu_questions.proofs.facts.forget_facts.Goals as goal

pub returns-clause-asks : goal.returns-clause-asks
returns-clause-asks g c = asks_both c.is_known.ensures c.in_ok-known.was c.below_of.ensures c.in_ok-before.was (λ s good known before i. fact.Forget (known i) (before i))

pub returns-in_err-known-clause-asks : goal.returns-in_err-known-clause-asks
returns-in_err-known-clause-asks g c = asks_refused c.is_known.ensures c.from_residual.ensures.0

pub returns-in_err-before-clause-asks : goal.returns-in_err-before-clause-asks
returns-in_err-before-clause-asks g c = asks_refused (asks_beside c.is_known.ensures c.in_ok-known.was c.below_of.ensures) c.from_residual-in_err-before.ensures.0
