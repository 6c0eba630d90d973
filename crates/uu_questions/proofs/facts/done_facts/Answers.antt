use Rattle.std.proofs.Common.{ap}
use Rattle.uu_tables.specs.declared.facts.Facts.TheVariants as fact
use Rattle.uu_questions.proofs.Asking.{asks_both, asks_beside, asks_refused}
use Rattle.uu_questions.proofs.facts.done_facts.Goals as goal

pub returns-clause-asks : goal.returns-clause-asks
returns-clause-asks g c = asks_both c.system_of_name.ensures c.in_ok-row.was c.heads_of_jobs.ensures c.in_ok-found.was (λ s good row found. (c.in_ok-found.found, ap (λ o. fact.Done o c.in_ok-found.found) row, found))

pub returns-in_err-row-clause-asks : goal.returns-in_err-row-clause-asks
returns-in_err-row-clause-asks g c = asks_refused c.system_of_name.ensures c.from_residual.ensures.0

pub returns-in_err-found-clause-asks : goal.returns-in_err-found-clause-asks
returns-in_err-found-clause-asks g c = asks_refused (asks_beside c.system_of_name.ensures c.in_ok-row.was c.heads_of_jobs.ensures) c.from_residual-in_err-found.ensures.0
