use Rattle.std.proofs.Common.{ap}
use Rattle.uu_tables.specs.declared.facts.Facts.TheVariants as fact
use Rattle.uu_questions.proofs.Answering.{answer_in}
use Rattle.uu_rows.proofs.Showing.{answered}
use Rattle.uu_questions.proofs.Asking.{asks_as, asks_refused}
use Rattle.uu_questions.proofs.facts.failed_facts.Goals as goal

pub returns-clause-asks : goal.returns-clause-asks
returns-clause-asks g c = asks_as c.system_of_name.ensures (λ ok. answered _ _ c.in_ok-row.was) (λ s good it. ap fact.Failed (answer_in _ c.system_of_name.result _ c.in_ok-row.was it))

pub returns-in_err-row-clause-asks : goal.returns-in_err-row-clause-asks
returns-in_err-row-clause-asks g c = asks_refused c.system_of_name.ensures c.from_residual.ensures.0
