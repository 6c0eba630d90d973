use Rattle.std.proofs.Common.{ap}
use Rattle.uu_tables.specs.declared.facts.Facts.TheVariants as fact
use Rattle.uu_questions.proofs.Answering.{answer_in}
use Rattle.uu_rows.proofs.Showing.{answered}
use Rattle.uu_questions.proofs.Asking.{asks_as, asks_refused}
use Rattle.uu_questions.proofs.facts.job_facts.Goals as goal

pub returns-clause-asks : goal.returns-clause-asks
returns-clause-asks g c = asks_as c.head_of_job.ensures (λ ok. answered _ _ c.in_ok-head.was) (λ s good it. ap fact.Job (answer_in _ c.head_of_job.result _ c.in_ok-head.was it))

pub returns-in_err-head-clause-asks : goal.returns-in_err-head-clause-asks
returns-in_err-head-clause-asks g c = asks_refused c.head_of_job.ensures c.from_residual.ensures.0
