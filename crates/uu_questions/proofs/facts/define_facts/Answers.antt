use Rattle.std.proofs.Common.{ap}
use Rattle.uu_tables.specs.declared.facts.Facts.TheVariants as fact
use Rattle.uu_questions.proofs.Answering.{answer_in}
use Rattle.uu_rows.proofs.Showing.{answered}
use Rattle.uu_questions.proofs.Asking.{asks_as, asks_refused}
use Rattle.uu_questions.proofs.facts.define_facts.Goals as goal

pub returns-clause-asks : goal.returns-clause-asks
returns-clause-asks g c = asks_as c.is_known.ensures (λ ok. answered _ _ c.in_ok-known.was) (λ s good it. ap fact.Define (answer_in _ c.is_known.result _ c.in_ok-known.was it))

pub returns-in_err-known-clause-asks : goal.returns-in_err-known-clause-asks
returns-in_err-known-clause-asks g c = asks_refused c.is_known.ensures c.from_residual.ensures.0
