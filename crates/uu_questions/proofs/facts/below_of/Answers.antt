use Rattle.std.proofs.Common.{◌∙◌}
use Rattle.uu_questions.proofs.Answering.{answer_in}
use Rattle.uu_rows.proofs.Showing.{answered}
use Rattle.uu_questions.proofs.Asking.{asks_as, asks_refused}
use Rattle.uu_questions.proofs.facts.below_of.Goals as goal

pub returns : goal.returns
returns g c = asks_as c.row_of_link.ensures (λ ok. answered _ _ c.in_ok-row.was) (λ s good it. c.below_in.ensures ∙ (answer_in _ c.row_of_link.result _ c.in_ok-row.was it))

pub returns-in_err-row : goal.returns-in_err-row
returns-in_err-row g c = asks_refused c.row_of_link.ensures c.from_residual.ensures.0
