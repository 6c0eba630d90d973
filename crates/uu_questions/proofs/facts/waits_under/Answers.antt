use Rattle.std.proofs.Common.{ap, ◌∙◌}
use Rattle.uu_rows.proofs.Showing.{answered}
use Rattle.uu_questions.specs.Waiting.{is_for}
use Rattle.uu_questions.proofs.Answering.{answer_in}
use Rattle.uu_questions.proofs.Asking.{asks_as, asks_refused}
use Rattle.uu_questions.proofs.WaitingJobs.{waits_is}
use Rattle.uu_questions.proofs.facts.waits_under.Goals as goal

pub returns : goal.returns
returns g c =
    asks_as c.head_of_job.ensures (λ ok. answered _ _ c.in_ok-head.was)
    (λ s good it. c.is_for.ensures ∙ ap (is_for c.args.name.now) (answer_in _ c.head_of_job.result _ c.in_ok-head.was it) ∙ waits_is s c.args.name.now c.args.number good)

pub returns-in_err-head : goal.returns-in_err-head
returns-in_err-head g c = asks_refused c.head_of_job.ensures c.from_residual.ensures.0
