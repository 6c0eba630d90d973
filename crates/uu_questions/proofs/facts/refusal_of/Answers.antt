use Rattle.std.proofs.Common.{ap, ◌∙◌}
use Rattle.uu_core.specs.Laws.{refusal_in}
use Rattle.uu_rows.proofs.Showing.{answered}
use Rattle.uu_questions.proofs.Answering.{answer_in}
use Rattle.uu_questions.proofs.Asking.{asks_as, asks_refused}
use Rattle.uu_questions.proofs.facts.refusal_of.Goals as goal

pub returns : goal.returns
returns g c =
    asks_as c.facts_for.ensures.asks (λ ok. answered _ _ c.in_ok-facts.was)
    (λ s good it.
    let plan = rw c.in_ok-plan.was at (c.make_plan.ensures s good (answer_in _ c.facts_for.result _ c.in_ok-facts.was it)) in
    c.refusal.ensures ∙ ap refusal_in plan.reply ∙ c.refusals_change_nothing.ensures.reply s c.args.command.now)

pub returns-in_err-facts : goal.returns-in_err-facts
returns-in_err-facts g c = asks_refused c.facts_for.ensures.asks c.from_residual.ensures.0

pub returns-in_err-plan : goal.returns-in_err-plan
returns-in_err-plan g c = asks_refused c.facts_for.ensures.asks c.from_residual-in_err-plan.ensures.0
