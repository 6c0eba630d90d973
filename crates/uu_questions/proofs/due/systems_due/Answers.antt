use Rattle.std.proofs.lemmas.Result.{IfOk-weaker}
use Rattle.uu_questions.proofs.Asking.{asks_as, asks_beside}
use Rattle.uu_questions.proofs.due.systems_due.Goals as goal

pub returns : goal.returns
returns g c =
    asks_as (asks_beside c.callable.ensures c.in_ok-limits.was c.due_within.ensures) (λ ok. ok)
    (λ s good it. IfOk-weaker c.due_within.result _ _ (λ dues both. both.1 s.systems c.args.at.now both.0) it)
