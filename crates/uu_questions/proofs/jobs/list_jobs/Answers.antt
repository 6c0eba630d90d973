use Rattle.std.proofs.lemmas.Result.{IfOk-weaker}
use Rattle.uu_questions.proofs.Asking.{asks_as}
use Rattle.uu_questions.proofs.jobs.list_jobs.Goals as goal

pub returns-then-wants_all : goal.returns-then-wants_all
returns-then-wants_all g c =
    asks_as c.list_all_jobs.ensures (λ ok. ok) (λ s good it. IfOk-weaker c.list_all_jobs.result _ _ (λ heads listed. listed c.args.filter.now (c.wants_all.ensures.0 c.if-wants_all.true)) it)

pub returns-else-wants_all : goal.returns-else-wants_all
returns-else-wants_all g c = c.list_fitting_jobs.ensures
