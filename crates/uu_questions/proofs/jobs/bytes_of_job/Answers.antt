use Rattle.uu_rows.proofs.Showing.{answered}
use Rattle.uu_questions.proofs.Answering.{answer_in}
use Rattle.uu_questions.proofs.Asking.{asks_as, asks_refused}
use Rattle.uu_questions.proofs.JobBytes.{bytes_given}
use Rattle.uu_questions.proofs.jobs.bytes_of_job.Goals as goal

pub returns : goal.returns
returns g c =
    asks_as c.body_of_job.ensures (λ ok. answered c.body_of_job.result _ c.in_ok-body.was)
    (λ s good it. bytes_given s c.args.number c.in_ok-body.body c.bytes_of.result (answer_in _ c.body_of_job.result _ c.in_ok-body.was it) c.bytes_of.ensures)

pub returns-in_err-body : goal.returns-in_err-body
returns-in_err-body g c = asks_refused c.body_of_job.ensures c.from_residual.ensures.0
