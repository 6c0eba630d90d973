use Rattle.uu_schema.proofs.Statements.{step_then, step_weaker}
use Rattle.uu_statements.proofs.jobs.remove_job.Goals as goal

pub returns : goal.returns
returns g c = step_weaker (λ x y both t held. both.second _ (both.first t held)) (step_then c.in_ok-delete_job.ensures c.delete_body.ensures)
