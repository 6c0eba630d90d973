use Rattle.uu_core.proofs.DueLaws.{none_due, one_more_due, due_in_any_order}
use Rattle.uu_core.proofs.laws.dues_are_found_job_by_job.Goals as goal

pub returns : goal.returns
returns c = record { none = none_due; more = one_more_due; any_order = due_in_any_order }
