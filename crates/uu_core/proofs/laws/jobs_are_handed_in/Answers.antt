use Rattle.uu_core.proofs.JobLemmas.{handed_in, handed_in_run}
use Rattle.uu_core.proofs.laws.jobs_are_handed_in.Goals as goal

pub returns : goal.returns
returns c = record { step = handed_in; run = handed_in_run }
