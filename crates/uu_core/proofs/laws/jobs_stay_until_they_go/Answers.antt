use Rattle.uu_core.proofs.JobLemmas.{stays}
use Rattle.uu_core.proofs.laws.jobs_stay_until_they_go.Goals as goal

pub returns : goal.returns
returns c = stays
