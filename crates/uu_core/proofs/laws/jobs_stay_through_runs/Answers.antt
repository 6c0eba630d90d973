use Rattle.uu_core.proofs.JobLemmas.{queued, queued_once, stays_run}
use Rattle.uu_core.proofs.laws.jobs_stay_through_runs.Goals as goal

pub returns : goal.returns
returns c = record { queued = queued; queued_once = queued_once; stays = stays_run }
