use Rattle.uu_core.proofs.QueueLaws.{jobs_summed, bytes_summed}
use Rattle.uu_core.proofs.laws.queues_sum_up_all_jobs.Goals as goal

pub returns-clause-jobs : goal.returns-clause-jobs
returns-clause-jobs c = jobs_summed

pub returns-clause-bytes : goal.returns-clause-bytes
returns-clause-bytes c = bytes_summed
