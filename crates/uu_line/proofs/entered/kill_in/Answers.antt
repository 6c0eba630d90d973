use Rattle.std.proofs.Common.{refl}
use Rattle.uu_line.proofs.entered.kill_in.Goals as goal

pub returns : goal.returns
returns c = (c.job_in-job.ensures.0, c.job_in-job.ensures.1, (c.job_in-job.result, c.job_in-job.ensures.2, refl))
