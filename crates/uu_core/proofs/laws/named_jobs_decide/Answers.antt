use Rattle.uu_core.proofs.DoneLemmas.{named_decide}
use Rattle.uu_core.proofs.laws.named_jobs_decide.Goals as goal

pub returns : goal.returns
returns c = λ known system numbers jobs found h. named_decide numbers jobs found h known system
