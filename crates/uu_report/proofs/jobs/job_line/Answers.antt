use Rattle.std.proofs.Common.{◌++◌, ◌∙◌, ap}
use Rattle.uu_report.proofs.jobs.job_line.Goals as goal

pub returns : goal.returns
returns c =
    let it = c.in_ok-append_job.ensures in
    (it.1.0, it.1.1, it.2 ∙ ap (λ t. t ++ it.0) c.new-line.ensures.bytes ∙ it.1.2)
