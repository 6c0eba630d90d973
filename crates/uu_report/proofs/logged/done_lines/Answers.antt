use Rattle.std.proofs.Common.{◌≤◌, ◌∙◌, ap, arith, codes, length, sym}
use Rattle.std.proofs.lemmas.List.{take_all}
use Rattle.std.specs.List.{flat_map}
use Rattle.uu_report.proofs.LogLemmas.{mapped}
use Rattle.uu_report.specs.Logs.{job_line}
use Rattle.uu_report.proofs.logged.done_lines.Goals as goal

pub returns : goal.returns
returns c =
    let jobs = c.args.jobs.now in
    let end : length jobs ≤ c.loop-job.job-index = omega arith in
    c.loop-job.invariant ∙ ap (flat_map (λ job. job_line c.args.moment.now c.args.change.now (codes "done") job.now)) (take_all c.loop-job.job-index jobs end)
    ∙ sym (mapped (job_line c.args.moment.now c.args.change.now (codes "done")) (λ job. job.now) jobs)
