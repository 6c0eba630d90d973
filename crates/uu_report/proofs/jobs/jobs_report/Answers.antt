use Rattle.std.proofs.Common.{rules, ◌<◌, length, take}
use Rattle.std.specs.String.{string_bytes}
use Rattle.uu_report.proofs.ReportLemmas.{lines_grow}
use Rattle.uu_report.specs.Reports.{AreLines, IsJobLine}
use Rattle.uu_report.proofs.jobs.jobs_report.Goals as goal

pub loop-job-preserved : goal.loop-job-preserved
loop-job-preserved c =
    let it = c.in_ok-append_job.ensures in
    let inside : c.loop-job.job-index < length c.args.jobs.now = search rules in
    let before : AreLines (IsJobLine c.args.zone.now) (take c.loop-job.job-index c.args.jobs.now) (string_bytes c.loop-job.report) =
    c.loop-job.invariant in
    simp (it.2) (lines_grow (IsJobLine c.args.zone.now) c.args.jobs.now c.loop-job.job-index c.job-item.result
    (string_bytes c.loop-job.report) it.0 inside c.job-item.is before it.1)
