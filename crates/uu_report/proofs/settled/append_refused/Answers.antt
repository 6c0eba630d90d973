use Rattle.std.proofs.Common.{rules, ◌<◌, ◌∙◌, length}
use Rattle.uu_report.proofs.ReportLemmas.{texts_grow}
use Rattle.uu_report.specs.Reports.{refused_line}
use Rattle.uu_report.proofs.settled.append_refused.Goals as goal

pub loop-job-preserved : goal.loop-job-preserved
loop-job-preserved c =
    let inside : c.loop-job.job-index < length c.args.refused.now = search rules in
    texts_grow (refused_line c.args.system.now) c.args.refused.now c.loop-job.job-index c.job-item.result c.args.report.now.items c.loop-job.report.items
    c.as_bytes.result.now c.extend_from_slice.new.self.items inside c.job-item.is
    c.loop-job.invariant (c.as_bytes.ensures.value ∙ c.in_ok-line.ensures) c.in_ok-extend_from_slice.ensures.items
