use Rattle.std.proofs.Common.{take}
use Rattle.std.specs.String.{string_bytes}
use Rattle.uu_report.specs.Reports.{IsJobsReport}
use Rattle.uu_report.proofs.jobs.jobs_report.Given as goal

-- the report so far is that of the jobs before this one
abbrev pub invariant-loop-job : goal.invariant-loop-job
invariant-loop-job l = IsJobsReport l.zone (take l.job-index l.jobs) (string_bytes l.report)
