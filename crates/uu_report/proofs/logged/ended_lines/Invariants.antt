use Rattle.std.proofs.Common.{◌≡◌, take}
use Rattle.std.specs.Fmt.{decimal}
use Rattle.std.specs.List.{flat_map}
use Rattle.uu_report.specs.Logs.{job_line}
use Rattle.uu_report.proofs.logged.ended_lines.Given as goal

-- the lines of the jobs before this one
abbrev pub invariant-loop-job : goal.invariant-loop-job
invariant-loop-job l = l.lines.items ≡ flat_map (λ job. job_line l.moment l.change l.how (decimal job)) (take l.job-index l.jobs)
