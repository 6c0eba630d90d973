use Rattle.std.proofs.Common.{◌≡◌, codes, take}
use Rattle.std.specs.List.{flat_map}
use Rattle.uu_report.specs.Logs.{job_line}
use Rattle.uu_report.proofs.logged.done_lines.Given as goal

-- the lines of the jobs before this one
abbrev pub invariant-loop-job : goal.invariant-loop-job
invariant-loop-job l = l.text.items ≡ flat_map (λ job. job_line l.moment l.change (codes "done") job.now) (take l.job-index l.jobs)
