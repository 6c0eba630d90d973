use Rattle.std.proofs.Common.{◌≡◌, ◌++◌, take}
use Rattle.std.specs.List.{flat_map}
use Rattle.uu_report.specs.Reports.{refused_line}
use Rattle.uu_report.proofs.settled.append_refused.Given as goal

-- the report so far has a line for each before this one
abbrev pub invariant-loop-job : goal.invariant-loop-job
invariant-loop-job l = l.report.items ≡ l.fn.report.items ++ flat_map (refused_line l.system) (take l.job-index l.refused)
