use Rattle.std.proofs.Common.{◌≡◌, ◌++◌, take, drop}
use Rattle.uu_core.specs.State.{Job}
use Rattle.uu_core.specs.After.{change_job}
use Rattle.uu_plain.proofs.rows.regrade.Given as goal

abbrev pub invariant-loop-job : goal.invariant-loop-job
invariant-loop-job l =
    l.jobs ≡ change_job l.number (λ (job : Job). record job { grade = l.grade }) (take l.job-index l.initial.jobs) ++ drop l.job-index l.initial.jobs
