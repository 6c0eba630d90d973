use Rattle.std.proofs.Common.{◌≡◌, map, filter, take}
use Rattle.uu_core.specs.Due.{may_go, due_of}
use Rattle.uu_core.proofs.due.all_due.Given as goal

-- those of the jobs so far
abbrev pub invariant-loop-job : goal.invariant-loop-job
invariant-loop-job l = l.dues.items ≡ map due_of (filter (may_go l.rows l.at) (take l.job-index l.jobs))
