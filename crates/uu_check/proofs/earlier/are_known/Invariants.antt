use Rattle.std.proofs.Common.{◌≡◌, true, take}
use Rattle.std.specs.List.{list_all}
use Rattle.uu_check.specs.Tests.{is_known}
use Rattle.uu_check.proofs.earlier.are_known.Given as goal

abbrev pub invariant-loop-job : goal.invariant-loop-job
invariant-loop-job g l = list_all (λ job. is_known l.systems (g.H.Head.head job)) (take l.job-index l.jobs) ≡ true
