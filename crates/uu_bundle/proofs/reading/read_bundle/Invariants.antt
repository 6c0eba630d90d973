use Rattle.std.proofs.Common.{length}
use Rattle.uu_bundle.proofs.Progress.{Progress}
use Rattle.uu_bundle.proofs.reading.read_bundle.Given as goal

-- records come before what is left, and what they say was kept
abbrev pub invariant-loop-jobs : goal.invariant-loop-jobs
invariant-loop-jobs l = Progress l.fn.text l.heading l.rest l.has.items l.refused.items l.jobs.items

abbrev pub decreases-loop-jobs : goal.decreases-loop-jobs
decreases-loop-jobs l = length l.rest
