use Rattle.std.proofs.Common.{◌≡◌, take, map}
use Rattle.uu_core.specs.State.{head_of}
use Rattle.uu_plain.proofs.copy.heads_of.Given as goal

abbrev pub invariant-loop-job : goal.invariant-loop-job
invariant-loop-job l = l.heads.items ≡ map head_of (take l.job-index l.jobs)
