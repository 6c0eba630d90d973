use Rattle.std.proofs.Common.{◌≡◌, ◌++◌, drop}
use Rattle.uu_adopt.specs.Assembly.{bodies_from}
use Rattle.uu_adopt.proofs.joining.bodies_of.Given as goal

abbrev pub invariant-loop-job : goal.invariant-loop-job
invariant-loop-job l = bodies_from l.jobs l.fn.pieces ≡ l.bodies.items ++ bodies_from (drop l.job-index l.jobs) l.rest
