use Rattle.std.proofs.Common.{length, ◌-◌}
use Rattle.uu_names.proofs.ReturnLoop.{HasRead}
use Rattle.uu_names.proofs.return_paths.return_path.Given as goal

abbrev pub invariant-loop-found : goal.invariant-loop-found
invariant-loop-found l = HasRead l.message l.way.items l.user l.marker l.body

abbrev pub decreases-loop-found : goal.decreases-loop-found
decreases-loop-found l = length l.message - l.body
