use Rattle.std.proofs.Common.{length}
use Rattle.uu_times.proofs.quick.time_lines.Given as goal

abbrev pub decreases-loop-line : goal.decreases-loop-line
decreases-loop-line l = length l.rest
