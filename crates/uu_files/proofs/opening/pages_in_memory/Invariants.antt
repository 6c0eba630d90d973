use Rattle.std.proofs.Common.{◌≤◌}
use Rattle.uu_files.proofs.opening.pages_in_memory.Given as goal

abbrev pub invariant-loop-pages : goal.invariant-loop-pages
invariant-loop-pages l = l.pages ≤ l.pages-2

abbrev pub decreases-loop-pages : goal.decreases-loop-pages
decreases-loop-pages l = l.pages
