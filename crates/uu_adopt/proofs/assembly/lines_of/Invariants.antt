use Rattle.std.proofs.Common.{◌≡◌, ◌++◌, drop}
use Rattle.uu_adopt.specs.Assembly.{lines_from}
use Rattle.uu_adopt.proofs.assembly.lines_of.Given as goal

abbrev pub invariant-loop-line : goal.invariant-loop-line
invariant-loop-line l = lines_from l.lines l.ranges ≡ l.made.items ++ lines_from (drop l.line-index l.lines) l.rest
