use Rattle.std.proofs.Common.{◌≡◌, ◌++◌, drop}
use Rattle.uu_adopt.specs.Assembly.{systems_from}
use Rattle.uu_adopt.proofs.assembly.systems_of.Given as goal

abbrev pub invariant-loop-system : goal.invariant-loop-system
invariant-loop-system l = systems_from l.systems l.fn.lines l.fn.ranges l.fn.waits ≡ l.made.items ++ systems_from (drop l.system-index l.systems) l.lines l.ranges l.waits
