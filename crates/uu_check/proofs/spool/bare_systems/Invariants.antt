use Rattle.std.proofs.Common.{◌≡◌, map, take}
use Rattle.uu_check.specs.Tests.{bare_of}
use Rattle.uu_check.proofs.spool.bare_systems.Given as goal

abbrev pub invariant-loop-system : goal.invariant-loop-system
invariant-loop-system l = l.all.items ≡ map bare_of (take l.system-index l.systems)
