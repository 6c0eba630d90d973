use Rattle.std.proofs.Common.{◌≡◌, true, take}
use Rattle.std.specs.List.{list_all}
use Rattle.uu_check.specs.Tests.{is_call}
use Rattle.uu_check.proofs.spool.are_calls.Given as goal

abbrev pub invariant-loop-system : goal.invariant-loop-system
invariant-loop-system l = list_all is_call (take l.system-index l.systems) ≡ true
