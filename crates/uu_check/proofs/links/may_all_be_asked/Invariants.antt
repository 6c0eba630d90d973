use Rattle.std.proofs.Common.{◌≡◌, true, take}
use Rattle.std.specs.List.{list_all}
use Rattle.uu_check.specs.Tests.{may_be_asked}
use Rattle.uu_check.proofs.links.may_all_be_asked.Given as goal

abbrev pub invariant-loop-row : goal.invariant-loop-row
invariant-loop-row l = list_all (may_be_asked l.links) (take l.row-index l.taken) ≡ true
