use Rattle.std.proofs.Common.{◌≡◌, true, take}
use Rattle.std.specs.List.{list_all}
use Rattle.uu_check.specs.Tests.{is_entry}
use Rattle.uu_check.proofs.entries.each_is_entry.Given as goal

abbrev pub invariant-loop-entry : goal.invariant-loop-entry
invariant-loop-entry l = list_all is_entry (take l.entry-index l.entries) ≡ true
