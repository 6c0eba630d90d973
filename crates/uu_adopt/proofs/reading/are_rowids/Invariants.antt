use Rattle.std.proofs.Common.{◌≡◌, drop}
use Rattle.uu_adopt.proofs.Rowids.{rise, rise_from}
use Rattle.uu_adopt.proofs.reading.are_rowids.Given as goal

abbrev pub invariant-loop-row : goal.invariant-loop-row
invariant-loop-row l = rise l.fn.rows ≡ rise_from l.last.value (drop l.row-index l.rest)
