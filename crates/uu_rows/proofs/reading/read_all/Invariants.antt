use Rattle.std.proofs.Common.{◌≡◌, map, take}
use Rattle.std.specs.List.{AllByRecursion}
use Rattle.uu_rows.proofs.reading.read_all.Given as goal

abbrev pub invariant-loop-row : goal.invariant-loop-row
invariant-loop-row g l = (take l.row-index l.rows ≡ map g.T.TypedRow.cells l.all.items) × AllByRecursion g.T.TypedRow.IsReadable l.all.items
