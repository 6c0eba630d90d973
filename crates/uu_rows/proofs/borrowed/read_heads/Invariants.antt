use Rattle.std.proofs.Common.{◌≡◌, map, take}
use Rattle.std.specs.List.{AllByRecursion}
use Rattle.uu_schema.specs.Cells.{job_cells}
use Rattle.uu_rows.specs.Readable.{IsTypedHead}
use Rattle.uu_rows.proofs.borrowed.read_heads.Given as goal

abbrev pub invariant-loop-row : goal.invariant-loop-row
invariant-loop-row l = (take l.row-index l.rows ≡ map job_cells l.all.items) × AllByRecursion IsTypedHead l.all.items
