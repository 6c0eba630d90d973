use Rattle.std.proofs.Common.{◌≡◌, drop}
use Rattle.uu_tables.specs.Changes.{applied}
use Rattle.uu_tables.specs.Tables.{Tables}
use Rattle.uu_adopt.specs.Renewal.{each}
use Rattle.uu_adopt.proofs.renewal.add_all.Given as goal

abbrev pub invariant-loop-row : goal.invariant-loop-row
invariant-loop-row g l = (t : Tables) → each g.R.Added.adds (drop l.row-index l.rows) (applied l.changes.items t) ≡ each g.R.Added.adds l.rows (applied l.fn.changes.items t)
