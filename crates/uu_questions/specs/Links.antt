-- What the rows of a link say.
use Rattle.std.specs.Prelude.{ℕ, Option, None, Some}
use Rattle.uu_core.specs.declared.custody.Taken.{Taken}
use Rattle.uu_tables.specs.declared.rows.LinkColumns.{LinkColumns}
use Rattle.uu_tables.specs.declared.rows.TakenColumns.{TakenColumns}

-- the number in its row, or 0 if it has none
abbrev pub below_in : Option LinkColumns → ℕ
below_in None = 0
below_in (Some row) = row.below

-- what was taken, if there is a row for it
abbrev pub taken_in : Option TakenColumns → Option Taken
taken_in None = None
taken_in (Some row) = Some row.taken
