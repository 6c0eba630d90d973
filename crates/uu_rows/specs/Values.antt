-- The value of one column of a row.
use Rattle.std.specs.Prelude.{◌≡◌, ℕ, pos, Result, Err}
use Rattle.sqlite.specs.declared.types.Value.{Value}
use Rattle.sqlite.specs.declared.types.Value.TheVariants.{Int}
use Rattle.uu_rows.specs.declared.fault.RowFault.{RowFault}
use Rattle.uu_rows.specs.declared.fault.RowFault.TheVariants.{Bad}

abbrev pub number_cell : ℕ → Value
number_cell n = Int (pos n)

-- it is refused as bad only if the fact doesn't hold
abbrev pub NotIf : {T : Type 0} → Result T RowFault → Type 0 → Type 0
NotIf r Fact = r ≡ Err Bad → Fact → ⊥
