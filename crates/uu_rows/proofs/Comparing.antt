-- Rows as a query sees them, from their columns alone.
use Rattle.std.proofs.Common.{[], ◌∷◌}
use Rattle.sqlite.specs.declared.types.Value.TheVariants.{Null}
use Rattle.sqlite.specs.Order.{Row}

-- if the rowid isn't shown
abbrev pub beside : Row → Row
beside c = Null ∷ c

-- if the first column is the rowid
abbrev pub numbered : Row → Row
numbered (v ∷ c) = v ∷ Null ∷ c
numbered [] = []
