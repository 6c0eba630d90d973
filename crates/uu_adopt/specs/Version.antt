-- The version that a table `spool` names.
use Rattle.std.specs.Prelude.{◌≡◌, ℕ, ℤ, ◌<ℤ◌, pos, true, List}
use Rattle.sqlite.specs.declared.types.Value.TheVariants.{Int}
use Rattle.sqlite.specs.Order.{Row, column}
use Rattle.sqlite_rules.specs.Lists.{Has}
use Rattle.sqlite_schema.specs.Rules.{equal}
use Rattle.sqlite_value.specs.declared.keys.Collation.TheVariants.{Binary}
use Rattle.uu_schema.specs.Schema.{spool}
use Rattle.uu_schema.specs.Made.{version as ours}

-- the first column is a version later than ours
pub record ShowsLater (row : Row) : Type 0 where
  pub version : ℤ
  pub is : column row 0 ≡ Int version
  pub later : pos ours <ℤ version

pub record HasLater (rows : List Row) : Type 0 where
  pub row : Row
  pub there : Has rows row
  pub shows : ShowsLater row

-- a row of the table `spool` has the id 1, compared as SQL's = does, and names a later version
pub record IsLater (trees : ℕ → List Row) : Type 0 where
  pub row : Row
  pub there : Has (trees spool.tree) row
  pub first : equal Binary (column row 0) (Int (pos 1)) ≡ true
  pub version : ℤ
  pub is : column row 2 ≡ Int version
  pub later : pos ours <ℤ version
