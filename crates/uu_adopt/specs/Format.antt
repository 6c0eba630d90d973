-- Which of the spool's tables a schema has, compared with those that each version makes. Names are
-- compared without regard to ASCII case, as SQLite does. `laws::tables_are_found_by_the_format`
-- says that the code (`FoundTables`) finds exactly this.
use Rattle.std.specs.Prelude.{◌≡◌, ℕ, true, false, List, [], ◌∷◌, codes, find, map, Some}
use Rattle.std.specs.List.{AllByRecursion}
use Rattle.sqlite.specs.Schema.{Schema}
use Rattle.sqlite.specs.Table.{Table}
use Rattle.sqlite_rules.specs.Lists.{Has}
use Rattle.sqlite_schema.specs.Names.{same_name}
use Rattle.sqlite_schema.specs.declared.schema.Column.{Column}
use Rattle.uu_schema.specs.Schema.{spool_schema, spool, bodies, links, taken}
use Rattle.uu_schema.specs.Earlier.{schema_of, lines, ranges, pieces, success_waits}
use Rattle.uu_schema.specs.declared.version.Version.{Version}
use Rattle.uu_schema.specs.declared.version.Version.TheVariants.{First, Second, Third, Fourth}

-- no table has this name
abbrev pub IsNameFree : Schema → List ℕ → Type 0
IsNameFree schema name = AllByRecursion (λ (table : Table). same_name table.name name ≡ false) schema.tables

-- a column of the table has this name
abbrev pub HasColumn : Table → List ℕ → Type 0
HasColumn table name = (column : Column) × Has table.columns column × (same_name column.name name ≡ true)

-- the first table of this name has columns of these names
pub record HasTable (schema : Schema) (name : List ℕ) (columns : List (List ℕ)) : Type 0 where
  pub table : Table
  pub is_first : find (λ (t : Table). same_name t.name name) schema.tables ≡ Some table
  pub has_all : AllByRecursion (HasColumn table) columns

-- a table of the format is there with its columns
abbrev pub HasTableOf : Schema → Table → Type 0
HasTableOf schema table = HasTable schema table.name (map (λ (column : Column). column.name) table.columns)

-- the tables that only earlier versions have
abbrev pub old_tables : List Table
old_tables = lines ∷ ranges ∷ pieces ∷ success_waits ∷ []

-- no name of a version's tables is taken
abbrev pub HasNoName : Schema → Type 0
HasNoName schema = AllByRecursion (λ (table : Table). IsNameFree schema table.name) spool_schema.tables × AllByRecursion (λ (table : Table). IsNameFree schema table.name) old_tables

-- the tables of other versions whose names a version hasn't
abbrev pub other_tables : Version → List Table
other_tables First = bodies ∷ success_waits ∷ links ∷ taken ∷ []
other_tables Second = bodies ∷ links ∷ taken ∷ []
other_tables Third = bodies ∷ []
other_tables Fourth = old_tables

-- every table of a version is there with its columns, and no table has the name of one that only
-- other versions have
pub record HasTablesOf (v : Version) (schema : Schema) : Type 0 where
  pub all : AllByRecursion (HasTableOf schema) (schema_of v).tables
  pub none_other : AllByRecursion (λ (table : Table). IsNameFree schema table.name) (other_tables v)

-- the table `spool` has the columns that say its version
abbrev pub TellsVersion : Schema → Type 0
TellsVersion schema = HasTable schema spool.name (codes "id" ∷ codes "version" ∷ [])
