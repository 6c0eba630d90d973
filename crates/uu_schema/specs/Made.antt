-- The trees after the statements that drop and make the tables.
use Rattle.std.specs.Prelude.{◌≡◌, ◌==◌, ℕ, pos, List, [], ◌∷◌, false, ⊤}
use Rattle.std.specs.List.{AllByRecursion, list_any}
use Rattle.sqlite.specs.declared.types.Value.TheVariants.{Null, Int}
use Rattle.sqlite.specs.Order.{Row}
use Rattle.sqlite.specs.Schema.{Schema}
use Rattle.sqlite.specs.Table.{Table}
use Rattle.sqlite.specs.Tree.{Trees}
use Rattle.uu_schema.specs.Schema.{spool_schema, spool, systems, jobs, bodies, entries, links, taken}
use Rattle.uu_schema.specs.declared.version.Version.{Version}
use Rattle.uu_schema.specs.declared.version.Version.TheVariants.{First, Second, Third, Fourth}

-- the tables except those at these trees have the rows that they had
abbrev pub KeepsOtherTables : List ℕ → Trees → Trees → Type 0
KeepsOtherTables written old new = AllByRecursion (λ (t : Table). list_any (λ n. n == t.tree) written ≡ false → new t.tree ≡ old t.tree) spool_schema.tables

-- the number of a version
abbrev pub version_number : Version → ℕ
version_number First = 1
version_number Second = 2
version_number Third = 3
version_number Fourth = 4

-- the version of the tables that are made and written
abbrev pub version : ℕ
version = version_number Fourth

-- The row of `spool` as the port keeps it: the rowid, then the columns. An INTEGER PRIMARY KEY is
-- kept as Null.
abbrev pub spool_row_of : Version → ℕ → Row
spool_row_of v next = Int (pos 1) ∷ Null ∷ Int (pos (version_number v)) ∷ Int (pos next) ∷ []

abbrev pub spool_row : ℕ → Row
spool_row = spool_row_of Fourth

-- tables are dropped: no matter what the trees hold, because the rows are written anew
abbrev pub Anything : Trees → Trees → Type 0
Anything old new = ⊤

-- no table has a row
abbrev pub HasNoRows : Schema → Trees → Type 0
HasNoRows schema db = AllByRecursion (λ (t : Table). db t.tree ≡ []) schema.tables

-- if no table of the first schema had a row, none of the second has
abbrev pub StaysEmpty : Schema → Schema → Trees → Trees → Type 0
StaysEmpty from to old new = HasNoRows from old → HasNoRows to new

-- `spool` has its one row, and no other table has a row
pub record IsEmptySpool (db : Trees) : Type 0 where
  pub row : db spool.tree ≡ spool_row 1 ∷ []
  pub others : AllByRecursion (λ (t : Table). db t.tree ≡ []) (systems ∷ jobs ∷ bodies ∷ entries ∷ links ∷ taken ∷ [])

-- the row is there, and so the tables are those of an empty spool, if none had a row
abbrev pub BeginsEmpty : Trees → Trees → Type 0
BeginsEmpty old new = HasNoRows spool_schema old → IsEmptySpool new

-- the tables are those of an empty spool, whatever there was before
abbrev pub IsMadeAnew : Trees → Trees → Type 0
IsMadeAnew old new = IsEmptySpool new
