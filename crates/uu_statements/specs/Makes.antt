-- The database after a change.
use Rattle.std.specs.Prelude.{List}
use Rattle.sqlite.specs.Tree.{Trees}
use Rattle.uu_tables.specs.declared.change.Change.{Change}
use Rattle.uu_core.specs.State.{empty}
use Rattle.uu_tables.specs.Tables.{Tables, tables_of}
use Rattle.uu_tables.specs.Changes.{apply, applied}
use Rattle.uu_schema.specs.Held.{Holds}

-- if the trees had some tables, they have what this makes of them
abbrev pub MakesOf : (Tables → Tables) → Trees → Trees → Type 0
MakesOf change old new = (t : Tables) → Holds old t → Holds new (change t)

-- the same for a change
abbrev pub Makes : Change → Trees → Trees → Type 0
Makes change = MakesOf (apply change)

-- the same for some changes, one after the other
abbrev pub MakesAll : List Change → Trees → Trees → Type 0
MakesAll changes = MakesOf (applied changes)

-- the tables are those that the changes make of an empty spool, whatever there was before
abbrev pub MakesAnew : List Change → Trees → Trees → Type 0
MakesAnew changes old new = Holds new (applied changes (tables_of empty))
