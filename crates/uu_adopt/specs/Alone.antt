-- Whether a database has nothing beside the tables of a spool, so that a copy of these is a copy of
-- it all.
use Rattle.std.specs.Prelude.{ℕ, Bool, ◌==◌, ◌&&◌, ◌||◌, List, [], ◌∷◌, codes, length}
use Rattle.std.specs.List.{list_any, list_all}
use Rattle.sqlite.specs.Schema.{Schema}
use Rattle.sqlite.specs.Table.{Table}
use Rattle.sqlite_schema.specs.Names.{same_name}
use Rattle.uu_adopt.specs.FoundTables.{system_column_names, job_column_names, body_column_names, entry_column_names, link_column_names, taken_column_names}

abbrev pub spool_column_names : List (List ℕ)
spool_column_names = codes "id" ∷ codes "version" ∷ codes "next" ∷ []

-- the table has this name, and no column but these
abbrev pub is_table : Table → List ℕ → List (List ℕ) → Bool
is_table table name names = same_name table.name name && list_all (λ column. list_any (λ one. same_name column.name one) names) table.columns

-- it is one of the spool's tables
abbrev pub is_own : Table → Bool
is_own table =
    is_table table (codes "spool") spool_column_names || is_table table (codes "systems") system_column_names || is_table table (codes "jobs") job_column_names
    || is_table table (codes "bodies") body_column_names || is_table table (codes "entries") entry_column_names || is_table table (codes "links") link_column_names
    || is_table table (codes "taken") taken_column_names

-- Every table is one of the spool's, there are as many indexes as its four keys have, and there is no
-- view, trigger or table that the port keeps as it is.
abbrev pub is_alone : Schema → Bool
is_alone schema = list_all is_own schema.tables && (length schema.indexes == 4) && (length schema.views == 0)
