-- Which of the spool's tables a database has, by their names and those of their columns, compared
-- without regard to ASCII case as SQLite does.
use Rattle.std.specs.Prelude.{◌≡◌, ◌⊎◌, ℕ, Bool, false, ◌&&◌, ◌||◌, if◌then◌else◌, List, [], ◌∷◌, codes, find, not, Option, Some, None, is_some}
use Rattle.std.specs.List.{list_any, list_all}
use Rattle.std.specs.Option.{option_map_or}
use Rattle.sqlite.specs.Schema.{Schema}
use Rattle.sqlite.specs.Table.{Table}
use Rattle.sqlite_schema.specs.Names.{same_name}
use Rattle.uu_schema.specs.declared.version.Version.{Version}
use Rattle.uu_schema.specs.declared.version.Version.TheVariants.{First, Second, Third, Fourth}
use Rattle.uu_schema.specs.Earlier.{IsEarlierVersion}
use Rattle.uu_adopt.specs.declared.tables.Found.{Found}
use Rattle.uu_adopt.specs.declared.tables.Found.TheVariants.{Nothing, Spool, Other}

abbrev pub table_of : Schema → List ℕ → Option Table
table_of schema name = find (λ t. same_name t.name name) schema.tables

abbrev pub has_column : Table → List ℕ → Bool
has_column table name = list_any (λ c. same_name c.name name) table.columns

abbrev pub has_table : Schema → List ℕ → List (List ℕ) → Bool
has_table schema name columns = option_map_or (λ t. list_all (has_column t) columns) (table_of schema name) false

-- ---- the columns of each table

abbrev pub system_column_names : List (List ℕ)
system_column_names = codes "name" ∷ codes "definition" ∷ codes "last" ∷ codes "failures" ∷ codes "wait" ∷ codes "outcome" ∷ codes "why" ∷ []

abbrev pub old_system_column_names : List (List ℕ)
old_system_column_names = codes "name" ∷ codes "max_retries" ∷ codes "last" ∷ codes "failures" ∷ codes "wait" ∷ codes "outcome" ∷ codes "why" ∷ []

abbrev pub line_column_names : List (List ℕ)
line_column_names = codes "system" ∷ codes "place" ∷ codes "rank" ∷ codes "retry" ∷ []

abbrev pub range_column_names : List (List ℕ)
range_column_names = codes "system" ∷ codes "place" ∷ codes "low" ∷ codes "high" ∷ []

abbrev pub job_column_names : List (List ℕ)
job_column_names =
    codes "number" ∷ codes "system" ∷ codes "rank" ∷ codes "user" ∷ codes "kind" ∷ codes "queued" ∷ codes "first_word" ∷ codes "second_word" ∷ codes "size" ∷ []

abbrev pub body_column_names : List (List ℕ)
body_column_names = codes "job" ∷ codes "bytes" ∷ []

abbrev pub piece_column_names : List (List ℕ)
piece_column_names = codes "job" ∷ codes "place" ∷ codes "bytes" ∷ []

abbrev pub entry_column_names : List (List ℕ)
entry_column_names = codes "host" ∷ codes "bytes" ∷ []

abbrev pub wait_column_names : List (List ℕ)
wait_column_names = codes "system" ∷ codes "wait" ∷ []

abbrev pub link_column_names : List (List ℕ)
link_column_names = codes "system" ∷ codes "below" ∷ []

abbrev pub taken_column_names : List (List ℕ)
taken_column_names = codes "system" ∷ codes "number" ∷ codes "mark" ∷ codes "job" ∷ []

-- ---- what is there

-- the tables of the jobs, of their bytes and of the map entries
abbrev pub has_jobs : Schema → Bool
has_jobs schema = has_table schema (codes "jobs") job_column_names && has_table schema (codes "bodies") body_column_names && has_table schema (codes "entries") entry_column_names

-- in earlier versions: the tables of the systems
abbrev pub has_old_systems : Schema → Bool
has_old_systems schema = has_table schema (codes "systems") old_system_column_names && has_table schema (codes "lines") line_column_names && has_table schema (codes "ranges") range_column_names

-- in earlier versions: the tables of the jobs and of the map entries
abbrev pub has_old_jobs : Schema → Bool
has_old_jobs schema = has_table schema (codes "jobs") job_column_names && has_table schema (codes "pieces") piece_column_names && has_table schema (codes "entries") entry_column_names

-- the table of the success waits
abbrev pub has_waits : Schema → Bool
has_waits schema = has_table schema (codes "success_waits") wait_column_names

-- the tables of the links, and of what was taken by them
abbrev pub has_links : Schema → Bool
has_links schema = has_table schema (codes "links") link_column_names && has_table schema (codes "taken") taken_column_names

-- the tables of version 4 are there, besides `spool`
abbrev pub is_whole : Schema → Bool
is_whole schema = has_table schema (codes "systems") system_column_names && has_jobs schema && has_links schema

-- those of version 1 are there
abbrev pub was_whole : Schema → Bool
was_whole schema = has_old_systems schema && has_old_jobs schema

-- a table has this name
abbrev pub is_name_used : Schema → List ℕ → Bool
is_name_used schema name = is_some (table_of schema name)

-- a table has one of these two names
abbrev pub is_link_name_used : Schema → Bool
is_link_name_used schema = is_name_used schema (codes "links") || is_name_used schema (codes "taken")

-- a table has the name of one that only earlier versions have
abbrev pub is_old_name_used : Schema → Bool
is_old_name_used schema = is_name_used schema (codes "lines") || is_name_used schema (codes "ranges") || is_name_used schema (codes "pieces") || is_name_used schema (codes "success_waits")

-- a table has one of the names, other than `spool`
abbrev pub is_any_name_used : Schema → Bool
is_any_name_used schema = is_name_used schema (codes "systems") || is_name_used schema (codes "jobs") || is_name_used schema (codes "bodies") || is_name_used schema (codes "entries") || is_link_name_used schema || is_old_name_used schema

-- the earlier version that the tables added after version 1 show: it has all of its own, and no name
-- of those added later is taken
abbrev pub added_with : Schema → Option Version
added_with schema =
    if has_waits schema
    then (if has_links schema then Some Third else (if is_link_name_used schema then None else Some Second))
    else (if is_name_used schema (codes "success_waits") || is_link_name_used schema then None else Some First)

-- the version whose tables are there besides `spool`, and none of another version
abbrev pub version_of : Schema → Option Version
version_of schema =
    if is_whole schema
    then (if is_old_name_used schema then None else Some Fourth)
    else (if was_whole schema && not (is_name_used schema (codes "bodies")) then added_with schema else None)

-- the version whose tables are there with all their columns
abbrev pub tables_with : Schema → Table → Option Version
tables_with schema spool = if has_column spool (codes "next") then version_of schema else None

-- what is found, given the table `spool`, if there is one
abbrev pub found_beside : Schema → Option Table → Found
found_beside schema None = if is_any_name_used schema then Other else Nothing
found_beside schema (Some spool) =
    if has_column spool (codes "id") && has_column spool (codes "version")
    then Spool (tables_with schema spool)
    else Other

abbrev pub found_of : Schema → Found
found_of schema = found_beside schema (table_of schema (codes "spool"))

-- ---- the same in words

-- none of the spool's tables is there
abbrev pub HasNone : Schema → Type 0
HasNone schema = found_of schema ≡ Nothing

-- all tables of a version are there, with all their columns
abbrev pub HasAllOf : Version → Schema → Type 0
HasAllOf v schema = found_of schema ≡ Spool (Some v)

-- the tables of an earlier version are there, so they have to be made anew
abbrev pub HasEarlier : Schema → Type 0
HasEarlier schema = (v : Version) × IsEarlierVersion v × HasAllOf v schema

-- none of the tables is there, or all of a version
abbrev pub HasNoneOrAll : Schema → Type 0
HasNoneOrAll schema = HasNone schema ⊎ ((v : Version) × HasAllOf v schema)

-- one of their names is taken, and no table `spool` has the columns that say a version
abbrev pub HasUnversionedTables : Schema → Type 0
HasUnversionedTables schema = found_of schema ≡ Other
