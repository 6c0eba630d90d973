-- The seven tables of the spool, version 4. No table refers to another: the plan of a command removes
-- what belongs to a system or a job with it. (This project's choice.)
use Rattle.std.specs.Prelude.{[], ◌∷◌, codes}
use Rattle.sqlite.specs.Table.{Table}
use Rattle.sqlite.specs.Schema.{Schema}
use Rattle.sqlite.specs.Kind.TheVariants.{Integer, Text, Blob}
use Rattle.sqlite_catalog.specs.Listing.{automatic}
use Rattle.uu_schema.specs.Layout.{may, must, by_number, by_key}

-- ---- tables; trees are numbered in order of creation, each table first and then its index

-- one row: the version of the tables and the next number
abbrev pub spool : Table
spool = by_number (codes "spool") 0 (may (codes "id") Integer ∷ must (codes "version") Integer ∷ must (codes "next") Integer ∷ []) []

-- the systems, each with its definition as a sys file, and with what the last call left
abbrev pub systems : Table
systems = by_key (codes "systems") 1
    (must (codes "name") Text ∷ must (codes "definition") Blob ∷ must (codes "last") Integer ∷ must (codes "failures") Integer ∷ must (codes "wait") Integer ∷ must (codes "outcome") Integer ∷ may (codes "why") Text
    ∷ [])
    (1 ∷ []) []

-- the jobs without their bytes
abbrev pub jobs : Table
jobs = by_number (codes "jobs") 3
    (may (codes "number") Integer ∷ must (codes "system") Text ∷ must (codes "rank") Integer ∷ must (codes "user") Text ∷ must (codes "kind") Integer ∷ must (codes "queued") Integer
    ∷ must (codes "first_word") Text ∷ must (codes "second_word") Text ∷ must (codes "size") Integer ∷ [])
    []

-- the bytes of the jobs, a row for each job
abbrev pub bodies : Table
bodies = by_number (codes "bodies") 4 (may (codes "job") Integer ∷ must (codes "bytes") Blob ∷ []) []

-- the map entries
abbrev pub entries : Table
entries = by_key (codes "entries") 5 (must (codes "host") Text ∷ must (codes "bytes") Blob ∷ []) (1 ∷ []) []

-- the numbers below which neighbours won't ask again, without those that are 0
abbrev pub links : Table
links = by_key (codes "links") 7 (must (codes "system") Text ∷ must (codes "below") Integer ∷ []) (1 ∷ []) []

-- what was taken from neighbours
abbrev pub taken : Table
taken = by_key (codes "taken") 9 (must (codes "system") Text ∷ must (codes "number") Integer ∷ must (codes "mark") Integer ∷ must (codes "job") Integer ∷ []) (1 ∷ 2 ∷ []) []

-- ---- schemas, from none to all

abbrev pub no_schema : Schema
no_schema = record { tables = []; indexes = []; views = [] }

abbrev pub schema_with_spool : Schema
schema_with_spool = record { tables = spool ∷ []; indexes = []; views = [] }

abbrev pub schema_with_systems : Schema
schema_with_systems = record { tables = spool ∷ systems ∷ []; indexes = automatic systems 0 (1 ∷ []) 2 ∷ []; views = [] }

abbrev pub schema_with_jobs : Schema
schema_with_jobs = record { tables = spool ∷ systems ∷ jobs ∷ []; indexes = automatic systems 0 (1 ∷ []) 2 ∷ []; views = [] }

abbrev pub schema_with_bodies : Schema
schema_with_bodies = record { tables = spool ∷ systems ∷ jobs ∷ bodies ∷ []; indexes = automatic systems 0 (1 ∷ []) 2 ∷ []; views = [] }

abbrev pub schema_with_entries : Schema
schema_with_entries = record {
  tables = spool ∷ systems ∷ jobs ∷ bodies ∷ entries ∷ [];
  indexes = automatic systems 0 (1 ∷ []) 2 ∷ automatic entries 0 (1 ∷ []) 6 ∷ [];
  views = [];
}

abbrev pub schema_with_links : Schema
schema_with_links = record {
  tables = spool ∷ systems ∷ jobs ∷ bodies ∷ entries ∷ links ∷ [];
  indexes = automatic systems 0 (1 ∷ []) 2 ∷ automatic entries 0 (1 ∷ []) 6 ∷ automatic links 0 (1 ∷ []) 8 ∷ [];
  views = [];
}

-- the whole
abbrev pub spool_schema : Schema
spool_schema = record {
  tables = spool ∷ systems ∷ jobs ∷ bodies ∷ entries ∷ links ∷ taken ∷ [];
  indexes = automatic systems 0 (1 ∷ []) 2 ∷ automatic entries 0 (1 ∷ []) 6 ∷ automatic links 0 (1 ∷ []) 8 ∷ automatic taken 0 (1 ∷ 2 ∷ []) 10 ∷ [];
  views = [];
}
