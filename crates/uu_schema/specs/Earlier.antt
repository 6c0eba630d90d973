-- The tables of versions 1 to 3, in which rows refer to rows of other tables. Those that a later
-- version has under the same name, but in another place, are `old_..`. (This project's choice.)
use Rattle.std.specs.Prelude.{[], ◌∷◌, codes, ⊤}
use Rattle.sqlite.specs.Table.{Table}
use Rattle.sqlite.specs.Schema.{Schema}
use Rattle.sqlite.specs.Kind.TheVariants.{Integer, Text, Blob}
use Rattle.sqlite_schema.specs.declared.schema.Action.TheVariants.{NoAction, Cascade}
use Rattle.sqlite_schema.specs.declared.schema.Reference.{Reference}
use Rattle.sqlite_catalog.specs.Listing.{automatic}
use Rattle.uu_schema.specs.Layout.{may, must, refers, by_number, by_key}
use Rattle.uu_schema.specs.Schema.{spool, spool_schema}
use Rattle.uu_schema.specs.declared.version.Version.{Version}
use Rattle.uu_schema.specs.declared.version.Version.TheVariants.{First, Second, Third, Fourth}

-- ---- tables

-- the systems, with what the last call left
abbrev pub old_systems : Table
old_systems = by_key (codes "systems") 1
    (must (codes "name") Text ∷ must (codes "max_retries") Integer ∷ must (codes "last") Integer ∷ must (codes "failures") Integer ∷ must (codes "wait") Integer ∷ must (codes "outcome") Integer ∷ may (codes "why") Text
    ∷ [])
    (1 ∷ []) []

-- a line is removed with its system
abbrev pub to_system : Reference
to_system = refers (1 ∷ []) (codes "systems") (codes "name" ∷ []) Cascade

-- the lines of the systems
abbrev pub lines : Table
lines = by_key (codes "lines") 3 (must (codes "system") Text ∷ must (codes "place") Integer ∷ must (codes "rank") Integer ∷ may (codes "retry") Integer ∷ []) (1 ∷ 2 ∷ []) (to_system ∷ [])

-- a range is removed with its line
abbrev pub to_line : Reference
to_line = refers (1 ∷ 2 ∷ []) (codes "lines") (codes "system" ∷ codes "place" ∷ []) Cascade

-- the ranges of the lines
abbrev pub ranges : Table
ranges = by_key (codes "ranges") 5 (must (codes "system") Text ∷ must (codes "place") Integer ∷ must (codes "low") Integer ∷ must (codes "high") Integer ∷ []) (1 ∷ 2 ∷ 3 ∷ []) (to_line ∷ [])

-- a system can't be removed while a job waits for it
abbrev pub to_known_system : Reference
to_known_system = refers (2 ∷ []) (codes "systems") (codes "name" ∷ []) NoAction

-- the jobs without their bytes
abbrev pub old_jobs : Table
old_jobs = by_number (codes "jobs") 7
    (may (codes "number") Integer ∷ must (codes "system") Text ∷ must (codes "rank") Integer ∷ must (codes "user") Text ∷ must (codes "kind") Integer ∷ must (codes "queued") Integer
    ∷ must (codes "first_word") Text ∷ must (codes "second_word") Text ∷ must (codes "size") Integer ∷ [])
    (to_known_system ∷ [])

-- a piece is removed with its job
abbrev pub to_job : Reference
to_job = refers (1 ∷ []) (codes "jobs") (codes "number" ∷ []) Cascade

-- the bytes of the jobs, cut into pieces
abbrev pub pieces : Table
pieces = by_key (codes "pieces") 8 (must (codes "job") Integer ∷ must (codes "place") Integer ∷ must (codes "bytes") Blob ∷ []) (1 ∷ 2 ∷ []) (to_job ∷ [])

-- the map entries
abbrev pub old_entries : Table
old_entries = by_key (codes "entries") 10 (must (codes "host") Text ∷ must (codes "bytes") Blob ∷ []) (1 ∷ []) []

-- the success waits of the systems, without those that are 0
abbrev pub success_waits : Table
success_waits = by_key (codes "success_waits") 12 (must (codes "system") Text ∷ must (codes "wait") Integer ∷ []) (1 ∷ []) (to_system ∷ [])

-- the numbers below which neighbours won't ask again, without those that are 0
abbrev pub old_links : Table
old_links = by_key (codes "links") 14 (must (codes "system") Text ∷ must (codes "below") Integer ∷ []) (1 ∷ []) (to_system ∷ [])

-- what was taken from neighbours
abbrev pub old_taken : Table
old_taken = by_key (codes "taken") 16 (must (codes "system") Text ∷ must (codes "number") Integer ∷ must (codes "mark") Integer ∷ must (codes "job") Integer ∷ []) (1 ∷ 2 ∷ []) (to_system ∷ [])

-- ---- schemas, each with one table more

abbrev pub old_with_systems : Schema
old_with_systems = record { tables = spool ∷ old_systems ∷ []; indexes = automatic old_systems 0 (1 ∷ []) 2 ∷ []; views = [] }

abbrev pub old_with_lines : Schema
old_with_lines = record { tables = spool ∷ old_systems ∷ lines ∷ []; indexes = automatic old_systems 0 (1 ∷ []) 2 ∷ automatic lines 0 (1 ∷ 2 ∷ []) 4 ∷ []; views = [] }

abbrev pub old_with_ranges : Schema
old_with_ranges = record {
  tables = spool ∷ old_systems ∷ lines ∷ ranges ∷ [];
  indexes = automatic old_systems 0 (1 ∷ []) 2 ∷ automatic lines 0 (1 ∷ 2 ∷ []) 4 ∷ automatic ranges 0 (1 ∷ 2 ∷ 3 ∷ []) 6 ∷ [];
  views = [];
}

abbrev pub old_with_jobs : Schema
old_with_jobs = record {
  tables = spool ∷ old_systems ∷ lines ∷ ranges ∷ old_jobs ∷ [];
  indexes = automatic old_systems 0 (1 ∷ []) 2 ∷ automatic lines 0 (1 ∷ 2 ∷ []) 4 ∷ automatic ranges 0 (1 ∷ 2 ∷ 3 ∷ []) 6 ∷ [];
  views = [];
}

abbrev pub old_with_pieces : Schema
old_with_pieces = record {
  tables = spool ∷ old_systems ∷ lines ∷ ranges ∷ old_jobs ∷ pieces ∷ [];
  indexes = automatic old_systems 0 (1 ∷ []) 2 ∷ automatic lines 0 (1 ∷ 2 ∷ []) 4 ∷ automatic ranges 0 (1 ∷ 2 ∷ 3 ∷ []) 6 ∷ automatic pieces 0 (1 ∷ 2 ∷ []) 9 ∷ [];
  views = [];
}

-- version 1
abbrev pub first_schema : Schema
first_schema = record {
  tables = spool ∷ old_systems ∷ lines ∷ ranges ∷ old_jobs ∷ pieces ∷ old_entries ∷ [];
  indexes =
      automatic old_systems 0 (1 ∷ []) 2 ∷ automatic lines 0 (1 ∷ 2 ∷ []) 4 ∷ automatic ranges 0 (1 ∷ 2 ∷ 3 ∷ []) 6 ∷ automatic pieces 0 (1 ∷ 2 ∷ []) 9
      ∷ automatic old_entries 0 (1 ∷ []) 11 ∷ [];
  views = [];
}

-- version 2
abbrev pub second_schema : Schema
second_schema = record {
  tables = spool ∷ old_systems ∷ lines ∷ ranges ∷ old_jobs ∷ pieces ∷ old_entries ∷ success_waits ∷ [];
  indexes =
      automatic old_systems 0 (1 ∷ []) 2 ∷ automatic lines 0 (1 ∷ 2 ∷ []) 4 ∷ automatic ranges 0 (1 ∷ 2 ∷ 3 ∷ []) 6 ∷ automatic pieces 0 (1 ∷ 2 ∷ []) 9
      ∷ automatic old_entries 0 (1 ∷ []) 11 ∷ automatic success_waits 0 (1 ∷ []) 13 ∷ [];
  views = [];
}

abbrev pub old_with_links : Schema
old_with_links = record {
  tables = spool ∷ old_systems ∷ lines ∷ ranges ∷ old_jobs ∷ pieces ∷ old_entries ∷ success_waits ∷ old_links ∷ [];
  indexes =
      automatic old_systems 0 (1 ∷ []) 2 ∷ automatic lines 0 (1 ∷ 2 ∷ []) 4 ∷ automatic ranges 0 (1 ∷ 2 ∷ 3 ∷ []) 6 ∷ automatic pieces 0 (1 ∷ 2 ∷ []) 9
      ∷ automatic old_entries 0 (1 ∷ []) 11 ∷ automatic success_waits 0 (1 ∷ []) 13 ∷ automatic old_links 0 (1 ∷ []) 15 ∷ [];
  views = [];
}

-- version 3
abbrev pub third_schema : Schema
third_schema = record {
  tables = spool ∷ old_systems ∷ lines ∷ ranges ∷ old_jobs ∷ pieces ∷ old_entries ∷ success_waits ∷ old_links ∷ old_taken ∷ [];
  indexes =
      automatic old_systems 0 (1 ∷ []) 2 ∷ automatic lines 0 (1 ∷ 2 ∷ []) 4 ∷ automatic ranges 0 (1 ∷ 2 ∷ 3 ∷ []) 6 ∷ automatic pieces 0 (1 ∷ 2 ∷ []) 9
      ∷ automatic old_entries 0 (1 ∷ []) 11 ∷ automatic success_waits 0 (1 ∷ []) 13 ∷ automatic old_links 0 (1 ∷ []) 15 ∷ automatic old_taken 0 (1 ∷ 2 ∷ []) 17 ∷ [];
  views = [];
}

-- that of a version
abbrev pub schema_of : Version → Schema
schema_of First = first_schema
schema_of Second = second_schema
schema_of Third = third_schema
schema_of Fourth = spool_schema

-- its tables become those of the version that is written
abbrev pub IsEarlierVersion : Version → Type 0
IsEarlierVersion First = ⊤
IsEarlierVersion Second = ⊤
IsEarlierVersion Third = ⊤
IsEarlierVersion Fourth = ⊥
