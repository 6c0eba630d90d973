-- The texts of the statements that drop and make the tables. (This project's choice.)
use Rattle.std.specs.Prelude.{codes, List, ℕ}

abbrev pub create_spool : List ℕ
create_spool = codes "CREATE TABLE spool (id INTEGER PRIMARY KEY, version INTEGER NOT NULL, next INTEGER NOT NULL) STRICT"

abbrev pub create_systems : List ℕ
create_systems = codes "CREATE TABLE systems (name TEXT NOT NULL PRIMARY KEY, definition BLOB NOT NULL, last INTEGER NOT NULL, failures INTEGER NOT NULL, wait INTEGER NOT NULL, outcome INTEGER NOT NULL, why TEXT) STRICT"

abbrev pub create_jobs : List ℕ
create_jobs = codes "CREATE TABLE jobs (number INTEGER PRIMARY KEY, system TEXT NOT NULL, rank INTEGER NOT NULL, user TEXT NOT NULL, kind INTEGER NOT NULL, queued INTEGER NOT NULL, first_word TEXT NOT NULL, second_word TEXT NOT NULL, size INTEGER NOT NULL) STRICT"

abbrev pub create_bodies : List ℕ
create_bodies = codes "CREATE TABLE bodies (job INTEGER PRIMARY KEY, bytes BLOB NOT NULL) STRICT"

abbrev pub create_entries : List ℕ
create_entries = codes "CREATE TABLE entries (host TEXT NOT NULL PRIMARY KEY, bytes BLOB NOT NULL) STRICT"

abbrev pub create_links : List ℕ
create_links = codes "CREATE TABLE links (system TEXT NOT NULL PRIMARY KEY, below INTEGER NOT NULL) STRICT"

abbrev pub create_taken : List ℕ
create_taken = codes "CREATE TABLE taken (system TEXT NOT NULL, number INTEGER NOT NULL, mark INTEGER NOT NULL, job INTEGER NOT NULL, PRIMARY KEY (system, number)) STRICT"

abbrev pub insert_spool : List ℕ
insert_spool = codes "INSERT INTO spool (id, version, next) VALUES (1, 4, 1)"

-- ---- the tables of earlier versions

abbrev pub drop_taken : List ℕ
drop_taken = codes "DROP TABLE taken"

abbrev pub drop_links : List ℕ
drop_links = codes "DROP TABLE links"

abbrev pub drop_success_waits : List ℕ
drop_success_waits = codes "DROP TABLE success_waits"

abbrev pub drop_entries : List ℕ
drop_entries = codes "DROP TABLE entries"

abbrev pub drop_pieces : List ℕ
drop_pieces = codes "DROP TABLE pieces"

abbrev pub drop_jobs : List ℕ
drop_jobs = codes "DROP TABLE jobs"

abbrev pub drop_ranges : List ℕ
drop_ranges = codes "DROP TABLE ranges"

abbrev pub drop_lines : List ℕ
drop_lines = codes "DROP TABLE lines"

abbrev pub drop_systems : List ℕ
drop_systems = codes "DROP TABLE systems"

abbrev pub drop_spool : List ℕ
drop_spool = codes "DROP TABLE spool"
