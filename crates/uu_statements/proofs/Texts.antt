-- The texts of the statements that write. (This project's choice.)
use Rattle.std.specs.Prelude.{codes, List, ℕ}

abbrev pub insert_system : List ℕ
insert_system = codes "INSERT INTO systems (name, definition, last, failures, wait, outcome, why) VALUES (?1, ?2, 0, 0, 0, 0, NULL)"

abbrev pub update_definition : List ℕ
update_definition = codes "UPDATE systems SET definition = ?2 WHERE name = ?1"

abbrev pub set_calls : List ℕ
set_calls = codes "UPDATE systems SET last = ?2, failures = ?3, wait = ?4, outcome = ?5, why = ?6 WHERE name = ?1"

abbrev pub delete_system : List ℕ
delete_system = codes "DELETE FROM systems WHERE name = ?1"

abbrev pub insert_job : List ℕ
insert_job = codes "INSERT INTO jobs (number, system, rank, user, kind, queued, first_word, second_word, size) VALUES (?1, ?2, ?3, ?4, ?5, ?6, ?7, ?8, ?9)"

abbrev pub set_rank : List ℕ
set_rank = codes "UPDATE jobs SET rank = ?2 WHERE number = ?1"

abbrev pub set_second : List ℕ
set_second = codes "UPDATE jobs SET queued = ?2 WHERE number = ?1"

abbrev pub delete_job : List ℕ
delete_job = codes "DELETE FROM jobs WHERE number = ?1"

abbrev pub insert_body : List ℕ
insert_body = codes "INSERT INTO bodies (job, bytes) VALUES (?1, ?2)"

abbrev pub delete_body : List ℕ
delete_body = codes "DELETE FROM bodies WHERE job = ?1"

abbrev pub insert_entry : List ℕ
insert_entry = codes "INSERT INTO entries (host, bytes) VALUES (?1, ?2)"

abbrev pub delete_entry : List ℕ
delete_entry = codes "DELETE FROM entries WHERE host = ?1"

abbrev pub insert_link : List ℕ
insert_link = codes "INSERT INTO links (system, below) VALUES (?1, ?2)"

abbrev pub delete_link : List ℕ
delete_link = codes "DELETE FROM links WHERE system = ?1"

abbrev pub insert_taken : List ℕ
insert_taken = codes "INSERT INTO taken (system, number, mark, job) VALUES (?1, ?2, ?3, ?4)"

abbrev pub delete_taken : List ℕ
delete_taken = codes "DELETE FROM taken WHERE system = ?1"

abbrev pub forget_taken : List ℕ
forget_taken = codes "DELETE FROM taken WHERE system = ?1 AND number < ?2"

abbrev pub set_number : List ℕ
set_number = codes "UPDATE spool SET next = ?1"
