-- The texts of the questions. (This project's choice.)
use Rattle.std.specs.Prelude.{List, ℕ, codes}

-- ---- before a command

abbrev pub next_text : List ℕ
next_text = codes "SELECT next FROM spool WHERE id = 1"

abbrev pub known_text : List ℕ
known_text = codes "SELECT name FROM systems WHERE name = ?1"

abbrev pub waiting_text : List ℕ
waiting_text = codes "SELECT number FROM jobs WHERE system = ?1 LIMIT 1"

abbrev pub head_text : List ℕ
head_text = codes "SELECT number, system, rank, user, kind, queued, first_word, second_word, size FROM jobs WHERE number = ?1 ORDER BY number"

abbrev pub system_text : List ℕ
system_text = codes "SELECT name, definition, last, failures, wait, outcome, why FROM systems WHERE name = ?1 ORDER BY name"

abbrev pub link_text : List ℕ
link_text = codes "SELECT system, below FROM links WHERE system = ?1 ORDER BY system"

abbrev pub taken_text : List ℕ
taken_text = codes "SELECT system, number, mark, job FROM taken WHERE system = ?1 AND number = ?2 ORDER BY system, number"

-- ---- what users ask

abbrev pub all_jobs_text : List ℕ
all_jobs_text = codes "SELECT number, system, rank, user, kind, queued, first_word, second_word, size FROM jobs ORDER BY rank, number"

abbrev pub jobs_text : List ℕ
jobs_text = codes "SELECT number, system, rank, user, kind, queued, first_word, second_word, size FROM jobs WHERE (?1 IS NULL OR system = ?1) AND (?2 IS NULL OR user = ?2) ORDER BY rank, number"

abbrev pub body_text : List ℕ
body_text = codes "SELECT job, bytes FROM bodies WHERE job = ?1 ORDER BY job"

abbrev pub entry_text : List ℕ
entry_text = codes "SELECT host, bytes FROM entries WHERE host = ?1 ORDER BY host"

abbrev pub entries_text : List ℕ
entries_text = codes "SELECT host, bytes FROM entries ORDER BY host"

abbrev pub taken_from_text : List ℕ
taken_from_text = codes "SELECT system, number, mark, job FROM taken WHERE system = ?1 ORDER BY system, number"

-- ---- for which job each system is called

abbrev pub due_jobs_text : List ℕ
due_jobs_text = codes "SELECT system, rank, number FROM jobs ORDER BY rank, number"
