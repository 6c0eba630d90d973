-- The texts of the questions on every row of a table. (This project's choice.)
use Rattle.std.specs.Prelude.{List, ℕ, codes}

-- ---- rows in the order of their keys

abbrev pub heads_text : List ℕ
heads_text = codes "SELECT number, system, rank, user, kind, queued, first_word, second_word, size FROM jobs ORDER BY number"

-- the number of bytes of each body
abbrev pub sizes_text : List ℕ
sizes_text = codes "SELECT job, length(bytes) FROM bodies ORDER BY job"

abbrev pub bodies_text : List ℕ
bodies_text = codes "SELECT job, bytes FROM bodies ORDER BY job"

abbrev pub pieces_text : List ℕ
pieces_text = codes "SELECT job, place, bytes FROM pieces ORDER BY job, place"

abbrev pub entries_text : List ℕ
entries_text = codes "SELECT host, bytes FROM entries ORDER BY host"

-- ---- the rowids of the tables

abbrev pub system_rowids_text : List ℕ
system_rowids_text = codes "SELECT rowid FROM systems ORDER BY rowid"

abbrev pub line_rowids_text : List ℕ
line_rowids_text = codes "SELECT rowid FROM lines ORDER BY rowid"

abbrev pub range_rowids_text : List ℕ
range_rowids_text = codes "SELECT rowid FROM ranges ORDER BY rowid"

abbrev pub piece_rowids_text : List ℕ
piece_rowids_text = codes "SELECT rowid FROM pieces ORDER BY rowid"

abbrev pub entry_rowids_text : List ℕ
entry_rowids_text = codes "SELECT rowid FROM entries ORDER BY rowid"

abbrev pub wait_rowids_text : List ℕ
wait_rowids_text = codes "SELECT rowid FROM success_waits ORDER BY rowid"

abbrev pub link_rowids_text : List ℕ
link_rowids_text = codes "SELECT rowid FROM links ORDER BY rowid"

abbrev pub taken_rowids_text : List ℕ
taken_rowids_text = codes "SELECT rowid FROM taken ORDER BY rowid"
