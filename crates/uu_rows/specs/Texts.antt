-- The texts of the questions on every row of the systems and their links, in the order of their keys,
-- and of tables of earlier versions. (This project's choice.)
use Rattle.std.specs.Prelude.{List, ℕ, codes}

abbrev pub systems_text : List ℕ
systems_text = codes "SELECT name, definition, last, failures, wait, outcome, why FROM systems ORDER BY name"

abbrev pub links_text : List ℕ
links_text = codes "SELECT system, below FROM links ORDER BY system"

abbrev pub taken_text : List ℕ
taken_text = codes "SELECT system, number, mark, job FROM taken ORDER BY system, number"

-- ---- in earlier versions

abbrev pub bare_systems_text : List ℕ
bare_systems_text = codes "SELECT name, max_retries, last, failures, wait, outcome, why FROM systems ORDER BY name"

abbrev pub lines_text : List ℕ
lines_text = codes "SELECT system, place, rank, retry FROM lines ORDER BY system, place"

abbrev pub ranges_text : List ℕ
ranges_text = codes "SELECT system, place, low, high FROM ranges ORDER BY system, place, low"

abbrev pub waits_text : List ℕ
waits_text = codes "SELECT system, wait FROM success_waits ORDER BY system"
