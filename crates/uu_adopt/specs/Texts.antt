-- The texts of the questions on the one row of the table `spool`. (This project's choice.)
use Rattle.std.specs.Prelude.{List, ℕ, codes}

abbrev pub version_text : List ℕ
version_text = codes "SELECT version FROM spool WHERE id = 1"

abbrev pub spool_text : List ℕ
spool_text = codes "SELECT id, version, next FROM spool"
