-- Which numbers are marks of jobs that neighbours hand on (this project's choice).
use Rattle.std.specs.Prelude.{ℕ}

-- marks are below this number: they have 63 bits, as many as SQLite's numbers have without their
-- sign
abbrev pub marks_end : ℕ
marks_end = 9223372036854775808
