-- Texts from outside: what sys files, map texts and messages have in common (this project's
-- choice).
use Rattle.std.specs.Prelude.{ℕ, Bool, ◌||◌, ◌==◌}

abbrev pub space : ℕ
space = 32

abbrev pub tab : ℕ
tab = 9

-- a line ends with a line feed; a carriage return directly before it belongs to the line's end
abbrev pub line_feed : ℕ
line_feed = 10

-- a blank is a space or a tab
abbrev pub is_blank : ℕ → Bool
is_blank b = b == space || b == tab

-- the most bytes of a sys file or a map text
abbrev pub most_text : ℕ
most_text = 4194304
