-- The lines of a map text, and what they say about entries and statements (UUCP Mapping Project
-- README, on `#N` lines and comments; continued lines are this project's choice).
use Rattle.std.specs.Prelude.{ℕ, ◌+◌, Bool, true, not, ◌&&◌, ◌||◌, List, [], ◌∷◌, ◌++◌, length, take, drop, Option, Some, None, Result, Ok, Err, nat_lt, ◌==◌, codes, find, if◌then◌else◌}
use Rattle.std.specs.List.{prefix_len, before_first, take_while}
use Rattle.std.specs.Str.{byte, bytes_eq}
use Rattle.std.specs.Str.Lines.{lines}
use Rattle.uu_names.specs.Name.{is_site_name}
use Rattle.uu_map.specs.declared.fault.MapFault.{MapFault}
use Rattle.uu_map.specs.declared.fault.MapFault.TheVariants.{NoName, BadHost, TooLarge}
use Rattle.uu_map.specs.Token.{begins}
use Rattle.uu_names.specs.Text.{is_blank, space}
use Rattle.uu_map.specs.Statement.{is_comma, all_blank}

-- nothing, or a text that begins with a blank
abbrev pub ends_or_blank : List ℕ → Bool
ends_or_blank [] = true
ends_or_blank (b ∷ bs) = is_blank b

-- the line begins with `#N`, and then comes a blank or the end of the line
abbrev pub is_name_line : List ℕ → Bool
is_name_line line = bytes_eq (take 2 line) (codes "#N") && ends_or_blank (drop 2 line)

-- a byte of what a name line names
abbrev pub is_named_byte : ℕ → Bool
is_named_byte b = not (is_blank b || is_comma b)

-- what a name line names: the text after `#N` and blanks, up to a blank, a comma or the end of the
-- line
abbrev pub named_by : List ℕ → List ℕ
named_by line = take_while is_named_byte (drop (prefix_len is_blank (drop 2 line)) (drop 2 line))

-- the text of a name, as a host
abbrev pub as_host : List ℕ → Result (List ℕ) MapFault
as_host [] = Err NoName
as_host (b ∷ bs) = if is_site_name (b ∷ bs) then Ok (b ∷ bs) else Err BadHost

abbrev pub host_by : Option (List ℕ) → Result (List ℕ) MapFault
host_by None = Err NoName
host_by (Some line) = as_host (named_by line)

-- the most bytes of an entry (this project's choice)
abbrev pub most_entry : ℕ
most_entry = 65536

-- the host of an entry of at most 65,536 bytes: its first name line names it
abbrev pub host_of : List ℕ → Result (List ℕ) MapFault
host_of text = if nat_lt most_entry (length text) then Err TooLarge else host_by (find is_name_line (lines text))

-- a text with the number of the line on which it begins
pub record Numbered : Type 0 where
  pub line : ℕ
  pub text : List ℕ

-- a line up to its comment
abbrev pub before_comment : List ℕ → List ℕ
before_comment line = before_first (λ b. b == byte "#") line

-- the lines that say something, without their comments, and numbered from n on
abbrev pub content : ℕ → List (List ℕ) → List Numbered
content n [] = []
content n (line ∷ lines) = if all_blank (before_comment line) then content (n + 1) lines else record { line = n; text = before_comment line } ∷ content (n + 1) lines

-- two texts joined by a space
abbrev pub joined : Numbered → Numbered → Numbered
joined a b = record { line = a.line; text = a.text ++ space ∷ b.text }

abbrev pub onto_statement : Numbered → List Numbered → List Numbered
onto_statement a [] = a ∷ []
onto_statement a (s ∷ ss) = joined a s ∷ ss

-- the statements of such lines: a line that begins with a blank continues the one before it
abbrev pub statements : List Numbered → List Numbered
statements [] = []
statements (a ∷ []) = a ∷ []
statements (a ∷ b ∷ more) = if begins is_blank b.text then onto_statement a (statements (b ∷ more)) else a ∷ statements (b ∷ more)

-- the statements of an entry
abbrev pub statements_of : List ℕ → List Numbered
statements_of text = statements (content 1 (lines text))
