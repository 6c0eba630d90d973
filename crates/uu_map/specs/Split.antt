-- How a map text is cut into entries (UUCP Mapping Project README, on `#N` lines).
use Rattle.std.specs.Prelude.{ℕ, ◌+◌, ◌-◌, Bool, false, ◌&&◌, ◌||◌, List, [], ◌∷◌, length, take, drop, ◌==◌, filter, count_by, slice_index}
use Rattle.std.specs.List.{range_with_len}
use Rattle.std.specs.Str.Lines.{lines}
use Rattle.uu_names.specs.Text.{line_feed}
use Rattle.uu_map.specs.declared.entry.EntryText.{EntryText}
use Rattle.uu_map.specs.Text.{is_name_line}

abbrev pub is_newline : ℕ → Bool
is_newline b = b == line_feed

-- the first of these lines is a name line
abbrev pub first_names : List (List ℕ) → Bool
first_names [] = false
first_names (line ∷ more) = is_name_line line

-- the text begins with a name line
abbrev pub begins_entry : List ℕ → Bool
begins_entry text = first_names (lines text)

-- a line begins at this offset
abbrev pub begins_line : List ℕ → ℕ → Bool
begins_line text at = at == 0 || is_newline (slice_index text (at - 1))

-- the offsets at which entries begin
abbrev pub entry_starts : List ℕ → List ℕ
entry_starts text = filter (λ at. begins_line text at && begins_entry (drop at text)) (range_with_len 0 (length text))

-- the line of an offset, counted from 1
abbrev pub line_of : List ℕ → ℕ → ℕ
line_of text at = 1 + count_by is_newline (take at text)

-- each entry goes up to the next one, the last up to the end of the text
abbrev pub entries_from : List ℕ → List ℕ → List EntryText
entries_from text [] = []
entries_from text (start ∷ []) = record { line = line_of text start; start = start; end = length text } ∷ []
entries_from text (start ∷ next ∷ more) = record { line = line_of text start; start = start; end = next } ∷ entries_from text (next ∷ more)

-- the entries of a map text
abbrev pub entries_of : List ℕ → List EntryText
entries_of text = entries_from text (entry_starts text)
