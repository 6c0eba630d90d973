-- The lines of a sys file and their words (Taylor UUCP 1.07 manual, "Configuration File Overview";
-- that lines are joined before comments are cut is this project's choice).
use Rattle.std.specs.Prelude.{ℕ, ◌+◌, ◌-◌, Bool, ◌&&◌, nat_lt, ◌==◌, if◌then◌else◌, List, [], ◌∷◌, ◌++◌, length, take, slice_index, filter, Option, None, Some}
use Rattle.std.specs.List.{slice_split}
use Rattle.std.specs.Str.{byte}
use Rattle.uu_names.specs.Text.{is_blank}

-- a line with its number
pub record Numbered : Type 0 where
  pub number : ℕ
  pub line : List ℕ

-- a line that ends with a backslash is joined with the next
abbrev pub is_continued : List ℕ → Bool
is_continued line = slice_index line (length line - 1) == byte "\\"

-- the line without that backslash
abbrev pub without_last : List ℕ → List ℕ
without_last line = take (length line - 1) line

-- what is kept of a line that is joined
abbrev pub kept_part : List ℕ → List ℕ
kept_part line = if is_continued line then without_last line else line

-- a first part, and what it is joined with; the whole has the number of its first line
abbrev pub joined_onto : ℕ → List ℕ → List Numbered → List Numbered
joined_onto number front [] = record { number = number; line = front } ∷ []
joined_onto number front (next ∷ more) = record { number = number; line = front ++ next.line } ∷ more

-- lines joined, the first with this number; a last line has nothing to be joined with
unfoldable pub joined : ℕ → List (List ℕ) → List Numbered
joined number [] = []
joined number (line ∷ more) =
    if is_continued line then joined_onto number (without_last line) (joined (number + 1) more)
    else record { number = number; line = line } ∷ joined (number + 1) more

-- The line up to a `#` that begins a comment. A `#` with a backslash directly before it doesn't
-- begin one, and the backslash is dropped.
abbrev pub uncommented : List ℕ → List ℕ
uncommented [] = []
uncommented (letter ∷ []) = if letter == byte "#" then [] else letter ∷ []
uncommented (letter ∷ next ∷ more) =
    if letter == byte "#" then []
    else (if letter == byte "\\" && next == byte "#" then next ∷ uncommented more else letter ∷ uncommented (next ∷ more))

-- the words of a text are separated by blanks
unfoldable pub words_of : List ℕ → List (List ℕ)
words_of text = filter (λ word. nat_lt 0 (length word)) (slice_split is_blank text)

-- the only word
abbrev pub one_word : List (List ℕ) → Option (List ℕ)
one_word [] = None
one_word (word ∷ []) = Some word
one_word (word ∷ second ∷ more) = None

-- a word, and perhaps a second one
abbrev pub one_or_two : List (List ℕ) → Option (List ℕ × Option (List ℕ))
one_or_two [] = None
one_or_two (word ∷ []) = Some (word, None)
one_or_two (word ∷ second ∷ []) = Some (word, Some second)
one_or_two (word ∷ second ∷ third ∷ more) = None
