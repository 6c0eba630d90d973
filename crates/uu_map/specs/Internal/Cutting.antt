-- How the code cuts a text into words: from the front.
use Rattle.std.specs.Prelude.{ℕ, List, [], ◌∷◌, if◌then◌else◌}
use Rattle.std.specs.List.{prefix_len}
use Rattle.std.specs.Char.{is_ascii_digit, is_ascii_uppercase}

-- the length of the word that a text begins with
abbrev pub word_len : List ℕ → ℕ
word_len [] = 0
word_len (b ∷ bs) = if is_ascii_digit b then prefix_len is_ascii_digit (b ∷ bs) else (if is_ascii_uppercase b then prefix_len is_ascii_uppercase (b ∷ bs) else 1)
