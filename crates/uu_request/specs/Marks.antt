-- The mark of what is handed in, by which two attempts to hand in one job of a neighbour are
-- recognised. (The text that is marked is this project's choice.)
use Rattle.std.specs.Prelude.{ℕ, ◌&&◌, true, List, [], ◌∷◌, ◌++◌, Option, Some, None, IsTrue, unwrap_or}
use Rattle.std.specs.List.{flat_map, list_all}
use Rattle.std.specs.Option.{option_map_or}
use Rattle.uu_names.specs.Name.{is_word}
use Rattle.uu_core.specs.declared.custody.Key.{Key}
use Rattle.uu_bundle.specs.Marks.{mark_of}
use Rattle.uu_line.specs.declared.origin.Origin.{Origin}

-- the words, each after a space
abbrev pub spaced_words : List (List ℕ) → List ℕ
spaced_words words = flat_map (λ word. 32 ∷ word) words

-- The text of what is handed in: a line of the subcommand, the system, the user and the words that
-- say what the job is for, and then the input. The grade, the second, and the date and the site in
-- a message's envelope aren't in it, because they may differ in the next attempt.
abbrev pub handed_text : List ℕ → List ℕ → List ℕ → List (List ℕ) → List ℕ → List ℕ
handed_text subcommand system user words input = (subcommand ++ spaced_words (system ∷ user ∷ words)) ++ 10 ∷ input

-- The text that is marked: a line of the word for the neighbour's spool that gave the number, which
-- is empty if no word is given, and then the text of what is handed in.
abbrev pub marked_text : Option (List ℕ) → List ℕ → List ℕ
marked_text spool handed = unwrap_or spool [] ++ 10 ∷ handed

-- what a line hands in
pub record Given : Type 0 where
  pub spool : Option (List ℕ)
  pub subcommand : List ℕ
  pub system : List ℕ
  pub user : List ℕ
  pub words : List (List ℕ)
  pub input : List ℕ

abbrev pub marked_text_of : Given → List ℕ
marked_text_of given = marked_text given.spool (handed_text given.subcommand given.system given.user given.words given.input)

-- its words are valid: they have no space and no line feed
abbrev pub HasWords : Given → Type 0
HasWords given =
    IsTrue (list_all is_word (given.subcommand ∷ given.system ∷ given.user ∷ given.words) && option_map_or is_word given.spool true)

-- the key of a neighbour's job, if a line says that it hands in one with this text
abbrev pub key_of : Option Origin → List ℕ → Option Key
key_of None handed = None
key_of (Some origin) handed =
    Some (record { from = origin.from; number = origin.number; mark = mark_of (marked_text origin.spool handed) })
