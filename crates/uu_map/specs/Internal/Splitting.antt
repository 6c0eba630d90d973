-- How the code cuts a map text: from left to right.
use Rattle.std.specs.Prelude.{ℕ, List, [], ◌∷◌, Option, Some, None}
use Rattle.uu_map.specs.declared.entry.EntryText.{EntryText}
use Rattle.uu_map.specs.declared.splitter.Start.{Start}

-- the entry that began at `start` and ends here
abbrev pub ended : Option Start → ℕ → List EntryText
ended None end = []
ended (Some s) end = record { line = s.line; start = s.at; end = end } ∷ []
