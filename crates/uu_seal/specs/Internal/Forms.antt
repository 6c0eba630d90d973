-- What may have been found.
use Rattle.std.specs.Prelude.{◌≡◌, ℕ, List, Option, Some, None}

-- these bytes, and not none
abbrev pub IsSomeOf : List ℕ → Option (List ℕ) → Type 0
IsSomeOf bytes None = ⊥
IsSomeOf bytes (Some found) = found ≡ bytes
