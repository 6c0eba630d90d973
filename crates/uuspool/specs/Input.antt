-- The input of a line of the program, which has a limit.
use Rattle.std.specs.Prelude.{◌≡◌, ℕ, ◌<◌, ◌≤◌, List, Option, IfSome, length}
use Rattle.std.specs.Io.KnownBytes.{Consumes}

-- if the bytes that the reader had left are known, `bytes` is all of them, and within the limit
abbrev pub IsWholeInput : ℕ → Option (List ℕ) → List ℕ → Type 0
IsWholeInput most left bytes = IfSome left (λ all. bytes ≡ all) × (length bytes ≤ most)

-- more bytes than the limit came
abbrev pub IsTooLarge : ℕ → Option (List ℕ) → Option (List ℕ) → Type 0
IsTooLarge most had left = (bytes : List ℕ) × Consumes had left bytes × (most < length bytes)

-- no more bytes came than the limit
abbrev pub IsWithinLimit : ℕ → Option (List ℕ) → Option (List ℕ) → Type 0
IsWithinLimit most had left = (bytes : List ℕ) × Consumes had left bytes × (length bytes ≤ most)
