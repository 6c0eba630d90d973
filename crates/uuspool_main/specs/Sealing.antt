-- What the program makes of the bundles of neighbours with keys (this project's choice).
use Rattle.std.specs.Prelude.{◌≡◌, ℕ, List, Option, Some, None}
use Rattle.uu_seal.specs.Opening.{IsOpened}
use Rattle.uu_seal.specs.Texts.{sealed}

-- What is given to a line of its input. With keys it is what is opened with one of them, and
-- otherwise the input.
abbrev pub IsGivenOf : Option (List (List ℕ)) → List ℕ → List ℕ → Type 0
IsGivenOf None input given = given ≡ input
IsGivenOf (Some keys) input given = IsOpened keys input given

-- What is printed of an answer. With a key it is sealed, and otherwise it is the answer.
abbrev pub IsPrintedOf : Option (List ℕ) → List ℕ → List ℕ → Type 0
IsPrintedOf None answer printed = printed ≡ answer
IsPrintedOf (Some key) answer printed = printed ≡ sealed key answer
