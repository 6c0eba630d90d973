-- The letters and digits of grades are ASCII.
use Rattle.std.proofs.Common.{◌≡◌, ℕ, zero, suc, ◌<◌, Bool, true, nat_lt, List, [], ◌∷◌, Some, arith, refl, slice_get}
use Rattle.std.specs.List.{list_all}
use Rattle.uu_names.specs.Grade.{grade_bytes}

-- what every element of a list passes, the one at a place passes
pub passes_at : (p : ℕ → Bool) (xs : List ℕ) (i b : ℕ) → list_all p xs ≡ true → slice_get xs i ≡ Some b → p b ≡ true
passes_at p [] i b all at = cc
passes_at p (x ∷ xs) zero b all at = grind arith
passes_at p (x ∷ xs) (suc i) b all at = grind (arith, passes_at p xs i b)

pub letter_below : (rank b : ℕ) → slice_get grade_bytes rank ≡ Some b → b < 128
letter_below rank b at = let passed = passes_at (λ x. nat_lt x 128) grade_bytes rank b refl at in grind arith
