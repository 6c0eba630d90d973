-- Columns that are there.
use Rattle.std.proofs.Common.{◌≡◌, inl, inr, ℕ, List, [], ◌∷◌, length, refl, arith, Option, Some, None, ◌<◌, ◌⊎◌}
use Rattle.std.specs.Prelude.{IfSome, ◌^◌, pos, IsUtf8, IsAscii}
use Rattle.std.proofs.lemmas.Str.{IsUtf8-from_ascii}
use Rattle.sqlite.specs.declared.types.Value.{Value}
use Rattle.sqlite.specs.declared.types.Value.TheVariants.{Null, Int, Text}
use Rattle.sqlite.specs.Values.{or_null}
use Rattle.sqlite.specs.Order.{Row, column}
use Rattle.uu_rows.specs.Values.{number_cell}

-- a number, or NULL, is readable as one
pub number_readable : (o : Option ℕ) (v : Value) → IfSome o (λ n. n < 2 ^ 32) → v ≡ or_null number_cell o → (v ≡ Null) ⊎ ((n : ℕ) × (v ≡ Int (pos n)) × (n < 2 ^ 32))
number_readable None v fits is = inl is
number_readable (Some n) v fits is = inr (n, is, fits)

pub text_readable : (o : Option (List ℕ)) (v : Value) → IfSome o IsAscii → v ≡ or_null Text o → (v ≡ Null) ⊎ ((t : List ℕ) × (v ≡ Text t) × IsUtf8 t)
text_readable None v ascii is = inl is
text_readable (Some t) v ascii is = inr (t, is, IsUtf8-from_ascii t ascii)

-- rows of so many columns

pub seven : (r : Row) → length r ≡ 7 → r ≡ column r 0 ∷ column r 1 ∷ column r 2 ∷ column r 3 ∷ column r 4 ∷ column r 5 ∷ column r 6 ∷ []
seven [] w = absurd (omega (arith, w))
seven (a ∷ []) w = absurd (omega (arith, w))
seven (a ∷ b ∷ []) w = absurd (omega (arith, w))
seven (a ∷ b ∷ c ∷ []) w = absurd (omega (arith, w))
seven (a ∷ b ∷ c ∷ d ∷ []) w = absurd (omega (arith, w))
seven (a ∷ b ∷ c ∷ d ∷ e ∷ []) w = absurd (omega (arith, w))
seven (a ∷ b ∷ c ∷ d ∷ e ∷ f ∷ []) w = absurd (omega (arith, w))
seven (a ∷ b ∷ c ∷ d ∷ e ∷ f ∷ g ∷ []) w = refl
seven (a ∷ b ∷ c ∷ d ∷ e ∷ f ∷ g ∷ h ∷ r) w = absurd (omega (arith, w))

pub nine : (r : Row) → length r ≡ 9 → r ≡ column r 0 ∷ column r 1 ∷ column r 2 ∷ column r 3 ∷ column r 4 ∷ column r 5 ∷ column r 6 ∷ column r 7 ∷ column r 8 ∷ []
nine [] w = absurd (omega (arith, w))
nine (a ∷ []) w = absurd (omega (arith, w))
nine (a ∷ b ∷ []) w = absurd (omega (arith, w))
nine (a ∷ b ∷ c ∷ []) w = absurd (omega (arith, w))
nine (a ∷ b ∷ c ∷ d ∷ []) w = absurd (omega (arith, w))
nine (a ∷ b ∷ c ∷ d ∷ e ∷ []) w = absurd (omega (arith, w))
nine (a ∷ b ∷ c ∷ d ∷ e ∷ f ∷ []) w = absurd (omega (arith, w))
nine (a ∷ b ∷ c ∷ d ∷ e ∷ f ∷ g ∷ []) w = absurd (omega (arith, w))
nine (a ∷ b ∷ c ∷ d ∷ e ∷ f ∷ g ∷ h ∷ []) w = absurd (omega (arith, w))
nine (a ∷ b ∷ c ∷ d ∷ e ∷ f ∷ g ∷ h ∷ i ∷ []) w = refl
nine (a ∷ b ∷ c ∷ d ∷ e ∷ f ∷ g ∷ h ∷ i ∷ j ∷ r) w = absurd (omega (arith, w))
