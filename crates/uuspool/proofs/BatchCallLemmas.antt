-- The words that ask for a batch, read one by one.
use Rattle.std.proofs.Common.{◌≡◌, ◌∙◌, ◌∷◌, ◌≤◌, ◌<◌, ℕ, Bool, true, List, [], length, arith, ap, nat_eq, slice_index_or, sym}
use Rattle.std.specs.Cmp.Lexicographic.{pointwise, bytes_decides}

pub one_item : {X : Type 0} (xs : List X) (x : X) → 1 ≤ length xs → length xs < 2 → x ≡ slice_index_or xs 0 x → xs ≡ x ∷ []
one_item [] x low high is = absurd (omega (arith, low))
one_item (a ∷ []) x low high is = ap (λ a. a ∷ []) (sym is)
one_item (a ∷ b ∷ xs) x low high is = absurd (omega (arith, high))

pub three_items : {X : Type 0} (xs : List X) (x y z : X) → 3 ≤ length xs → length xs < 4
    → x ≡ slice_index_or xs 0 x → y ≡ slice_index_or xs 1 y → z ≡ slice_index_or xs 2 z → xs ≡ x ∷ y ∷ z ∷ []
three_items [] x y z low high first second third = absurd (omega (arith, low))
three_items (a ∷ []) x y z low high first second third = absurd (omega (arith, low))
three_items (a ∷ b ∷ []) x y z low high first second third = absurd (omega (arith, low))
three_items (a ∷ b ∷ c ∷ []) x y z low high first second third =
    ap (λ a. a ∷ b ∷ c ∷ []) (sym first) ∙ ap (λ b. x ∷ b ∷ c ∷ []) (sym second) ∙ ap (λ c. x ∷ y ∷ c ∷ []) (sym third)
three_items (a ∷ b ∷ c ∷ d ∷ xs) x y z low high first second third = absurd (omega (arith, high))

-- what a text is that compares equal
pub read_as : (text bytes wanted : List ℕ) (equal : Bool) → text ≡ bytes → equal ≡ pointwise nat_eq text wanted → equal ≡ true → bytes ≡ wanted
read_as text bytes wanted equal is compared told = sym is ∙ (bytes_decides text wanted).0 (sym compared ∙ told)
