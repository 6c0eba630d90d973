-- Names as they are borrowed, and as lists.
use Rattle.std.proofs.Common.{◌≡◌, List, [], ◌∷◌, Bool, map, refl, ap, ◌∙◌}
use Rattle.std.specs.Prelude.{◌||◌, ◌&&◌}
use Rattle.std.specs.List.{list_any, list_all}

any_of : {X Y : Type 0} (p : Y → Bool) (h : X → Y) (xs : List X) → list_any (λ x. p (h x)) xs ≡ list_any p (map h xs)
any_of p h [] = refl
any_of p h (x ∷ xs) = ap (λ b. p (h x) || b) (any_of p h xs)

-- each has one of these names
pub all_of : {X Y Z : Type 0} (p : Z → Y → Bool) (h : X → Y) (xs : List X) (zs : List Z) → list_all (λ z. list_any (λ x. p z (h x)) xs) zs ≡ list_all (λ z. list_any (p z) (map h xs)) zs
all_of p h xs [] = refl
all_of p h xs (z ∷ zs) = ap (λ b. b && list_all (λ z. list_any (λ x. p z (h x)) xs) zs) (any_of (p z) h xs) ∙ ap (λ b. list_any (p z) (map h xs) && b) (all_of p h xs zs)
