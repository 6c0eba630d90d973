-- A list of what is made of each item grows by what is made of the next.
use Rattle.std.proofs.Common.{◌≡◌, ◌∙◌, ap, refl, ℕ, ◌+◌, ◌<◌, List, [], ◌∷◌, ◌++◌, length, map, sym, take, get_or}
use Rattle.std.proofs.lemmas.List.{map-append}
use Rattle.uu_names.proofs.Basics.{take_with}

pub items_grow : {X Y : Type 0} (f : X → Y) (xs : List X) (i : ℕ) (x : X) (before after : List Y) (y : Y)
    → i < length xs → x ≡ get_or xs i x → before ≡ map f (take i xs) → y ≡ f x → after ≡ before ++ y ∷ [] → after ≡ map f (take (i + 1) xs)
items_grow f xs i x before after y inside is so_far one grown =
    grown ∙ ap (λ t. t ++ y ∷ []) so_far ∙ ap (λ z. map f (take i xs) ++ z ∷ []) one
    ∙ sym (ap (map f) (take_with xs i x inside is) ∙ map-append f (take i xs) (x ∷ []))

-- what is made of each item, and then of that
pub mapped_twice : {X Y Z : Type 0} (g : Y → Z) (f : X → Y) (xs : List X) → map g (map f xs) ≡ map (λ x. g (f x)) xs
mapped_twice g f [] = refl
mapped_twice g f (x ∷ xs) = ap (λ zs. g (f x) ∷ zs) (mapped_twice g f xs)
