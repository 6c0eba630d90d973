-- Places of lists.
use Rattle.std.proofs.Common.{◌≡◌, ◌∙◌, ℕ, zero, suc, ◌+◌, ◌<◌, Bool, true, false, cond, List, [], ◌∷◌, ◌++◌, ap, arith, drop, filter, get_or, length, map, refl, sym, take}
use Rattle.std.proofs.lemmas.List.{map-append, take_more}
use Rattle.std.proofs.lemmas.List.Elements.{filter-append}

-- the element at a place, and those after it
pub at_place : {X : Type 0} (xs : List X) (i : ℕ) → i < length xs → (x : X) × (drop i xs ≡ x ∷ drop (suc i) xs) × ((d : X) → get_or xs i d ≡ x)
at_place [] i within = absurd (omega (arith, within))
at_place (x ∷ xs) zero within = (x, refl, λ d. refl)
at_place (x ∷ xs) (suc i) within = (let found = at_place xs i (omega (arith, within)) in (found.0, found.1, found.2))

-- one more of those that pass
pub kept_more : {X : Type 0} (p : X → Bool) (xs : List X) (i : ℕ) (x : X) → i < length xs → x ≡ get_or xs i x
    → filter p (take i xs) ++ cond (p x) (x ∷ []) [] ≡ filter p (take (i + 1) xs)
kept_more p xs i x inside is =
    sym (ap (filter p) (take_more xs i x inside ∙ ap (λ y. take i xs ++ y ∷ []) (sym is)) ∙ filter-append p (take i xs) (x ∷ []))

-- and what is made of it
pub mapped_more : {X Y : Type 0} (f : X → Y) (p : X → Bool) (xs : List X) (i : ℕ) (x : X) → i < length xs → x ≡ get_or xs i x
    → map f (filter p (take i xs)) ++ cond (p x) (f x ∷ []) [] ≡ map f (filter p (take (i + 1) xs))
mapped_more f p xs i x inside is =
    ap (λ l. map f (filter p (take i xs)) ++ l) (go (p x))
    ∙ sym (map-append f (filter p (take i xs)) (cond (p x) (x ∷ []) []))
    ∙ ap (map f) (kept_more p xs i x inside is)
  where
    go : (b : Bool) → cond b (f x ∷ []) [] ≡ map f (cond b (x ∷ []) [])
    go true = refl
    go false = refl
