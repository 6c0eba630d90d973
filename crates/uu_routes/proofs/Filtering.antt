-- One more element of what a filter keeps.
use Rattle.std.proofs.Common.{◌≡◌, ℕ, zero, suc, ◌+◌, ◌<◌, List, [], ◌∷◌, ◌++◌, length, get_or, take, Option, Some, None, refl, sym, ap, ◌∙◌, append_assoc, arith}
use Rattle.std.specs.List.{filter_map, cons_option}
use Rattle.std.specs.Option.{option_to_list}

pub filter_map_suc : {X Y : Type 0} → (f : X → Option Y) (xs : List X) (i : ℕ) (d : X) → i < length xs → filter_map f (take (suc i) xs) ≡ filter_map f (take i xs) ++ option_to_list (f (get_or xs i d))
filter_map_suc f [] i d h = absurd (omega arith)
filter_map_suc f (x ∷ xs) zero d h = one (f x)
  where
    one : {Y : Type 0} → (o : Option Y) → cons_option o [] ≡ [] ++ option_to_list o
    one None = refl
    one (Some y) = refl
filter_map_suc f (x ∷ xs) (suc i) d h = ap (cons_option (f x)) (filter_map_suc f xs i d (omega arith)) ∙ more (f x) (filter_map f (take i xs)) (option_to_list (f (get_or xs i d)))
  where
    more : {Y : Type 0} → (o : Option Y) (ys zs : List Y) → cons_option o (ys ++ zs) ≡ cons_option o ys ++ zs
    more None ys zs = refl
    more (Some y) ys zs = refl

pub filter_map_more : {X Y : Type 0} → (f : X → Option Y) (xs : List X) (i : ℕ) (d : X) → i < length xs → filter_map f (take (i + 1) xs) ≡ filter_map f (take i xs) ++ option_to_list (f (get_or xs i d))
filter_map_more f xs i d h = let e : i + 1 ≡ suc i = omega arith in ap (λ n. filter_map f (take n xs)) e ∙ filter_map_suc f xs i d h

-- a loop's step: what is kept of the next element goes to the end
pub filter_map_step : {X Y : Type 0} → (f : X → Option Y) (xs : List X) (i : ℕ) (item : X) (before found new : List Y) (o : Option Y) → i < length xs → item ≡ get_or xs i item → found ≡ before ++ filter_map f (take i xs) → new ≡ found ++ option_to_list o → o ≡ f item → new ≡ before ++ filter_map f (take (i + 1) xs)
filter_map_step f xs i item before found new o h at was is by =
    is ∙ (ap (λ z. z ++ option_to_list o) was ∙ (append_assoc before (filter_map f (take i xs)) (option_to_list o)
    ∙ ap (λ z. before ++ z) (ap (λ p. filter_map f (take i xs) ++ option_to_list p) (by ∙ ap f at) ∙ sym (filter_map_more f xs i item h))))
