-- Lists in order, by recursion and by place.
use Rattle.std.proofs.Common.{◌≡◌, Bool, true, List, [], ◌∷◌, ◌++◌, map, AllPairs, refl, arith}
use Rattle.std.specs.List.{AllByRecursion, flat_map}
use Rattle.std.proofs.lemmas.Bool.{and_parts}
use Rattle.std.proofs.lemmas.List.Elements.{All-from_recursion}
use Rattle.std.proofs.lemmas.List.Kept.{AllPairs-cons}
use Rattle.uu_names.proofs.Basics.{all_weaker, all_mapped, all_flat, all_append, AllPairsByRecursion}
use Rattle.uu_check.specs.Walk.{rises, rises_from}

pub both : {X : Type 0} (P Q R : X → Type 0) → ((x : X) → P x → Q x → R x) → (xs : List X) → AllByRecursion P xs → AllByRecursion Q xs → AllByRecursion R xs
both P Q R step [] h k = tt
both P Q R step (x ∷ xs) h k = (step x h.0 k.0, both P Q R step xs h.1 k.1)

pub unmapped_all : {X Y : Type 0} (P : Y → Type 0) (f : X → Y) (xs : List X) → AllByRecursion P (map f xs) → AllByRecursion (λ x. P (f x)) xs
unmapped_all P f [] h = tt
unmapped_all P f (x ∷ xs) h = (h.0, unmapped_all P f xs h.1)

pub split_all : {X : Type 0} (P : X → Type 0) (xs ys : List X) → AllByRecursion P (xs ++ ys) → AllByRecursion P xs × AllByRecursion P ys
split_all P [] ys h = (tt, h)
split_all P (x ∷ xs) ys h = let more = split_all P xs ys h.1 in ((h.0, more.0), more.1)

-- what holds of each in each list
pub unflat : {X C : Type 0} (P : C → Type 0) (f : X → List C) (xs : List X) → AllByRecursion P (flat_map f xs) → AllByRecursion (λ x. AllByRecursion P (f x)) xs
unflat P f [] h = tt
unflat P f (x ∷ xs) h = let parts = split_all P (f x) (flat_map f xs) h in (parts.0, unflat P f xs parts.1)

-- ---- pairs

module _ {X : Type 0} (R : X → X → Type 0) where
  pairs_nil : AllPairs R []
  pairs_nil i j d below within = absurd (omega (arith, within))

  pub pairs_by_place : (xs : List X) → AllPairsByRecursion R xs → AllPairs R xs
  pairs_by_place [] h = pairs_nil
  pairs_by_place (x ∷ xs) h = AllPairs-cons R x xs (All-from_recursion (R x) xs h.0) (pairs_by_place xs h.1)

pub weaker_pairs : {X : Type 0} (R S : X → X → Type 0) → ((x y : X) → R x y → S x y) → (xs : List X) → AllPairsByRecursion R xs → AllPairsByRecursion S xs
weaker_pairs R S step [] h = tt
weaker_pairs R S step (x ∷ xs) h = (all_weaker (R x) (S x) (step x) xs h.0, weaker_pairs R S step xs h.1)

append_pairs : {X : Type 0} (R : X → X → Type 0) (xs ys : List X) → AllPairsByRecursion R xs → AllPairsByRecursion R ys → AllByRecursion (λ x. AllByRecursion (R x) ys) xs → AllPairsByRecursion R (xs ++ ys)
append_pairs R [] ys h k across = k
append_pairs R (x ∷ xs) ys h k across = (all_append (R x) xs ys h.0 across.0, append_pairs R xs ys h.1 k across.1)

pub all_flat_of : {X C : Type 0} (P : C → Type 0) (Q : X → Type 0) (f : X → List C) → ((x : X) → Q x → AllByRecursion P (f x)) → (xs : List X) → AllByRecursion Q xs → AllByRecursion P (flat_map f xs)
all_flat_of P Q f step [] h = tt
all_flat_of P Q f step (x ∷ xs) h = all_append P (f x) (flat_map f xs) (step x h.0) (all_flat_of P Q f step xs h.1)

-- each element of one list is so related to each of another
abbrev pub Across : {C : Type 0} → (C → C → Type 0) → List C → List C → Type 0
Across R xs ys = AllByRecursion (λ x. AllByRecursion (R x) ys) xs

across_flat : {X C : Type 0} (R : C → C → Type 0) (f : X → List C) (cs : List C) (xs : List X) → AllByRecursion (λ x. Across R cs (f x)) xs → Across R cs (flat_map f xs)
across_flat R f [] xs h = tt
across_flat R f (c ∷ cs) xs h = (all_flat (R c) f xs (all_weaker _ _ (λ x k. k.0) xs h), across_flat R f cs xs (all_weaker _ _ (λ x k. k.1) xs h))

pub flat_pairs : {X C : Type 0} (R : C → C → Type 0) (f : X → List C) (Good : X → Type 0) → ((x : X) → Good x → AllPairsByRecursion R (f x)) → (xs : List X) → AllByRecursion Good xs → AllPairsByRecursion (λ x y. Across R (f x) (f y)) xs → AllPairsByRecursion R (flat_map f xs)
flat_pairs R f Good each [] good h = tt
flat_pairs R f Good each (x ∷ xs) good h = append_pairs R (f x) (flat_map f xs) (each x good.0) (flat_pairs R f Good each xs good.1 h.1) (across_flat R f (f x) xs h.0)

pub mapped_pairs : {X Y : Type 0} (R : Y → Y → Type 0) (f : X → Y) (xs : List X) → AllPairsByRecursion (λ a b. R (f a) (f b)) xs → AllPairsByRecursion R (map f xs)
mapped_pairs R f [] h = tt
mapped_pairs R f (x ∷ xs) h = (all_mapped (R (f x)) f xs h.0, mapped_pairs R f xs h.1)

-- ---- rising

module _ {X P : Type 0} (f : X → P) (before : P → P → Bool) (R : X → X → Type 0) where
  module _ (means : (x y : X) → before (f x) (f y) ≡ true → R x y) (chain : (x y z : X) → R x y → R y z → R x z) where
    risen_from : (x : X) (xs : List X) → rises_from before (f x) (map f xs) ≡ true → AllByRecursion (R x) xs × AllPairsByRecursion R xs
    risen_from x [] h = (tt, tt)
    risen_from x (y ∷ ys) h =
        let parts = and_parts (before (f x) (f y)) (rises_from before (f y) (map f ys)) h in
        let first = means x y parts.0 in
        let more = risen_from y ys parts.1 in
        ((first, all_weaker (R y) (R x) (λ z. chain x y z first) ys more.0), more)

    pub risen : (xs : List X) → rises before (map f xs) ≡ true → AllPairsByRecursion R xs
    risen [] h = tt
    risen (x ∷ xs) h = risen_from x xs h

  module _ (told : (x y : X) → R x y → before (f x) (f y) ≡ true) where
    does_rise_from : (x : X) (xs : List X) → AllByRecursion (R x) xs → AllPairsByRecursion R xs → rises_from before (f x) (map f xs) ≡ true
    does_rise_from x [] h k = refl
    does_rise_from x (y ∷ ys) h k = rw (told x y h.0) (does_rise_from y ys k.0 k.1)

    pub does_rise : (xs : List X) → AllPairsByRecursion R xs → rises before (map f xs) ≡ true
    does_rise [] h = refl
    does_rise (x ∷ xs) h = does_rise_from x xs h.0 h.1
