-- What is found among rows.
use Rattle.std.proofs.Common.{List, [], ◌∷◌, Bool, true, false, cond, Some}
use Rattle.std.specs.Prelude.{IfSome, find}
use Rattle.std.specs.List.{AllByRecursion}

-- what is found among rows that are good is good
pub found_good : {X : Type 0} (P : X → Type 0) (p : X → Bool) (xs : List X) → AllByRecursion P xs → IfSome (find p xs) P
found_good P p [] all = tt
found_good P p (x ∷ xs) all = elim (p x) as (λ b. IfSome (cond b (Some x) (find p xs)) P) [ true ↦ all.0 | false ↦ found_good P p xs all.1 ]
