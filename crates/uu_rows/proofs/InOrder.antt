-- Lists in order, by place and by recursion.
use Rattle.std.proofs.Common.{List, [], ◌∷◌, AllPairs}
use Rattle.std.proofs.lemmas.List.Elements.{recursion_from_All}
use Rattle.sqlite.specs.Tree.{IsAscending}
use Rattle.uu_names.proofs.Basics.{pairs_first, pairs_rest}

module _ {X : Type 0} (R : X → X → Type 0) where
  -- a list in which each comes before all later ones
  pub ascending_pairs : (xs : List X) → AllPairs R xs → IsAscending R xs
  ascending_pairs [] h = tt
  ascending_pairs (x ∷ xs) h = (recursion_from_All (R x) xs (pairs_first R x xs h), ascending_pairs xs (pairs_rest R x xs h))
