-- Typed rows that are read from rows, one after another.
use Rattle.std.proofs.Common.{◌≡◌, ℕ, zero, suc, ◌<◌, List, [], ◌∷◌, map, length, get_or, ◌∙◌, arith}
use Rattle.std.specs.List.{AllByRecursion}
use Rattle.sqlite.specs.Order.{Row}

module _ {A : Type 0} (cells : A → Row) where
  -- the element whose cells a row has
  pub record Met (P : A → Type 0) (row : Row) : Type 0 where
    pub it : A
    pub is : row ≡ cells it
    pub good : P it

  pub met : (P : A → Type 0) (rows : List Row) (all : List A) (i : ℕ) (row : Row) → AllByRecursion P all → rows ≡ map cells all → i < length rows → row ≡ get_or rows i row → Met P row
  met P [] all i row good full lt is = absurd (omega (arith, lt))
  met P (r ∷ rows) [] i row good full lt is = absurd (cc)
  met P (r ∷ rows) (x ∷ all) zero row good full lt is = let head : r ≡ cells x = cc in record { it = x; is = is ∙ head; good = good.0 }
  met P (r ∷ rows) (x ∷ all) (suc i) row good full lt is = let tail : rows ≡ map cells all = cc in met P rows all i row good.1 tail (omega (arith, lt)) is
