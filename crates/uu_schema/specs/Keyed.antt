-- What the rows of a table say about a list.
use Rattle.std.specs.Prelude.{◌≢◌, ℕ, List, map}
use Rattle.std.specs.List.Sorted.{IsPermutation}
use Rattle.sqlite.specs.Order.{Row, column}
use Rattle.sqlite.specs.Tree.{IsAscending}
use Rattle.uu_schema.specs.Rowids.{AreNumbered, OnceEach}

-- the columns of a row at these places; place 0 is the rowid
abbrev pub columns : List ℕ → Row → Row
columns places r = map (column r) places

-- The rows have the cells of the elements at these places, in any order. No two elements have the
-- same key, and no two rows the same rowid.
pub record Keyed {K X : Type 0} (key : X → K) (cells : X → Row) (places : List ℕ) (xs : List X) (rows : List Row) : Type 0 where
  pub same : IsPermutation (map cells xs) (map (columns places) rows)
  pub numbered : AreNumbered rows
  pub once : OnceEach rows
  pub apart : IsAscending (λ a b. key a ≢ key b) xs
