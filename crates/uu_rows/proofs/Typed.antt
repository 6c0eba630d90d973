-- From the answer of a query over one table to what it says about the table's typed rows, in any
-- order of the table's rows.
use Rattle.std.proofs.Common.{◌≡◌, ℕ, List, [], ◌∷◌, map, filter, Bool, false, Ordering, Less, sym, ap, subst, ◌∙◌}
use Rattle.std.specs.List.{list_all}
use Rattle.std.specs.Ordering.{is_eq}
use Rattle.std.specs.List.Sorted.{IsPermutation}
use Rattle.std.proofs.lemmas.List.Sorted.{IsPermutation-map, IsPermutation-trans}
use Rattle.sqlite.specs.Order.{Row}
use Rattle.sqlite.specs.Tree.{Trees, IsAscending}
use Rattle.sqlite.specs.Term.{Term, holds}
use Rattle.sqlite.specs.Query.{Query, IsAnswer, Output, output, output_cmp}
use Rattle.sqlite.specs.Program.{overlay}
use Rattle.sqlite_sql.proofs.QueryLemmas.{output_cmp_total}
use Rattle.sqlite_value.specs.declared.keys.Key.{Key}
use Rattle.sqlite_keyed.specs.Lists.{sort_by}
use Rattle.sqlite_keyed.proofs.ListLemmas.{map-map, map_same, filter-map, filter_same, IsPermutation-filter, ascending-map, ascending_weaker}
use Rattle.sqlite_keyed.proofs.SortLemmas.{sorted_unique, sorted_is-sort_by, sort_by-map}
use Rattle.uu_schema.proofs.Asks.{ordered}
use Rattle.uu_schema.proofs.Rows.{matched}

-- `shown` is what the table's rows show, and `see` makes a row of that about which the query says
-- the same
module _ (t : ℕ) (tests project : List Term) (order : List (Term × Key)) (db : Trees) (params : Row) (rows : List Row) (bare : overlay db [] t ≡ db t)
    (a : IsAnswer (ordered t tests project order) (overlay db []) params rows)
    (shown see : Row → Row)
    (same_test : (r : Row) → list_all (holds (params ∷ see (shown r) ∷ [])) tests ≡ list_all (holds (params ∷ r ∷ [])) tests)
    (same_out : (r : Row) → output (ordered t tests project order) (params ∷ see (shown r) ∷ []) ≡ output (ordered t tests project order) (params ∷ r ∷ []))
    {X : Type 0} (cells : X → Row) (xs : List X) (held : IsPermutation (map cells xs) (map shown (db t)))
    (p : X → Bool) (picks : (x : X) → list_all (holds (params ∷ see (cells x) ∷ [])) tests ≡ p x) where
  abbrev q : Query
  q = ordered t tests project order

  abbrev passes : Row → Bool
  passes r = list_all (holds (params ∷ r ∷ [])) tests

  abbrev out : Row → Output
  out r = output q (params ∷ r ∷ [])

  abbrev second : Output → Row
  second o = o.1

  -- what the query shows of a typed row, with what it is sorted by
  abbrev pub typed : X → Output
  typed x = out (see (cells x))

  abbrev pub told_of : X → Row
  told_of x = (typed x).1

  kept_is : a.kept ≡ map out (filter passes (db t))
  kept_is =
      a.distinct ∙ ap (map (output q)) (a.grouped ∙ matched passes (λ r. params ∷ r ∷ []) (overlay db [] t) ∙ ap (λ rs. map (λ r. params ∷ r ∷ []) (filter passes rs)) bare)
      ∙ map-map (output q) (λ r. params ∷ r ∷ []) (filter passes (db t))

  left_is : filter (λ c. passes (see c)) (map cells xs) ≡ map cells (filter p xs)
  left_is = filter-map (λ c. passes (see c)) cells xs ∙ ap (map cells) (filter_same (λ x. passes (see (cells x))) p picks xs)

  right_is : filter (λ c. passes (see c)) (map shown (db t)) ≡ map shown (filter passes (db t))
  right_is = filter-map (λ c. passes (see c)) shown (db t) ∙ ap (map shown) (filter_same (λ r. passes (see (shown r))) passes same_test (db t))

  picked : IsPermutation (map cells (filter p xs)) (map shown (filter passes (db t)))
  picked = subst (λ l. IsPermutation l (map shown (filter passes (db t)))) left_is (subst (IsPermutation (filter (λ c. passes (see c)) (map cells xs))) right_is (IsPermutation-filter (λ c. passes (see c)) _ _ held))

  outputs : IsPermutation (map typed (filter p xs)) (map out (filter passes (db t)))
  outputs =
      subst (λ l. IsPermutation l (map out (filter passes (db t)))) (map-map (λ c. out (see c)) cells (filter p xs))
      (subst (IsPermutation (map (λ c. out (see c)) (map cells (filter p xs)))) (map-map (λ c. out (see c)) shown (filter passes (db t)) ∙ map_same _ out same_out (filter passes (db t)))
      (IsPermutation-map (λ c. out (see c)) _ _ picked))

  pub arranged : IsPermutation (map typed (filter p xs)) a.ordered
  arranged = IsPermutation-trans _ _ _ outputs (subst (λ l. IsPermutation l a.ordered) kept_is a.same)

  -- the answer shows the typed rows that pass, in some order
  pub typed_moved : IsPermutation (map told_of (filter p xs)) rows
  typed_moved =
      subst (λ l. IsPermutation l rows) (map-map second typed (filter p xs))
      (subst (IsPermutation (map second (map typed (filter p xs)))) (sym a.shown) (IsPermutation-map second _ _ arranged))

  -- and it shows them in the order of their keys, if no two of them tie
  pub typed_sorted : (cmp : X → X → Ordering) → ((x y : X) → output_cmp q (typed x) (typed y) ≡ cmp x y) → IsAscending (λ x y. is_eq (cmp x y) ≡ false) (filter p xs)
      → rows ≡ map told_of (sort_by cmp (filter p xs))
  typed_sorted cmp is apart =
      let far = ascending-map (λ x y. is_eq (output_cmp q x y) ≡ false) typed _ (ascending_weaker _ (λ x y. is_eq (output_cmp q (typed x) (typed y)) ≡ false) (λ x y h. ap is_eq (is x y) ∙ h) (filter p xs) apart) in
      let all = sorted_is-sort_by (output_cmp q) (output_cmp_total q) (map typed (filter p xs)) a.ordered far arranged a.sorted
      ∙ sort_by-map (output_cmp q) typed (filter p xs) ∙ (λ i. map typed (sort_by (λ x y. is x y i) (filter p xs))) in
      a.shown ∙ ap (map second) all ∙ map-map second typed (sort_by cmp (filter p xs))

  -- rows that are in the order of their keys are the answer as they are
  pub typed_only : IsAscending (λ x y. output_cmp q (typed x) (typed y) ≡ Less) (filter p xs) → rows ≡ map told_of (filter p xs)
  typed_only strict =
      a.shown ∙ ap (map second) (sorted_unique (output_cmp q) (output_cmp_total q) (map typed (filter p xs)) a.ordered (ascending-map (λ x y. output_cmp q x y ≡ Less) typed _ strict) arranged a.sorted)
      ∙ map-map second typed (filter p xs)
