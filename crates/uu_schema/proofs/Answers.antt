-- From the answer of a query over one table to THE sorted list of what the table holds.
use Rattle.std.proofs.Common.{◌≡◌, ℕ, List, [], ◌∷◌, map, Bool, Ordering, sym, ap, subst, ◌∙◌}
use Rattle.std.specs.Prelude.{filter, false}
use Rattle.std.specs.List.{list_all}
use Rattle.std.specs.List.Sorted.{IsPermutation}
use Rattle.std.proofs.lemmas.List.Sorted.{IsPermutation-map, IsPermutation-trans}
use Rattle.sqlite.specs.Order.{Row}
use Rattle.sqlite.specs.declared.types.Value.TheVariants.{Null}
use Rattle.sqlite.specs.Tree.{Trees, IsAscending}
use Rattle.sqlite.specs.Schema.{Schema}
use Rattle.sqlite.specs.Term.{Term, eval_all, holds}
use Rattle.sqlite.specs.Query.{Query, IsAnswer, Output, output, output_cmp}
use Rattle.sqlite.specs.Program.{overlay}
use Rattle.sqlite.specs.State.{State, Shown}
use Rattle.sqlite.proofs.Callers.{reads_as}
use Rattle.sqlite_sql.proofs.QueryLemmas.{output_cmp_total}
use Rattle.sqlite_value.specs.declared.keys.Key.{Key}
use Rattle.sqlite_keyed.specs.Lists.{sort_by}
use Rattle.sqlite_keyed.proofs.ListLemmas.{map-map, ascending-map, ascending_weaker}
use Rattle.std.specs.Ordering.{is_eq}
use Rattle.sqlite_keyed.proofs.SortLemmas.{sorted_is-sort_by, sort_by-map}
use Rattle.uu_schema.proofs.Asks.{Means, ordered}
use Rattle.uu_schema.proofs.Rows.{matched}

module _ (schema : Schema) (sql : List ℕ) (q : Query) (names : List (List ℕ)) (params : Row) (old new : State) (means : Means schema sql q names) where
  -- what a query by text answers, as its meaning
  pub answer_of : old.now.schema ≡ schema → (rows : List Row) → Shown sql params old new rows → IsAnswer q (overlay old.now.trees []) params rows
  answer_of has rows h = let it = reads_as sql params old new schema has _ means.command means.plain means.listing rows h in it.answer Null

module _ (t : ℕ) (tests project : List Term) (order : List (Term × Key)) (db : Trees) (params : Row) (rows : List Row) (bare : overlay db [] t ≡ db t)
    (a : IsAnswer (ordered t tests project order) (overlay db []) params rows) where
  abbrev q : Query
  q = ordered t tests project order

  abbrev passes : Row → Bool
  passes r = list_all (holds (params ∷ r ∷ [])) tests

  -- the row that is shown, with what it is sorted by
  abbrev out : Row → Output
  out r = output q (params ∷ r ∷ [])

  abbrev second : Output → Row
  second o = o.1

  kept_is : a.kept ≡ map out (filter passes (db t))
  kept_is =
      a.distinct ∙ ap (map (output q)) (a.grouped ∙ matched passes (λ r. params ∷ r ∷ []) (overlay db [] t) ∙ ap (λ rs. map (λ r. params ∷ r ∷ []) (filter passes rs)) bare)
      ∙ map-map (output q) (λ r. params ∷ r ∷ []) (filter passes (db t))

  arranged : IsPermutation (map out (filter passes (db t))) a.ordered
  arranged = subst (λ l. IsPermutation l a.ordered) kept_is a.same

  -- the answer is what the rows that pass show, in some order
  pub answer_moved : IsPermutation (map (λ r. eval_all project (params ∷ r ∷ [])) (filter passes (db t))) rows
  answer_moved =
      subst (λ l. IsPermutation l rows) (map-map second out (filter passes (db t)))
      (subst (IsPermutation (map second (map out (filter passes (db t))))) (sym a.shown) (IsPermutation-map second _ _ arranged))

  -- THE sorted list of the state is the answer: its rows are those that pass, and no two of them
  -- tie
  pub answer_sorted : {A : Type 0} (xs : List A) (f : A → Row) (order : A → A → Ordering) → ((a b : A) → output_cmp q (out (f a)) (out (f b)) ≡ order a b)
      → IsAscending (λ a b. is_eq (order a b) ≡ false) xs → IsPermutation (map f xs) (filter passes (db t)) → rows ≡ map (λ x. eval_all project (params ∷ f x ∷ [])) (sort_by order xs)
  answer_sorted {A} xs f order is apart same =
      let shown : A → Output = λ x. out (f x) in
      let far = ascending-map (λ x y. is_eq (output_cmp q x y) ≡ false) shown xs (ascending_weaker _ (λ x y. is_eq (output_cmp q (shown x) (shown y)) ≡ false) (λ x y h. ap is_eq (is x y) ∙ h) xs apart) in
      let moved = IsPermutation-trans _ _ _ (subst (λ l. IsPermutation l (map out (filter passes (db t)))) (map-map out f xs) (IsPermutation-map out _ _ same)) arranged in
      let all = sorted_is-sort_by (output_cmp q) (output_cmp_total q) (map shown xs) a.ordered far moved a.sorted
      ∙ sort_by-map (output_cmp q) shown xs ∙ (λ i. map shown (sort_by (λ x y. is x y i) xs)) in
      a.shown ∙ ap (map second) all ∙ map-map second shown (sort_by order xs)
