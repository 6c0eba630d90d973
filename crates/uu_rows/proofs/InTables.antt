-- The ordered question on a table shows the rows of any list that rises and that the table holds,
-- at whichever tree a version has the table.
use Rattle.std.proofs.Common.{◌≡◌, ℕ, ◌^◌, leb, pos, List, [], ◌∷◌, Bool, true, false, cond, map, filter, None, unwrap_or, refl, ◌∙◌, Less}
use Rattle.std.specs.List.{list_all}
use Rattle.std.specs.List.Sorted.{IsPermutation}
use Rattle.uu_names.proofs.Basics.{int_cmp-pos}
use Rattle.sqlite.specs.Order.{Row}
use Rattle.sqlite.specs.Tree.{Trees, IsAscending}
use Rattle.sqlite.specs.Term.{Term, holds}
use Rattle.sqlite.specs.Query.{Query, Output, output, output_cmp}
use Rattle.sqlite.specs.Program.{overlay}
use Rattle.sqlite.specs.State as db
use Rattle.sqlite.specs.Schema.{Schema}
use Rattle.sqlite_keyed.proofs.ListLemmas.{ascending_weaker, ascending-filter}
use Rattle.sqlite_typed.proofs.TestLemmas.{then_key, last_key}
use Rattle.sqlite_value.proofs.OrderLemmas.{value_cmp-Int, value_cmp-Text}
use Rattle.uu_schema.proofs.Asks.{Means, ordered}
use Rattle.uu_schema.proofs.Answers.{answer_of}
use Rattle.uu_core.specs.declared.job.JobHead.{JobHead}
use Rattle.uu_tables.specs.declared.rows.SystemColumns.{SystemColumns}
use Rattle.uu_tables.specs.declared.rows.Body.{Body}
use Rattle.uu_tables.specs.declared.earlier.BareSystem.{BareSystem}
use Rattle.uu_tables.specs.declared.earlier.Piece.{Piece}
use Rattle.uu_tables.specs.declared.earlier.LineColumns.{LineColumns}
use Rattle.uu_tables.specs.declared.earlier.RangeColumns.{RangeColumns}
use Rattle.uu_tables.specs.declared.rows.EntryColumns.{EntryColumns}
use Rattle.uu_tables.specs.declared.earlier.WaitColumns.{WaitColumns}
use Rattle.uu_tables.specs.declared.rows.LinkColumns.{LinkColumns}
use Rattle.uu_tables.specs.declared.rows.TakenColumns.{TakenColumns}
use Rattle.uu_schema.specs.Keyed.{columns}
use Rattle.uu_schema.specs.Held.{system_places, job_places, body_places, entry_places, link_places, taken_places}
use Rattle.uu_schema.specs.HeldEarlier.{line_places, range_places, wait_places, piece_places}
use Rattle.uu_schema.specs.Cells.{system_cells, job_cells, body_cells, entry_cells, link_cells, taken_cells, bare_cells, line_cells, range_cells, wait_cells, piece_cells}
use Rattle.uu_tables.specs.Order.{system_cmp, head_cmp, body_cmp, entry_cmp, link_cmp, taken_cmp, bare_system_cmp, line_cmp, range_cmp, wait_cmp, piece_cmp}
use Rattle.uu_rows.proofs.Meanings.{at_places, by_places}
use Rattle.uu_rows.proofs.Typed.{typed_only}
use Rattle.uu_rows.proofs.Comparing.{beside, numbered}

-- without tables that are computed first, a tree has its own rows
pub bare : (trees : Trees) (tree : ℕ) → overlay trees [] tree ≡ trees tree
bare trees tree = elim (leb (2 ^ 31) tree) as (λ b. unwrap_or (cond b None None) (trees tree) ≡ trees tree) [ true ↦ refl | false ↦ refl ]

module _ (schema : Schema) (old new : db.State) (rows : List Row) (has : old.now.schema ≡ schema) (text : List ℕ) (names : List (List ℕ)) (params : Row) (tests : List Term) (h : db.Shown text params old new rows) where
  abbrev passes : Row → Bool
  passes r = list_all (holds (params ∷ r ∷ [])) tests

  -- the test sees no more of a row than its columns
  abbrev pub Sees : List ℕ → (Row → Row) → Type 0
  Sees places see = (r : Row) → passes (see (columns places r)) ≡ passes r

  pub systems_are : (tree : ℕ) → Means schema text (ordered tree tests (at_places system_places) (by_places (1 ∷ []))) names → Sees system_places beside → (xs : List SystemColumns)
      → IsPermutation (map system_cells xs) (map (columns system_places) (old.now.trees tree)) → IsAscending (λ x y. system_cmp x y ≡ Less) xs
      → (p : SystemColumns → Bool) → ((x : SystemColumns) → passes (beside (system_cells x)) ≡ p x) → rows ≡ map system_cells (filter p xs)
  systems_are tree means sees xs held rise p picks =
      let q : Query = ordered tree tests (at_places system_places) (by_places (1 ∷ [])) in
      let out : SystemColumns → Output = λ x. output q (params ∷ beside (system_cells x) ∷ []) in
      let less : (x y : SystemColumns) → system_cmp x y ≡ Less → output_cmp q (out x) (out y) ≡ Less = λ x y k. last_key (value_cmp-Text x.def.name y.def.name) ∙ k in
      typed_only tree tests (at_places system_places) (by_places (1 ∷ [])) old.now.trees params rows (bare old.now.trees tree) (answer_of schema text q names params old new means has rows h) (columns system_places) beside sees (λ r. refl)
      system_cells xs held p picks (ascending-filter _ p xs (ascending_weaker _ (λ x y. output_cmp q (out x) (out y) ≡ Less) less xs rise))

  pub bare_systems_are : (tree : ℕ) → Means schema text (ordered tree tests (at_places system_places) (by_places (1 ∷ []))) names → Sees system_places beside → (xs : List BareSystem)
      → IsPermutation (map bare_cells xs) (map (columns system_places) (old.now.trees tree)) → IsAscending (λ x y. bare_system_cmp x y ≡ Less) xs
      → (p : BareSystem → Bool) → ((x : BareSystem) → passes (beside (bare_cells x)) ≡ p x) → rows ≡ map bare_cells (filter p xs)
  bare_systems_are tree means sees xs held rise p picks =
      let q : Query = ordered tree tests (at_places system_places) (by_places (1 ∷ [])) in
      let out : BareSystem → Output = λ x. output q (params ∷ beside (bare_cells x) ∷ []) in
      let less : (x y : BareSystem) → bare_system_cmp x y ≡ Less → output_cmp q (out x) (out y) ≡ Less = λ x y k. last_key (value_cmp-Text x.name y.name) ∙ k in
      typed_only tree tests (at_places system_places) (by_places (1 ∷ [])) old.now.trees params rows (bare old.now.trees tree) (answer_of schema text q names params old new means has rows h) (columns system_places) beside sees (λ r. refl)
      bare_cells xs held p picks (ascending-filter _ p xs (ascending_weaker _ (λ x y. output_cmp q (out x) (out y) ≡ Less) less xs rise))

  pub bodies_are : (tree : ℕ) → Means schema text (ordered tree tests (at_places body_places) (by_places (0 ∷ []))) names → Sees body_places numbered → (xs : List Body)
      → IsPermutation (map body_cells xs) (map (columns body_places) (old.now.trees tree)) → IsAscending (λ x y. body_cmp x y ≡ Less) xs
      → (p : Body → Bool) → ((x : Body) → passes (numbered (body_cells x)) ≡ p x) → rows ≡ map body_cells (filter p xs)
  bodies_are tree means sees xs held rise p picks =
      let q : Query = ordered tree tests (at_places body_places) (by_places (0 ∷ [])) in
      let out : Body → Output = λ x. output q (params ∷ numbered (body_cells x) ∷ []) in
      let less : (x y : Body) → body_cmp x y ≡ Less → output_cmp q (out x) (out y) ≡ Less = λ x y k. last_key (value_cmp-Int (pos x.job) (pos y.job)) ∙ int_cmp-pos x.job y.job ∙ k in
      typed_only tree tests (at_places body_places) (by_places (0 ∷ [])) old.now.trees params rows (bare old.now.trees tree) (answer_of schema text q names params old new means has rows h) (columns body_places) numbered sees (λ r. refl)
      body_cells xs held p picks (ascending-filter _ p xs (ascending_weaker _ (λ x y. output_cmp q (out x) (out y) ≡ Less) less xs rise))

  pub pieces_are : (tree : ℕ) → Means schema text (ordered tree tests (at_places piece_places) (by_places (1 ∷ 2 ∷ []))) names → Sees piece_places beside → (xs : List Piece)
      → IsPermutation (map piece_cells xs) (map (columns piece_places) (old.now.trees tree)) → IsAscending (λ x y. piece_cmp x y ≡ Less) xs
      → (p : Piece → Bool) → ((x : Piece) → passes (beside (piece_cells x)) ≡ p x) → rows ≡ map piece_cells (filter p xs)
  pieces_are tree means sees xs held rise p picks =
      let q : Query = ordered tree tests (at_places piece_places) (by_places (1 ∷ 2 ∷ [])) in
      let out : Piece → Output = λ x. output q (params ∷ beside (piece_cells x) ∷ []) in
      let less : (x y : Piece) → piece_cmp x y ≡ Less → output_cmp q (out x) (out y) ≡ Less = λ x y k.
      then_key (value_cmp-Int (pos x.job) (pos y.job) ∙ int_cmp-pos x.job y.job) (last_key (value_cmp-Int (pos x.place) (pos y.place)) ∙ int_cmp-pos x.place y.place) ∙ k in
      typed_only tree tests (at_places piece_places) (by_places (1 ∷ 2 ∷ [])) old.now.trees params rows (bare old.now.trees tree) (answer_of schema text q names params old new means has rows h) (columns piece_places) beside sees (λ r. refl)
      piece_cells xs held p picks (ascending-filter _ p xs (ascending_weaker _ (λ x y. output_cmp q (out x) (out y) ≡ Less) less xs rise))

  pub lines_are : (tree : ℕ) → Means schema text (ordered tree tests (at_places line_places) (by_places (1 ∷ 2 ∷ []))) names → Sees line_places beside → (xs : List LineColumns)
      → IsPermutation (map line_cells xs) (map (columns line_places) (old.now.trees tree)) → IsAscending (λ x y. line_cmp x y ≡ Less) xs
      → (p : LineColumns → Bool) → ((x : LineColumns) → passes (beside (line_cells x)) ≡ p x) → rows ≡ map line_cells (filter p xs)
  lines_are tree means sees xs held rise p picks =
      let q : Query = ordered tree tests (at_places line_places) (by_places (1 ∷ 2 ∷ [])) in
      let out : LineColumns → Output = λ x. output q (params ∷ beside (line_cells x) ∷ []) in
      let less : (x y : LineColumns) → line_cmp x y ≡ Less → output_cmp q (out x) (out y) ≡ Less = λ x y k.
      then_key (value_cmp-Text x.system y.system) (last_key (value_cmp-Int (pos x.place) (pos y.place)) ∙ int_cmp-pos x.place y.place) ∙ k in
      typed_only tree tests (at_places line_places) (by_places (1 ∷ 2 ∷ [])) old.now.trees params rows (bare old.now.trees tree) (answer_of schema text q names params old new means has rows h) (columns line_places) beside sees (λ r. refl)
      line_cells xs held p picks (ascending-filter _ p xs (ascending_weaker _ (λ x y. output_cmp q (out x) (out y) ≡ Less) less xs rise))

  pub ranges_are : (tree : ℕ) → Means schema text (ordered tree tests (at_places range_places) (by_places (1 ∷ 2 ∷ 3 ∷ []))) names → Sees range_places beside → (xs : List RangeColumns)
      → IsPermutation (map range_cells xs) (map (columns range_places) (old.now.trees tree)) → IsAscending (λ x y. range_cmp x y ≡ Less) xs
      → (p : RangeColumns → Bool) → ((x : RangeColumns) → passes (beside (range_cells x)) ≡ p x) → rows ≡ map range_cells (filter p xs)
  ranges_are tree means sees xs held rise p picks =
      let q : Query = ordered tree tests (at_places range_places) (by_places (1 ∷ 2 ∷ 3 ∷ [])) in
      let out : RangeColumns → Output = λ x. output q (params ∷ beside (range_cells x) ∷ []) in
      let less : (x y : RangeColumns) → range_cmp x y ≡ Less → output_cmp q (out x) (out y) ≡ Less = λ x y k.
      then_key (value_cmp-Text x.system y.system) (then_key (value_cmp-Int (pos x.place) (pos y.place) ∙ int_cmp-pos x.place y.place) (last_key (value_cmp-Int (pos x.low) (pos y.low)) ∙ int_cmp-pos x.low y.low)) ∙ k in
      typed_only tree tests (at_places range_places) (by_places (1 ∷ 2 ∷ 3 ∷ [])) old.now.trees params rows (bare old.now.trees tree) (answer_of schema text q names params old new means has rows h) (columns range_places) beside sees (λ r. refl)
      range_cells xs held p picks (ascending-filter _ p xs (ascending_weaker _ (λ x y. output_cmp q (out x) (out y) ≡ Less) less xs rise))

  pub heads_are : (tree : ℕ) → Means schema text (ordered tree tests (at_places job_places) (by_places (0 ∷ []))) names → Sees job_places numbered → (xs : List JobHead)
      → IsPermutation (map job_cells xs) (map (columns job_places) (old.now.trees tree)) → IsAscending (λ x y. head_cmp x y ≡ Less) xs
      → (p : JobHead → Bool) → ((x : JobHead) → passes (numbered (job_cells x)) ≡ p x) → rows ≡ map job_cells (filter p xs)
  heads_are tree means sees xs held rise p picks =
      let q : Query = ordered tree tests (at_places job_places) (by_places (0 ∷ [])) in
      let out : JobHead → Output = λ x. output q (params ∷ numbered (job_cells x) ∷ []) in
      let less : (x y : JobHead) → head_cmp x y ≡ Less → output_cmp q (out x) (out y) ≡ Less = λ x y k. last_key (value_cmp-Int (pos x.number) (pos y.number)) ∙ int_cmp-pos x.number y.number ∙ k in
      typed_only tree tests (at_places job_places) (by_places (0 ∷ [])) old.now.trees params rows (bare old.now.trees tree) (answer_of schema text q names params old new means has rows h) (columns job_places) numbered sees (λ r. refl)
      job_cells xs held p picks (ascending-filter _ p xs (ascending_weaker _ (λ x y. output_cmp q (out x) (out y) ≡ Less) less xs rise))

  pub entries_are : (tree : ℕ) → Means schema text (ordered tree tests (at_places entry_places) (by_places (1 ∷ []))) names → Sees entry_places beside → (xs : List EntryColumns)
      → IsPermutation (map entry_cells xs) (map (columns entry_places) (old.now.trees tree)) → IsAscending (λ x y. entry_cmp x y ≡ Less) xs
      → (p : EntryColumns → Bool) → ((x : EntryColumns) → passes (beside (entry_cells x)) ≡ p x) → rows ≡ map entry_cells (filter p xs)
  entries_are tree means sees xs held rise p picks =
      let q : Query = ordered tree tests (at_places entry_places) (by_places (1 ∷ [])) in
      let out : EntryColumns → Output = λ x. output q (params ∷ beside (entry_cells x) ∷ []) in
      let less : (x y : EntryColumns) → entry_cmp x y ≡ Less → output_cmp q (out x) (out y) ≡ Less = λ x y k. last_key (value_cmp-Text x.host y.host) ∙ k in
      typed_only tree tests (at_places entry_places) (by_places (1 ∷ [])) old.now.trees params rows (bare old.now.trees tree) (answer_of schema text q names params old new means has rows h) (columns entry_places) beside sees (λ r. refl)
      entry_cells xs held p picks (ascending-filter _ p xs (ascending_weaker _ (λ x y. output_cmp q (out x) (out y) ≡ Less) less xs rise))

  pub waits_are : (tree : ℕ) → Means schema text (ordered tree tests (at_places wait_places) (by_places (1 ∷ []))) names → Sees wait_places beside → (xs : List WaitColumns)
      → IsPermutation (map wait_cells xs) (map (columns wait_places) (old.now.trees tree)) → IsAscending (λ x y. wait_cmp x y ≡ Less) xs
      → (p : WaitColumns → Bool) → ((x : WaitColumns) → passes (beside (wait_cells x)) ≡ p x) → rows ≡ map wait_cells (filter p xs)
  waits_are tree means sees xs held rise p picks =
      let q : Query = ordered tree tests (at_places wait_places) (by_places (1 ∷ [])) in
      let out : WaitColumns → Output = λ x. output q (params ∷ beside (wait_cells x) ∷ []) in
      let less : (x y : WaitColumns) → wait_cmp x y ≡ Less → output_cmp q (out x) (out y) ≡ Less = λ x y k. last_key (value_cmp-Text x.system y.system) ∙ k in
      typed_only tree tests (at_places wait_places) (by_places (1 ∷ [])) old.now.trees params rows (bare old.now.trees tree) (answer_of schema text q names params old new means has rows h) (columns wait_places) beside sees (λ r. refl)
      wait_cells xs held p picks (ascending-filter _ p xs (ascending_weaker _ (λ x y. output_cmp q (out x) (out y) ≡ Less) less xs rise))

  pub links_are : (tree : ℕ) → Means schema text (ordered tree tests (at_places link_places) (by_places (1 ∷ []))) names → Sees link_places beside → (xs : List LinkColumns)
      → IsPermutation (map link_cells xs) (map (columns link_places) (old.now.trees tree)) → IsAscending (λ x y. link_cmp x y ≡ Less) xs
      → (p : LinkColumns → Bool) → ((x : LinkColumns) → passes (beside (link_cells x)) ≡ p x) → rows ≡ map link_cells (filter p xs)
  links_are tree means sees xs held rise p picks =
      let q : Query = ordered tree tests (at_places link_places) (by_places (1 ∷ [])) in
      let out : LinkColumns → Output = λ x. output q (params ∷ beside (link_cells x) ∷ []) in
      let less : (x y : LinkColumns) → link_cmp x y ≡ Less → output_cmp q (out x) (out y) ≡ Less = λ x y k. last_key (value_cmp-Text x.system y.system) ∙ k in
      typed_only tree tests (at_places link_places) (by_places (1 ∷ [])) old.now.trees params rows (bare old.now.trees tree) (answer_of schema text q names params old new means has rows h) (columns link_places) beside sees (λ r. refl)
      link_cells xs held p picks (ascending-filter _ p xs (ascending_weaker _ (λ x y. output_cmp q (out x) (out y) ≡ Less) less xs rise))

  pub taken_are : (tree : ℕ) → Means schema text (ordered tree tests (at_places taken_places) (by_places (1 ∷ 2 ∷ []))) names → Sees taken_places beside → (xs : List TakenColumns)
      → IsPermutation (map taken_cells xs) (map (columns taken_places) (old.now.trees tree)) → IsAscending (λ x y. taken_cmp x y ≡ Less) xs
      → (p : TakenColumns → Bool) → ((x : TakenColumns) → passes (beside (taken_cells x)) ≡ p x) → rows ≡ map taken_cells (filter p xs)
  taken_are tree means sees xs held rise p picks =
      let q : Query = ordered tree tests (at_places taken_places) (by_places (1 ∷ 2 ∷ [])) in
      let out : TakenColumns → Output = λ x. output q (params ∷ beside (taken_cells x) ∷ []) in
      let less : (x y : TakenColumns) → taken_cmp x y ≡ Less → output_cmp q (out x) (out y) ≡ Less = λ x y k.
      then_key (value_cmp-Text x.system y.system) (last_key (value_cmp-Int (pos x.taken.number) (pos y.taken.number)) ∙ int_cmp-pos x.taken.number y.taken.number) ∙ k in
      typed_only tree tests (at_places taken_places) (by_places (1 ∷ 2 ∷ [])) old.now.trees params rows (bare old.now.trees tree) (answer_of schema text q names params old new means has rows h) (columns taken_places) beside sees (λ r. refl)
      taken_cells xs held p picks (ascending-filter _ p xs (ascending_weaker _ (λ x y. output_cmp q (out x) (out y) ≡ Less) less xs rise))
