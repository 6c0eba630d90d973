-- What the question on the sizes of the bodies says of their table, both ways. A body's job is its
-- rowid.
use Rattle.std.proofs.Common.{◌≡◌, ◌<◌, pos, true, List, [], ◌∷◌, map, filter, length, refl, sym, ap, subst, ◌∙◌, arith, Less, Option, Some, None, Vec}
use Rattle.std.specs.declared.alloc.Global.{Global}
use Rattle.std.specs.List.{AllByRecursion}
use Rattle.std.specs.List.Sorted.{IsPermutation}
use Rattle.std.proofs.lemmas.List.Sorted.{IsPermutation-sym, IsPermutation-map}
use Rattle.uu_names.proofs.Basics.{int_cmp-pos, filter_all}
use Rattle.sqlite.specs.declared.types.Value.TheVariants.{Int, Blob}
use Rattle.sqlite.specs.Order.{Row, column}
use Rattle.sqlite.specs.Tree.{IsAscending}
use Rattle.sqlite.specs.Term.{eval_all}
use Rattle.sqlite.specs.Query.{Query, IsAnswer, Output, output, output_cmp}
use Rattle.sqlite.specs.Program.{overlay}
use Rattle.sqlite.specs.State as db
use Rattle.sqlite_sql.specs.Ops.{unary}
use Rattle.sqlite_sql.specs.Text.{length_of}
use Rattle.sqlite_keyed.proofs.ListLemmas.{map-map, map_same, ascending-map, ascending_weaker, all_map}
use Rattle.sqlite_trees.proofs.ListLemmas.{all-permutation, pull_back}
use Rattle.sqlite_typed.proofs.TestLemmas.{last_key}
use Rattle.sqlite_value.proofs.OrderLemmas.{value_cmp-Int}
use Rattle.uu_schema.specs.Steps.{Stands}
use Rattle.uu_schema.specs.Schema.{spool_schema, bodies}
use Rattle.uu_schema.proofs.Asks.{ordered}
use Rattle.uu_schema.proofs.Rows.{all_stay}
use Rattle.uu_schema.proofs.Answers.{answer_of, answer_moved}
use Rattle.uu_tables.specs.declared.rows.Body.{Body}
use Rattle.uu_tables.specs.declared.rows.BodySize.{BodySize}
use Rattle.uu_tables.specs.Tables.{size_of}
use Rattle.uu_tables.specs.Order.{body_cmp}
use Rattle.uu_schema.specs.Keyed.{columns}
use Rattle.uu_schema.specs.Held.{body_places}
use Rattle.uu_schema.specs.Cells.{body_cells}
use Rattle.uu_rows.specs.Readable.{IsTypedSize, size_cells}
use Rattle.uu_rows.proofs.Meanings.{by_places}
use Rattle.uu_rows.proofs.Comparing.{numbered}
use Rattle.uu_rows.proofs.Typed.{typed_only}
use Rattle.uu_rows.proofs.Back.{same_all, size_back, size_returns, number_back, text_back}
use Rattle.uu_adopt.proofs.Texts.{sizes_text}
use Rattle.uu_adopt.specs.Reading.{AreRowids, IsRead, FindsSizes}
use Rattle.uu_adopt.proofs.Meanings.{size_terms, sizes_means}
use Rattle.uu_adopt.proofs.Rowids.{ids_apart, keys_rise}
use Rattle.uu_adopt.proofs.Sound.{HasBytes, body_rows_are}

-- ---- what the question shows of a row

abbrev size_shown : Row → Row
size_shown r = column r 0 ∷ length_of (column r 2) ∷ []

shows_size : (r : Row) → eval_all size_terms ([] ∷ r ∷ []) ≡ size_shown r
unfolding unary
shows_size r = refl

-- a row that shows a size is that of a body
body_in : Row → Body
body_in r = record { job = number_back (column r 0); bytes = text_back (column r 2) }

row_is : (r : Row) (s : BodySize) → HasBytes r → size_shown r ≡ size_cells s → (columns body_places r ≡ body_cells (body_in r)) × (size_of (body_in r) ≡ s)
unfolding body_in
row_is r s it shown =
    let job = ap (λ (x : Row). column x 0) shown in
    let size = ap (λ (x : Row). column x 1) shown in
    let long : length_of (column r 2) ≡ Int (pos (length (text_back (column r 2)))) = ap length_of it.is ∙ ap (λ b. Int (pos (length b))) (sym (ap text_back it.is)) in (
      (λ i. (job ∙ ap (λ v. Int (pos (number_back v))) (sym job)) i ∷ (it.is ∙ ap (λ v. Blob (text_back v)) (sym it.is)) i ∷ []),
      (λ i. record { job = number_back (job i); length = number_back ((sym long ∙ size) i) }),
    )

record Built (rs : List Row) (all : List BodySize) : Type 0 where
  rows : map body_cells (map body_in rs) ≡ map (columns body_places) rs
  sizes : map size_of (map body_in rs) ≡ all

built : (rs : List Row) (all : List BodySize) → AllByRecursion HasBytes rs → map size_shown rs ≡ map size_cells all → Built rs all
built [] [] typed h = record { rows = refl; sizes = refl }
built [] (x ∷ all) typed h = absurd (cc)
built (r ∷ rs) [] typed h = absurd (cc)
built (r ∷ rs) (x ∷ all) typed h =
    let head : size_shown r ≡ size_cells x = cc in
    let tail : map size_shown rs ≡ map size_cells all = cc in
    let one = row_is r x typed.0 head in
    let more = built rs all typed.1 tail in
    record { rows = λ i. sym one.0 i ∷ more.rows i; sizes = λ i. one.1 i ∷ more.sizes i }

-- ---- the table

module _ (a b : db.State) (rows : List Row) (stands : Stands spool_schema a.now) (h : db.Shown sizes_text [] a b rows) where
  abbrev table : List Row
  table = a.now.trees bodies.tree

  answer : IsAnswer (ordered bodies.tree [] size_terms (by_places (0 ∷ []))) (overlay a.now.trees []) [] rows
  answer = answer_of spool_schema sizes_text _ _ [] a b sizes_means stands.schema rows h

  moved : IsPermutation (map size_shown table) rows
  moved =
      subst (λ l. IsPermutation l rows) (map_same _ size_shown shows_size table)
      (subst (λ l. IsPermutation (map (λ r. eval_all size_terms ([] ∷ r ∷ [])) l) rows) (sym (all_stay table)) (answer_moved bodies.tree [] size_terms (by_places (0 ∷ [])) a.now.trees [] rows refl answer))

  only : (bs : List Body) → IsPermutation (map body_cells bs) (map (columns body_places) table) → IsAscending (λ x y. body_cmp x y ≡ Less) bs → rows ≡ map size_cells (map size_of bs)
  only bs held rise =
      let q : Query = ordered bodies.tree [] size_terms (by_places (0 ∷ [])) in
      let out : Body → Output = λ x. output q ([] ∷ numbered (body_cells x) ∷ []) in
      let less : (x y : Body) → body_cmp x y ≡ Less → output_cmp q (out x) (out y) ≡ Less = λ x y e. last_key (value_cmp-Int (pos x.job) (pos y.job)) ∙ int_cmp-pos x.job y.job ∙ e in
      let strict = subst (IsAscending (λ x y. output_cmp q (out x) (out y) ≡ Less)) (sym (filter_all bs)) (ascending_weaker _ (λ x y. output_cmp q (out x) (out y) ≡ Less) less bs rise) in
      typed_only bodies.tree [] size_terms (by_places (0 ∷ [])) a.now.trees [] rows refl answer (columns body_places) numbered (λ r. refl) (λ r. refl) body_cells bs held (λ x. true) (λ x. refl) strict
      ∙ map_same _ (λ b. size_cells (size_of b)) (λ b. shows_size (numbered (body_cells b))) (filter (λ x. true) bs) ∙ ap (map (λ b. size_cells (size_of b))) (filter_all bs) ∙ sym (map-map size_cells size_of bs)

  job_less : (x y : Body) → body_cmp x y ≡ Less → x.job < y.job
  job_less x y h = grind (arith)

  pub finds_sizes : (found : Option (Vec BodySize Global)) → IsRead size_cells IsTypedSize rows rows found → FindsSizes table found
  finds_sizes None none = record {
    all = tt;
    only = λ bs good rise keyed.
        let is = only bs keyed.same rise in
        let up = ascending-map (λ (x y : BodySize). x.job < y.job) size_of bs (ascending_weaker _ (λ (x y : Body). x.job < y.job) job_less bs rise) in
        none (map size_of bs) (record { rows_are = is; readable = all_map IsTypedSize size_of bs good; rowids = subst AreRowids (sym is) (keys_rise size_cells (λ (x : BodySize). x.job) (λ x. refl) (map size_of bs) up) });
  }
  finds_sizes (Some all) it = record {
    all = (
        let back = pull_back size_shown _ _ (subst (IsPermutation (map size_shown table)) it.rows_are moved) table refl in
        let made = built back.0 all.items (all-permutation HasBytes table back.0 back.1 (body_rows_are a.now.trees stands.sound)) (sym back.2) in
        let apart = ids_apart size_shown (λ r. refl) table rows moved it.rowids in
        (map body_in back.0, record { same = subst (λ l. IsPermutation l (map (columns body_places) table)) (sym made.rows) (IsPermutation-map (columns body_places) _ _ (IsPermutation-sym table back.0 back.1)); numbered = apart.0; once = apart.1 }, made.sizes, it.readable));
    only = λ bs good rise keyed. same_all size_cells size_back IsTypedSize (λ x g. size_returns x) all.items (map size_of bs) it.readable (all_map IsTypedSize size_of bs good) (sym it.rows_are ∙ only bs keyed.same rise);
  }
