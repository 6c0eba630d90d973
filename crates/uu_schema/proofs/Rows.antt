-- Rows by their rowid, what INSERT makes of a table's rows, and which rows a WHERE picks.
use Rattle.std.proofs.Common.{◌≡◌, inl, inr, ℕ, ℤ, List, [], ◌∷◌, map, filter, Bool, true, false, cond, Some, refl, sym, ap, subst, ◌∙◌, Ordering, Less, Equal, Greater, true≢false}
use Rattle.std.specs.Prelude.{flat_map, ◌&&◌, not}
use Rattle.std.specs.List.{list_all}
use Rattle.std.specs.Ordering.{is_eq}
use Rattle.std.specs.List.Sorted.{IsPermutation}
use Rattle.std.proofs.lemmas.List.Sorted.{IsPermutation-map, IsPermutation-refl, IsPermutation-cons, IsPermutation-swap, IsPermutation-trans}
use Rattle.std.proofs.lemmas.Bool.{or_parts, false_from_ne_true}
use Rattle.std.specs.Ordering.{match_ordering}
use Rattle.sqlite.specs.Ops.{unary}
use Rattle.sqlite.specs.Cast.{cast}
use Rattle.sqlite.specs.Kind.TheVariants.{Integer}
use Rattle.sqlite.specs.Edit.{is_taken}
use Rattle.sqlite.specs.Tree.{put_row}
use Rattle.std.proofs.lemmas.Bool.{cases_Bool}
use Rattle.sqlite.specs.declared.types.Value.{Value}
use Rattle.sqlite.specs.declared.types.Value.TheVariants.{Null, Int, Real, Text, Blob}
use Rattle.std.proofs.Common.{arith}
use Rattle.std.proofs.lemmas.Int.{ints}
use Rattle.sqlite.specs.Order.{Row, column, value_cmp}
use Rattle.sqlite.specs.Term.{Term, Env, eval_all, holds}
use Rattle.sqlite.specs.Ops.{binary, is_true, from_truth}
use Rattle.sqlite_sql.specs.declared.ops.BinaryOp.TheVariants.{Compare}
use Rattle.sqlite_sql.specs.declared.ops.CompareOp.TheVariants.{Eq}
use Rattle.sqlite.specs.Collation.TheVariants.{Binary}
use Rattle.sqlite.specs.Query.{Query, IsAnswer, output, Output}
use Rattle.sqlite.specs.Program.{overlay}
use Rattle.sqlite.specs.Tree.{Trees, rowid, IsTable, has_rowid, without_rowid}
use Rattle.sqlite.specs.View.{is_int}
use Rattle.sqlite.specs.Edit.{id_in, without_all}
use Rattle.sqlite_rules.proofs.TableLemmas.{int_is}
use Rattle.sqlite_trees.proofs.ListLemmas.{map-map, filter_same}
use Rattle.std.proofs.lemmas.Cmp.{tied_itself}
use Rattle.std.specs.Cmp.{Equal-is}
use Rattle.sqlite_rules.specs.Lists.{Has}
use Rattle.sqlite_rules.proofs.ListLemmas.{all_has, all_from, test_from, fails_from}
use Rattle.sqlite_rules.proofs.PlaceLemmas.{tied_same}
use Rattle.sqlite_value.proofs.OrderLemmas.{value_cmp_total}
use Rattle.uu_schema.proofs.Terms.{over, where_is}
use Rattle.uu_schema.specs.Rowids.{AreNumbered, OnceEach}

pub matched : (p : Row → Bool) (f : Row → Env) (rows : List Row) → flat_map (λ r. cond (p r) (f r ∷ []) []) rows ≡ map f (filter p rows)
matched p f [] = refl
matched p f (r ∷ rows) = elim (cases_Bool (p r)) [ inl here ↦ rw here (ap (λ l. f r ∷ l) (matched p f rows)) | inr other ↦ rw other (matched p f rows) ]

-- what a query over one table shows, in some order
pub over_rows : (db : Trees) (tree : ℕ) (tests project : List Term) (params : Row) (rows : List Row) → overlay db [] tree ≡ db tree → IsAnswer (over tree tests project) (overlay db []) params rows
    → IsPermutation (map (λ r. eval_all project (params ∷ r ∷ [])) (filter (λ r. list_all (holds (params ∷ r ∷ [])) tests) (db tree))) rows
over_rows db tree tests project params rows bare a =
    let p = λ (r : Row). list_all (holds (params ∷ r ∷ [])) tests in
    let f = λ (r : Row). params ∷ r ∷ [] in
    let q : Query = over tree tests project in
    let staged : a.staged ≡ map f (filter p (db tree)) = a.grouped ∙ matched p f (overlay db [] tree) ∙ ap (λ t. map f (filter p t)) bare in
    let kept : a.kept ≡ map (output q) (map f (filter p (db tree))) = a.distinct ∙ ap (map (output q)) staged in
    let second = λ (o : Output). o.1 in
    let shown : map second a.kept ≡ map (λ r. eval_all project (params ∷ r ∷ [])) (filter p (db tree)) =
    ap (map second) kept ∙ map-map second (output q) (map f (filter p (db tree))) ∙ map-map (λ env. eval_all project env) f (filter p (db tree)) in
    subst (λ xs. IsPermutation xs rows) shown (subst (IsPermutation (map second a.kept)) (sym a.shown) (IsPermutation-map second a.kept a.ordered a.same))

as_truth : (b : Bool) → (is_true (from_truth (Some b)) && true) ≡ b
as_truth true = refl
as_truth false = refl

-- the test of the rowid
pub at_key : (n : ℤ) (more r : Row) → is_int (rowid r) ≡ true → list_all (holds ((Int n ∷ more) ∷ r ∷ [])) (where_is 0 0 ∷ []) ≡ has_rowid n r
unfolding binary
at_key n more r int = rw (int_is (rowid r) int) (as_truth _)

-- the test of a text column
pub at_text : (place : ℕ) (text : List ℕ) (more r : Row) → list_all (holds ((Text text ∷ more) ∷ r ∷ [])) (where_is place 0 ∷ []) ≡ is_eq (value_cmp (column r place) (Text text))
unfolding binary value_cmp
at_text place text more r = go (column r place)
  where
    go : (v : Value) → (is_true (binary (Compare Eq Binary) v (Text text)) && true) ≡ is_eq (value_cmp v (Text text))
    go Null = refl
    go (Int n) = as_truth _
    go (Real x) = as_truth _
    go (Text t) = as_truth _
    go (Blob b) = as_truth _

filter_both : {X : Type 0} (p q : X → Bool) (xs : List X) → filter q (filter p xs) ≡ filter (λ x. p x && q x) xs
filter_both p q [] = refl
filter_both p q (x ∷ xs) = elim (cases_Bool (p x)) [
  | inr other ↦ rw other (filter_both p q xs)
  | inl here ↦ elim (cases_Bool (q x)) [ inl also ↦ rw (here, also) (ap (λ l. x ∷ l) (filter_both p q xs)) | inr not_so ↦ rw (here, not_so) (filter_both p q xs) ]
]

abbrev pub lacks : List ℤ → Row → Bool
lacks ids r = list_all (λ id. not (has_rowid id r)) ids

pub all_stay : (rows : List Row) → rows ≡ filter (λ r. true) rows
all_stay [] = refl
all_stay (r ∷ rows) = ap (λ l. r ∷ l) (all_stay rows)

pub without_is : (ids : List ℤ) (rows : List Row) → without_all rows ids ≡ filter (lacks ids) rows
without_is [] rows = all_stay rows
without_is (id ∷ ids) rows = without_is ids (without_rowid id rows) ∙ filter_both (λ r. not (has_rowid id r)) (lacks ids) rows

pub once : (rows : List Row) → IsTable rows → OnceEach rows
once rows up a b h k tie = tied_same rows a b up h k tie

-- the rows at the rowids of those that pass a test are taken out, so those that fail it are left
pub cleared : (p : Row → Bool) (rows : List Row) (ids : List ℤ) → OnceEach rows → AreNumbered rows
    → ((id : ℤ) → Has ids id → (r : Row) × Has rows r × (p r ≡ true) × (rowid r ≡ Int id)) → ((r : Row) (id : ℤ) → Has rows r → p r ≡ true → rowid r ≡ Int id → Has ids id)
    → without_all rows ids ≡ filter (λ r. not (p r)) rows
cleared p rows ids up ints sound complete = without_is ids rows ∙ filter_same (lacks ids) (λ r. not (p r)) rows (all_from _ rows (λ r h. elim (cases_Bool (p r)) [
  | inl here ↦ rw here (let id = int_is (rowid r) (all_has _ rows r ints h) in
      fails_from _ ids (id_in (rowid r)) (complete r _ h here id) (ap (λ v. not (is_eq (value_cmp v (Int (id_in (rowid r)))))) id ∙ ap (λ o. not (is_eq o)) (tied_itself value_cmp_total (Int (id_in (rowid r))))))
  | inr other ↦ rw other (test_from _ ids (λ id k. ap not (false_from_ne_true _ (λ tie.
      let it = sound id k in
      let same = up r it.0 h it.1 ((Equal-is _).0 (rw it.3 tie)) in
      true≢false (sym it.2 ∙ ap p (sym same) ∙ other)))))
]))

-- ---- INSERT

either : (b : Bool) (x : Value) → cond b x x ≡ x
either true x = refl
either false x = refl

pub cast_null : cast Integer Null ≡ Null
unfolding unary
cast_null = either _ Null

pub cast_int : (n : ℤ) → cast Integer (Int n) ≡ Int n
unfolding unary
cast_int n = either _ (Int n)

-- a row that is put at a free rowid is one more row
pub put_permutes : (new : Row) (rows : List Row) → is_taken rows new ≡ false → IsPermutation (new ∷ rows) (put_row new rows)
put_permutes new [] free = IsPermutation-refl (new ∷ [])
put_permutes new (r ∷ rows) free = let parts = or_parts _ _ free in go (value_cmp (rowid r) (rowid new)) parts.0 (put_permutes new rows parts.1)
  where
    go : (o : Ordering) → is_eq o ≡ false → IsPermutation (new ∷ rows) (put_row new rows) → IsPermutation (new ∷ r ∷ rows) (match_ordering o (r ∷ put_row new rows) (new ∷ rows) (new ∷ r ∷ rows))
    go Less other later = IsPermutation-trans (new ∷ r ∷ rows) (r ∷ new ∷ rows) (r ∷ put_row new rows) (IsPermutation-swap (new ∷ r ∷ rows) (r ∷ new ∷ rows) 0 1 (omega arith) (omega arith) refl) (IsPermutation-cons r _ _ later)
    go Equal other later = absurd (cc)
    go Greater other later = IsPermutation-refl (new ∷ r ∷ rows)
