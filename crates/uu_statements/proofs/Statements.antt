-- What one INSERT, UPDATE or DELETE makes of a table with a key, for any of the tables.
use Rattle.std.proofs.Common.{◌≡◌, ◌≢◌, inl, inr, ℕ, ℤ, pos, List, [], ◌∷◌, map, slice_get, false, true, Bool, Some, None, Option, Ok, refl, sym, ap, subst, ◌∙◌, true≢false, Bor}
use Rattle.std.specs.Prelude.{not, filter, option_map, IsTrue}
use Rattle.std.specs.List.{list_all}
use Rattle.std.specs.List.Sorted.{IsPermutation}
use Rattle.std.specs.Ordering.{is_eq}
use Rattle.std.proofs.lemmas.Bool.{and_parts, not-true}
use Rattle.std.proofs.lemmas.Cmp.{tied_itself}
use Rattle.sqlite.specs.declared.types.Value.{Value}
use Rattle.sqlite.specs.declared.types.Value.TheVariants.{Null, Int, Text}
use Rattle.sqlite.specs.Order.{Row, column, value_cmp}
use Rattle.sqlite.specs.Kind.TheVariants as kind
use Rattle.sqlite.specs.Cast.{cast}
use Rattle.sqlite.specs.Values.{or_null, bound_value}
use Rattle.sqlite.specs.Term.{Term, col, eval_all, holds}
use Rattle.sqlite.specs.Table.{Table}
use Rattle.sqlite.specs.Tree.{Trees, rowid, put_row}
use Rattle.sqlite.specs.View.{is_int}
use Rattle.sqlite.specs.Source.TheVariants.{Values}
use Rattle.sqlite.specs.Command.TheVariants.{Insert, Update, Delete}
use Rattle.sqlite.specs.Edit.{Edit, edit_of, id_in, is_taken, taken_by, Applies}
use Rattle.sqlite.specs.Rowids.TheVariants.{Given}
use Rattle.sqlite.specs.Program.{overlay}
use Rattle.sqlite_value.specs.Keys.{plain}
use Rattle.sqlite_value.proofs.OrderLemmas.{value_cmp_total}
use Rattle.sqlite_schema.specs.Rules.{agree, clashes, Fits}
use Rattle.sqlite_schema.specs.declared.schema.Keys.TheVariants.{Enforced}
use Rattle.sqlite_schema.specs.declared.program.Program.{Program}
use Rattle.sqlite_rules.specs.Action.{works, Writes as WritesTrees}
use Rattle.sqlite_rules.specs.Calls.{ids_of}
use Rattle.sqlite_rules.specs.Lists.{Has}
use Rattle.sqlite_rules.proofs.ActionLemmas.{no_works}
use Rattle.sqlite_rules.proofs.ListLemmas.{all_has, has_filtered}
use Rattle.sqlite_rules.proofs.TableLemmas.{int_is}
use Rattle.sqlite_keyed.proofs.ListLemmas.{none_from_any}
use Rattle.sqlite.specs.Listing.{understood}
use Rattle.sqlite.specs.State.{State, Executes}
use Rattle.sqlite.proofs.Callers.{IsPlain, command_of, statement_of, runs_as, one_permutation, one_step}
use Rattle.uu_names.proofs.Basics.{one_mapped}
use Rattle.uu_schema.specs.Rowids.{AreNumbered}
use Rattle.uu_schema.specs.Steps.{Stands}
use Rattle.uu_schema.proofs.Terms.{over}
use Rattle.uu_schema.proofs.Rows.{over_rows}
use Rattle.uu_schema.proofs.Rowids.{picked_gone}
use Rattle.uu_schema.proofs.Writes.{insert_ran, insert_applies, inserted, update_ran, update_writes, delete_ran, delete_writes}
use Rattle.uu_tables.specs.Changes.{alter, without}
use Rattle.uu_schema.specs.Schema.{spool_schema}
use Rattle.uu_schema.specs.Keyed.{columns, Keyed}
use Rattle.uu_schema.specs.Made.{KeepsOtherTables}
use Rattle.uu_schema.proofs.Keeps.{keeps_one}
use Rattle.uu_statements.proofs.Keyed.{reordered, one_more, picked, picked_rows, altered, fewer, none_change, no_permutation, none_mapped}
use Rattle.uu_statements.proofs.Unique.{fresh_key}

-- ---- keys that are new

-- by the index of a key
pub fresh_by_index : {K X : Type 0} (key : X → K) (cells : X → Row) (places own : List ℕ) (x : X) (r : Row) (rows : List Row) → IsTrue (is_int (rowid r)) → AreNumbered rows → is_taken rows r ≡ false
    → ((s : Row) → Has (put_row r rows) s → clashes plain own (put_row r rows) s ≡ false) → ((y : X) (s : Row) → columns places s ≡ cells y → key y ≡ key x → agree plain own r own s ≡ true)
    → (y : X) (s : Row) → Has rows s → columns places s ≡ cells y → key y ≢ key x
fresh_by_index key cells places own x r rows int numbered free unique agrees y s there shows same = true≢false (sym (agrees y s shows same) ∙ fresh_key own r rows int numbered free unique s there)

-- by the rowid
pub fresh_by_number : {X : Type 0} (key : X → ℕ) (cells : X → Row) (places : List ℕ) (x : X) (r : Row) (rows : List Row) → rowid r ≡ Int (pos (key x)) → is_taken rows r ≡ false
    → ((y : X) (s : Row) → columns places s ≡ cells y → rowid s ≡ Int (pos (key y))) → (y : X) (s : Row) → Has rows s → columns places s ≡ cells y → key y ≢ key x
fresh_by_number key cells places x r rows keyed free reads y s there shows same =
    let untied : is_eq (value_cmp (rowid s) (rowid r)) ≡ false = all_has (λ z. is_eq (value_cmp (rowid z) (rowid r)) ≡ false) rows s (none_from_any (λ z. is_eq (value_cmp (rowid z) (rowid r))) rows free) there in
    let alike : rowid s ≡ rowid r = reads y s shows ∙ ap (λ n. Int (pos n)) same ∙ sym keyed in
    true≢false (sym (ap is_eq (tied_itself value_cmp_total (rowid r))) ∙ ap (λ v. is_eq (value_cmp v (rowid r))) (sym alike) ∙ untied)

module _ (old new : State) (stands : Stands spool_schema old.now) (sql : List ℕ) (params : Row) (count at : ℕ) (bare : Table) (found : slice_get spool_schema.tables at ≡ Some (record bare { is_counted = false })) where
  abbrev table : Table
  table = record bare { is_counted = false }

  abbrev pub db : Trees
  db = old.now.trees

  abbrev pub next : Trees
  next = new.now.trees

  abbrev pub rows : List Row
  rows = db bare.tree

  -- ---- one row more

  abbrev pub adds : Row → Edit
  adds row = record { table = table; gone = []; news = row ∷ [] }

  module _ {K X : Type 0} (key : X → K) (cells : X → Row) (places : List ℕ) where
    pub row_added : (terms : List Term) (width : ℕ) → command_of (understood spool_schema sql) ≡ Insert at (Values terms width) → IsPlain (understood spool_schema sql) → Executes sql params old new (Ok count) → (x : X) (row : Row)
        → inserted old new spool_schema stands.schema at bare found (statement_of sql (understood spool_schema sql)) params count terms width ≡ adds row → columns places row ≡ cells x → is_int (rowid row) ≡ true
        → (Fits spool_schema next → next bare.tree ≡ put_row row rows → is_taken rows row ≡ false → AreNumbered rows → (y : X) (s : Row) → Has rows s → columns places s ≡ cells y → key y ≢ key x)
        → Stands spool_schema new.now × ((xs ys : List X) → IsPermutation (x ∷ xs) ys → Keyed key cells places xs rows → Keyed key cells places ys (next bare.tree)) × KeepsOtherTables (bare.tree ∷ []) db next
    row_added terms width is plain h x row edit shows int fresh =
        let text = statement_of sql (understood spool_schema sql) in
        let w = runs_as sql params old new spool_schema stands.schema (Insert at (Values terms width)) is plain count h in
        let ran = insert_ran old new spool_schema stands.schema at bare found text params count (Values terms width) w in
        let a = subst (λ (e : Edit). Applies spool_schema Enforced db e next) edit (insert_applies old new spool_schema stands.schema at bare found text params count terms width ran) in
        let free : is_taken rows row ≡ false = not-true _ (and_parts (not (is_taken rows row)) true a.fresh).0 in (
          ran.stands,
          (λ xs ys same held. subst (Keyed key cells places ys) (sym a.rows) (reordered key cells places (x ∷ xs) ys (put_row row rows) same (one_more key cells places x xs row rows held shows int free (fresh a.fits a.rows free held.numbered)))),
          keeps_one (adds row) db next a,
        )

  -- ---- one row in the place of another

  abbrev pub puts : ℤ → Row → Edit
  puts id row = record { table = table; gone = id ∷ []; news = row ∷ [] }

  module _ {K X : Type 0} (key : X → K) (cells : X → Row) (places : List ℕ) (p : X → Bool) (q test : Row → Bool) (on_cells : (x : X) → test (cells x) ≡ p x) (on_rows : (r : Row) → test (columns places r) ≡ q r)
      (one : (x y : X) → p x ≡ true → p y ≡ true → key x ≡ key y) (f : X → X) (same_key : (x : X) → p x ≡ true → key (f x) ≡ key x) where
    pub row_altered : (tests terms : List Term) → command_of (understood spool_schema sql) ≡ Update at (record { lets = []; body = over bare.tree tests terms }) → IsPlain (understood spool_schema sql) → Executes sql params old new (Ok count)
        → overlay db [] bare.tree ≡ rows → (AreNumbered rows → filter (λ r. list_all (holds (params ∷ r ∷ [])) tests) rows ≡ filter q rows) → (row : X → ℤ → Row)
        → ((x : X) (was : Row) (id : ℤ) → rowid was ≡ Int id → columns places was ≡ cells x → eval_all terms (params ∷ was ∷ []) ≡ Int id ∷ row x id)
        → ((x : X) (id : ℤ) → edit_of db table (id ∷ []) Given 1 ((Int id ∷ row x id) ∷ []) ≡ puts id (row x id)) → ((x : X) (id : ℤ) → rowid (row x id) ≡ Int id)
        → ((x : X) (was : Row) (id : ℤ) → p x ≡ true → rowid was ≡ Int id → columns places was ≡ cells x → columns places (row x id) ≡ cells (f x)) → ((olds : List Row) (r : Row) → works spool_schema Enforced 0 bare.tree olds (r ∷ []) ≡ [])
        → Stands spool_schema new.now × ((xs : List X) → Keyed key cells places xs rows → Keyed key cells places (alter p f xs) (next bare.tree) × KeepsOtherTables (bare.tree ∷ []) db next)
    row_altered tests terms is plain h bare_tree finds row evals casts keyed shows none_due =
        let text = statement_of sql (understood spool_schema sql) in
        let program : Program = record { lets = []; body = over bare.tree tests terms } in
        let w = runs_as sql params old new spool_schema stands.schema (Update at program) is plain count h in
        let ran = update_ran old new spool_schema stands.schema at bare found text params count program w in
        let wrote = update_writes old new spool_schema stands.schema at bare found text params count program ran in
        let eval : Row → Row = λ r. eval_all terms (params ∷ r ∷ []) in
        let order = over_rows db bare.tree tests terms params wrote.0 bare_tree (wrote.1.answer Null) in (
          ran.stands,
          λ xs held.
              let all = subst (λ l. IsPermutation (map eval l) wrote.0) (finds held.numbered) order in
              let matching = picked_rows key cells places p q test on_cells on_rows xs rows held.same in
              elim (picked key p one xs held.apart) [
                | inl none ↦
                    let no_row : filter q rows ≡ [] = none_mapped (columns places) _ (no_permutation _ (subst (λ l. IsPermutation (map cells l) (map (columns places) (filter q rows))) none matching)) in
                    let nothing : wrote.0 ≡ [] = no_permutation wrote.0 (subst (λ l. IsPermutation (map eval l) wrote.0) no_row all) in
                    let did = subst (λ rs. WritesTrees spool_schema Enforced db (edit_of db table (ids_of rs) Given 1 rs) (Ok next)) nothing wrote.2 in
                    let edit : Edit = record { table = table; gone = []; news = [] } in
                    let a = one_step spool_schema Enforced db next edit (no_works spool_schema Enforced 0 bare.tree []) did in
                    (subst (Keyed key cells places _) (sym a.rows) (subst (λ ys. Keyed key cells places ys rows) (sym (none_change p f xs none)) held), keeps_one edit db next a)
                | inr only ↦
                    let x = only.0 in
                    let own : p x ≡ true = (has_filtered p xs x (subst (λ l. Has l x) (sym only.1) (inl refl))).1 in
                    let it = one_mapped (columns places) (filter q rows) (cells x) (one_permutation _ _ (subst (λ l. IsPermutation (map cells l) (map (columns places) (filter q rows))) only.1 matching)) in
                    let was = it.0 in
                    let id = id_in (rowid was) in
                    let there = has_filtered q rows was (subst (λ l. Has l was) (sym it.1) (inl refl)) in
                    let old_key : rowid was ≡ Int id = int_is (rowid was) (all_has (λ r. IsTrue (is_int (rowid r))) rows was held.numbered there.0) in
                    let now : wrote.0 ≡ (Int id ∷ row x id) ∷ [] = one_permutation _ wrote.0 (subst (λ l. IsPermutation (map eval l) wrote.0) it.1 all) ∙ ap (λ r. r ∷ []) (evals x was id old_key it.2) in
                    let did = subst (λ rs. WritesTrees spool_schema Enforced db (edit_of db table (ids_of rs) Given 1 rs) (Ok next)) now wrote.2 in
                    let edit = puts id (row x id) in
                    let a = one_step spool_schema Enforced db next edit (none_due (taken_by db edit) (row x id)) (subst (λ (e : Edit). WritesTrees spool_schema Enforced db e (Ok next)) (casts x id) did) in
                    (subst (Keyed key cells places _) (sym a.rows) (altered key cells places p q test on_cells on_rows f same_key xs rows held x only.1 was (row x id) it.1 id old_key (keyed x id) (shows x was id own old_key it.2)), keeps_one edit db next a)
              ],
        )

  -- ---- rows that go

  abbrev pub takes : List ℤ → Edit
  takes ids = record { table = table; gone = ids; news = [] }

  -- those that pass; no row refers to them, so nothing else differs
  module _ {K X : Type 0} (key : X → K) (cells : X → Row) (places : List ℕ) (p : X → Bool) (q test : Row → Bool) (on_cells : (x : X) → test (cells x) ≡ p x) (on_rows : (r : Row) → test (columns places r) ≡ q r) where
    pub rows_gone : (tests : List Term) → command_of (understood spool_schema sql) ≡ Delete at (record { lets = []; body = over bare.tree tests (col 1 0 ∷ []) }) → IsPlain (understood spool_schema sql) → Executes sql params old new (Ok count)
        → overlay db [] bare.tree ≡ rows → ((xs : List X) → Keyed key cells places xs rows → filter (λ r. list_all (holds (params ∷ r ∷ [])) tests) rows ≡ filter q rows) → ((olds : List Row) → works spool_schema Enforced 0 bare.tree olds [] ≡ [])
        → Stands spool_schema new.now × ((xs : List X) → Keyed key cells places xs rows → Keyed key cells places (without p xs) (next bare.tree) × KeepsOtherTables (bare.tree ∷ []) db next)
    rows_gone tests is plain h bare_tree finds none_due =
        let text = statement_of sql (understood spool_schema sql) in
        let program : Program = record { lets = []; body = over bare.tree tests (col 1 0 ∷ []) } in
        let w = runs_as sql params old new spool_schema stands.schema (Delete at program) is plain count h in
        let ran = delete_ran old new spool_schema stands.schema at bare found text params count program w in
        let wrote = delete_writes old new spool_schema stands.schema at bare found text params count program ran in
        let order = over_rows db bare.tree tests (col 1 0 ∷ []) params wrote.0 bare_tree (wrote.1.answer Null) in
        let edit = takes (ids_of wrote.0) in
        let a = one_step spool_schema Enforced db next edit (none_due (taken_by db edit)) wrote.2 in (
          ran.stands,
          λ xs held.
              let shown = subst (λ l. IsPermutation l wrote.0) (ap (map (λ r. column r 0 ∷ [])) (finds xs held)) order in
              let left : next bare.tree ≡ filter (λ r. not (q r)) rows = a.rows ∙ picked_gone q rows wrote.0 held.once held.numbered shown in
              (subst (Keyed key cells places _) (sym left) (fewer key cells places p q test on_cells on_rows xs rows held), keeps_one edit db next a),
        )

-- ---- values that may be NULL

pub cast_text : (text : Option (List ℕ)) → cast kind.Text (or_null Text text) ≡ or_null Text text
cast_text None = refl
cast_text (Some t) = refl

-- what is bound of them
pub bound_text : (text : Option (Bor (List ℕ))) (value : Value) → value ≡ or_null (λ t. Text t.now) text → bound_value value ≡ or_null Text (option_map (λ t. t.now) text)
bound_text None value is = ap bound_value is
bound_text (Some text) value is = ap bound_value is
