-- What the question on all that was taken from a neighbour answers of a state.
use Rattle.std.proofs.Common.{◌≡◌, ℕ, List, [], ◌∷◌, ◌++◌, Bool, true, false, cond, map, filter, refl, sym, ap, ap₂, subst, ◌∙◌, Some, unwrap_or, append-nil, append_assoc}
use Rattle.std.specs.Prelude.{find}
use Rattle.std.specs.List.{AllByRecursion, flat_map}
use Rattle.std.proofs.lemmas.Map.Text.{is_eq-slice_cmp}
use Rattle.std.proofs.lemmas.List.Elements.{filter-append}
use Rattle.sqlite.specs.declared.types.Value.TheVariants.{Text}
use Rattle.sqlite.specs.Order.{Row}
use Rattle.sqlite.specs.Tree.{IsAscending}
use Rattle.sqlite.specs.State as db
use Rattle.sqlite_sql.specs.declared.ops.CompareOp.TheVariants.{Eq}
use Rattle.sqlite_typed.proofs.TestLemmas.{at_texts, last_term}
use Rattle.uu_names.proofs.Basics.{later_other, text_from}
use Rattle.uu_check.proofs.Lists.{all_flat_of}
use Rattle.uu_schema.proofs.Terms.{where_is}
use Rattle.uu_schema.specs.Cells.{taken_cells}
use Rattle.uu_schema.specs.Schema as tables
use Rattle.uu_schema.specs.Schema.{spool_schema}
use Rattle.uu_core.specs.declared.custody.Taken.{Taken}
use Rattle.uu_core.specs.State.{State, Link, ComesBefore, is_link, new_link, link_of, same_text}
use Rattle.uu_tables.specs.declared.rows.TakenColumns.{TakenColumns}
use Rattle.uu_tables.specs.Tables.{tables_of, taken_columns, taken_rows}
use Rattle.uu_tables.specs.Changes.{is_taken_of}
use Rattle.uu_tables.proofs.InsertLemmas.{kept_none, kept_all}
use Rattle.uu_tables.proofs.RowLemmas.{each_made}
use Rattle.uu_rows.proofs.Back.{taken_back, taken_returns}
use Rattle.uu_rows.proofs.InOrder.{ascending_pairs}
use Rattle.uu_rows.proofs.InTables.{taken_are}
use Rattle.uu_questions.specs.Answers.{IsStateOf}
use Rattle.uu_questions.proofs.Texts.{taken_from_text}
use Rattle.uu_questions.specs.Walks.{Took}
use Rattle.uu_questions.proofs.Meanings.{taken_from_means}
use Rattle.uu_questions.proofs.Rising.{taken_rise}

-- ---- the rows of one link among those of all

abbrev Before : Link → Link → Type 0
Before a b = ComesBefore a.name b.name

abbrev its : List ℕ → List Link → Link
its name links = unwrap_or (find (is_link name) links) (new_link name)

taken_kept : (name : List ℕ) (links : List Link) → IsAscending Before links → filter (is_taken_of name) (flat_map taken_rows links) ≡ map (taken_columns name) (its name links).taken
taken_kept name [] up = refl
taken_kept name (l ∷ ls) up = filter-append p (taken_rows l) rest ∙ by_test (is_link name l) refl (taken_kept name ls up.1)
  where
    p : TakenColumns → Bool
    p = is_taken_of name

    rest : List TakenColumns
    rest = flat_map taken_rows ls

    by_test : (t : Bool) → is_link name l ≡ t → filter (is_taken_of name) (flat_map taken_rows ls) ≡ map (taken_columns name) (its name ls).taken
        → filter (is_taken_of name) (taken_rows l) ++ filter (is_taken_of name) (flat_map taken_rows ls) ≡ map (taken_columns name) (unwrap_or (cond t (Some l) (find (is_link name) ls)) (new_link name)).taken
    by_test true e more =
        let same : l.name ≡ name = text_from l.name name e in
        let others : AllByRecursion (λ r. is_taken_of name r ≡ false) (flat_map taken_rows ls) = all_flat_of (λ r. is_taken_of name r ≡ false) (Before l) taken_rows
        (λ x before. each_made (λ r. is_taken_of name r ≡ false) (taken_columns x.name) (λ t. ap (same_text x.name) (sym same) ∙ later_other l.name x.name before) x.taken) ls up.0 in
        ap₂ (λ a b. a ++ b) (kept_all (is_taken_of name) (taken_rows l) (each_made (λ r. is_taken_of name r ≡ true) (taken_columns l.name) (λ t. e) l.taken)) (kept_none (is_taken_of name) (flat_map taken_rows ls) others)
        ∙ append-nil (taken_rows l) ∙ ap (λ n. map (taken_columns n) l.taken) same
    by_test false e more = ap (λ rows. rows ++ filter (is_taken_of name) (flat_map taken_rows ls)) (kept_none (is_taken_of name) (taken_rows l) (each_made (λ r. is_taken_of name r ≡ false) (taken_columns l.name) (λ t. e) l.taken)) ∙ more

-- ---- row after row

module _ {X : Type 0} (taken : X → List Taken) where
  abbrev pub Lists : X → Row → X → Type 0
  Lists old row new = (shown : TakenColumns) × (row ≡ taken_cells shown) × (taken new ≡ taken old ++ shown.taken ∷ [])

  same_row : (a b : TakenColumns) → taken_cells a ≡ taken_cells b → b ≡ a
  same_row a b h = sym (taken_returns b) ∙ ap taken_back (sym h) ∙ taken_returns a

  walked : (name : List ℕ) (ts : List Taken) (before after : X) → Took Lists before (map taken_cells (map (taken_columns name) ts)) after → taken after ≡ taken before ++ ts
  walked name [] before after h = ap taken (sym h) ∙ sym (append-nil (taken before))
  walked name (t ∷ ts) before after h =
      let one : h.1.0 ≡ taken_columns name t = same_row (taken_columns name t) h.1.0 h.1.1 in
      walked name ts h.0 after h.2 ∙ ap (λ l. l ++ ts) (h.1.2 ∙ ap (λ (r : TakenColumns). taken before ++ r.taken ∷ []) one) ∙ append_assoc (taken before) (t ∷ []) ts

  pub taken_listed : (old new : db.State) (s : State) (name : List ℕ) (rows : List Row) (before after : X) → IsStateOf s old → db.Shown taken_from_text (Text name ∷ []) old new rows → taken before ≡ [] → Took Lists before rows after
      → taken after ≡ (link_of s name).taken
  taken_listed old new s name rows before after of h none took =
      let all = (tables_of s).taken in
      let shown = taken_are spool_schema old new rows of.stands.schema taken_from_text _ (Text name ∷ []) (where_is 1 0 ∷ []) h tables.taken.tree taken_from_means (λ r. refl) all of.holds.taken.same (taken_rise s of.good) (is_taken_of name) (λ x. last_term (at_texts false Eq x.system name ∙ is_eq-slice_cmp x.system name)) in
      let its_rows = shown ∙ ap (map taken_cells) (taken_kept name s.links (ascending_pairs Before s.links of.good.by_link)) in
      walked name (link_of s name).taken before after (subst (λ rs. Took Lists before rs after) its_rows took) ∙ ap (λ l. l ++ (link_of s name).taken) none
