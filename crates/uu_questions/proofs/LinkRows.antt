-- What the questions on a link answer of a state.
use Rattle.std.proofs.Common.{◌≡◌, ℕ, zero, suc, pos, List, [], ◌∷◌, ◌++◌, ◌==◌, Bool, true, false, cond, filter, refl, sym, ap, ◌∙◌, Option, Some, None, option_map, slice_get, unwrap_or}
use Rattle.std.specs.Prelude.{◌&&◌, find, IfSome}
use Rattle.std.specs.List.{AllByRecursion, flat_map}
use Rattle.std.proofs.lemmas.Map.Text.{is_eq-slice_cmp}
use Rattle.std.proofs.lemmas.Option.{slice_get-map}
use Rattle.sqlite.specs.declared.types.Value.TheVariants.{Int, Text}
use Rattle.sqlite.specs.Order.{Row}
use Rattle.sqlite.specs.Tree.{IsAscending}
use Rattle.sqlite.specs.State as db
use Rattle.sqlite_sql.specs.declared.ops.CompareOp.TheVariants.{Eq}
use Rattle.sqlite_typed.proofs.TestLemmas.{at_ints, at_texts, then_term, last_term}
use Rattle.sqlite_keyed.proofs.ListLemmas.{slice_get-filter}
use Rattle.uu_names.proofs.Basics.{later_other, text_from, find_same, int_eq-pos, find-map}
use Rattle.uu_check.proofs.Lists.{all_flat_of}
use Rattle.uu_schema.proofs.Terms.{where_is}
use Rattle.uu_core.specs.declared.custody.Taken.{Taken}
use Rattle.uu_core.specs.State.{State, Link, ComesBefore, is_link, is_taken, new_link, link_of, taken_at, same_text}
use Rattle.uu_tables.specs.declared.rows.LinkColumns.{LinkColumns}
use Rattle.uu_tables.specs.declared.rows.TakenColumns.{TakenColumns}
use Rattle.uu_tables.specs.Tables.{tables_of, links_from, links_of, taken_columns, taken_rows}
use Rattle.uu_tables.specs.Changes.{is_link_of}
use Rattle.uu_tables.proofs.SystemLemmas.{each_link}
use Rattle.uu_tables.proofs.RowLemmas.{each_made}
use Rattle.uu_schema.specs.Cells.{link_cells, taken_cells}
use Rattle.uu_schema.specs.Schema as tables
use Rattle.uu_schema.specs.Schema.{spool_schema}
use Rattle.uu_questions.specs.Answers.{IsStateOf}
use Rattle.uu_questions.specs.Links.{below_in, taken_in}
use Rattle.uu_questions.proofs.Texts.{link_text, taken_text}
use Rattle.uu_questions.proofs.Meanings.{link_means, taken_means}
use Rattle.uu_rows.proofs.InOrder.{ascending_pairs}
use Rattle.uu_questions.proofs.Rising.{links_rise, taken_rise}
use Rattle.uu_rows.proofs.Back.{same_one, link_back, link_returns, taken_back, taken_returns}
use Rattle.uu_rows.proofs.InTables.{links_are, taken_are}

-- ---- what is found in lists, one after the other

find_front : {X : Type 0} (p : X → Bool) (xs ys : List X) → AllByRecursion (λ x. p x ≡ false) ys → find p (xs ++ ys) ≡ find p xs
find_front p [] [] h = refl
find_front p [] (y ∷ ys) h = rw h.0 (find_front p [] ys h.1)
find_front p (x ∷ xs) ys h = ap (λ o. cond (p x) (Some x) o) (find_front p xs ys h)

find_back : {X : Type 0} (p : X → Bool) (xs ys : List X) → AllByRecursion (λ x. p x ≡ false) xs → find p (xs ++ ys) ≡ find p ys
find_back p [] ys h = refl
find_back p (x ∷ xs) ys h = rw h.0 (find_back p xs ys h.1)

-- ---- the rows of one link

abbrev Before : Link → Link → Type 0
Before a b = ComesBefore a.name b.name

abbrev its : List ℕ → List Link → Link
its name links = unwrap_or (find (is_link name) links) (new_link name)

below_first : (name other : List ℕ) (n : ℕ) → same_text other name ≡ true → below_in (find (is_link_of name) (links_from other n)) ≡ n
below_first name other zero e = refl
below_first name other (suc n) e = rw e refl

below_found : (name : List ℕ) (links : List Link) → IsAscending Before links → below_in (find (is_link_of name) (flat_map links_of links)) ≡ (its name links).below
below_found name [] up = refl
below_found name (l ∷ ls) up = by_test (is_link name l) refl (below_found name ls up.1)
  where
    by_test : (t : Bool) → is_link name l ≡ t → below_in (find (is_link_of name) (flat_map links_of ls)) ≡ (its name ls).below → below_in (find (is_link_of name) (links_of l ++ flat_map links_of ls)) ≡ (unwrap_or (cond t (Some l) (find (is_link name) ls)) (new_link name)).below
    by_test true e rest =
        let same : l.name ≡ name = text_from l.name name e in
        let others : AllByRecursion (λ r. is_link_of name r ≡ false) (flat_map links_of ls) = all_flat_of (λ r. is_link_of name r ≡ false) (Before l) links_of (λ x before. each_link (λ r. is_link_of name r ≡ false) x.name (λ below. ap (same_text x.name) (sym same) ∙ later_other l.name x.name before) x.below) ls up.0 in
        ap below_in (find_front (is_link_of name) (links_of l) (flat_map links_of ls) others) ∙ below_first name l.name l.below e
    by_test false e rest = ap below_in (find_back (is_link_of name) (links_of l) (flat_map links_of ls) (each_link (λ r. is_link_of name r ≡ false) l.name (λ below. e) l.below)) ∙ rest

abbrev is_row : List ℕ → ℕ → TakenColumns → Bool
is_row name number r = same_text r.system name && (r.taken.number == number)

taken_found : (name : List ℕ) (number : ℕ) (links : List Link) → IsAscending Before links → taken_in (find (is_row name number) (flat_map taken_rows links)) ≡ taken_at (its name links) number
taken_found name number [] up = refl
taken_found name number (l ∷ ls) up = by_test (is_link name l) refl (taken_found name number ls up.1)
  where
    mapped : (o : Option Taken) → taken_in (option_map (taken_columns l.name) o) ≡ o
    mapped None = refl
    mapped (Some t) = refl

    by_test : (t : Bool) → is_link name l ≡ t → taken_in (find (is_row name number) (flat_map taken_rows ls)) ≡ taken_at (its name ls) number
        → taken_in (find (is_row name number) (taken_rows l ++ flat_map taken_rows ls)) ≡ taken_at (unwrap_or (cond t (Some l) (find (is_link name) ls)) (new_link name)) number
    by_test true e rest =
        let same : l.name ≡ name = text_from l.name name e in
        let others : AllByRecursion (λ r. is_row name number r ≡ false) (flat_map taken_rows ls) = all_flat_of (λ r. is_row name number r ≡ false) (Before l) taken_rows
        (λ x before. each_made (λ r. is_row name number r ≡ false) (taken_columns x.name) (λ t. ap (λ b. b && (t.number == number)) (ap (same_text x.name) (sym same) ∙ later_other l.name x.name before)) x.taken) ls up.0 in
        ap taken_in (find_front (is_row name number) (taken_rows l) (flat_map taken_rows ls) others ∙ find-map (is_row name number) (taken_columns l.name) l.taken)
        ∙ mapped (find (λ t. is_row name number (taken_columns l.name t)) l.taken) ∙ find_same (λ t. is_row name number (taken_columns l.name t)) (is_taken number) (λ t. ap (λ b. b && (t.number == number)) e) l.taken
    by_test false e rest = ap taken_in (find_back (is_row name number) (taken_rows l) (flat_map taken_rows ls) (each_made (λ r. is_row name number r ≡ false) (taken_columns l.name) (λ t. ap (λ b. b && (t.number == number)) e) l.taken)) ∙ rest

-- ---- the answers

any : {X : Type 0} (o : Option X) → IfSome o (λ _. Unit {0})
any None = tt
any (Some x) = tt

module _ (old new : db.State) (s : State) (rows : List Row) (of : IsStateOf s old) where
  links_up : IsAscending Before s.links
  links_up = ascending_pairs Before s.links of.good.by_link

  pub link_answer : (name : List ℕ) → db.Shown link_text (Text name ∷ []) old new rows → (found : Option LinkColumns) → option_map link_cells found ≡ slice_get rows 0 → below_in found ≡ (link_of s name).below
  link_answer name h found is =
      let p = is_link_of name in
      let all = (tables_of s).links in
      let shown = links_are spool_schema old new rows of.stands.schema link_text _ (Text name ∷ []) (where_is 1 0 ∷ []) h tables.links.tree link_means (λ r. refl) all of.holds.links.same (links_rise s of.good) p (λ x. last_term (at_texts false Eq x.system name ∙ is_eq-slice_cmp x.system name)) in
      let first = ap (λ rs. slice_get rs 0) shown ∙ slice_get-map link_cells (filter p all) 0 ∙ ap (option_map link_cells) (slice_get-filter p all) in
      ap below_in (same_one link_cells link_back (λ _. Unit {0}) (λ x good. link_returns x) found (find p all) (any found) (any (find p all)) (is ∙ first)) ∙ below_found name s.links links_up

  pub taken_answer : (name : List ℕ) (number : ℕ) → db.Shown taken_text (Text name ∷ Int (pos number) ∷ []) old new rows → (found : Option TakenColumns) → option_map taken_cells found ≡ slice_get rows 0 → taken_in found ≡ taken_at (link_of s name) number
  taken_answer name number h found is =
      let p = is_row name number in
      let all = (tables_of s).taken in
      let shown = taken_are spool_schema old new rows of.stands.schema taken_text _ (Text name ∷ Int (pos number) ∷ []) (where_is 1 0 ∷ where_is 2 1 ∷ []) h tables.taken.tree taken_means (λ r. refl) all of.holds.taken.same (taken_rise s of.good) p
      (λ x. then_term (at_texts false Eq x.system name ∙ is_eq-slice_cmp x.system name) (last_term (at_ints false Eq (pos x.taken.number) (pos number) ∙ int_eq-pos x.taken.number number))) in
      let first = ap (λ rs. slice_get rs 0) shown ∙ slice_get-map taken_cells (filter p all) 0 ∙ ap (option_map taken_cells) (slice_get-filter p all) in
      ap taken_in (same_one taken_cells taken_back (λ _. Unit {0}) (λ x good. taken_returns x) found (find p all) (any found) (any (find p all)) (is ∙ first)) ∙ taken_found name number s.links links_up
