-- What the question on the table `spool` says of it, both ways.
use Rattle.std.proofs.Common.{◌≡◌, ◌≢◌, ℕ, Option, Some, None, List, [], ◌∷◌, map, refl, sym, ap, subst, ◌∙◌}
use Rattle.std.specs.Prelude.{MatchOption}
use Rattle.std.specs.List.{AllByRecursion}
use Rattle.std.specs.List.Sorted.{IsPermutation}
use Rattle.std.proofs.lemmas.List.Sorted.{IsPermutation-sym}
use Rattle.sqlite.specs.declared.types.Value.TheVariants.{Null}
use Rattle.sqlite.specs.Order.{Row, column}
use Rattle.sqlite.specs.State as db
use Rattle.sqlite.proofs.Callers.{one_permutation}
use Rattle.uu_names.proofs.Basics.{one_mapped}
use Rattle.uu_schema.specs.Steps.{Stands}
use Rattle.uu_schema.proofs.Rows.{all_stay}
use Rattle.uu_schema.proofs.Answers.{answer_of, answer_moved}
use Rattle.uu_schema.specs.declared.version.Version.{Version}
use Rattle.uu_schema.specs.Schema.{spool}
use Rattle.uu_schema.specs.Made.{spool_row_of}
use Rattle.uu_schema.specs.Earlier.{schema_of}
use Rattle.uu_rows.specs.Readable.{IsSmall}
use Rattle.uu_adopt.specs.Texts.{spool_text}
use Rattle.uu_adopt.specs.Reading.{spool_cells}
use Rattle.uu_rows.proofs.Meanings.{at_places}
use Rattle.uu_adopt.proofs.Meanings.{spool_means}
use Rattle.uu_adopt.proofs.Sound.{IsSpoolRow, spool_rows_are}

abbrev spool_shown : Row → Row
spool_shown r = column r 0 ∷ column r 2 ∷ column r 3 ∷ []

module _ (v : Version) (old new : db.State) (rows : List Row) (stands : Stands (schema_of v) old.now) (h : db.Shown spool_text [] old new rows) where
  spool_moved : IsPermutation (map spool_shown (old.now.trees spool.tree)) rows
  spool_moved =
      let a = answer_of (schema_of v) spool_text _ _ [] old new (spool_means v) stands.schema rows h in
      subst (λ l. IsPermutation (map spool_shown l) rows) (sym (all_stay (old.now.trees spool.tree))) (answer_moved spool.tree [] (at_places (0 ∷ 2 ∷ 3 ∷ [])) [] old.now.trees [] rows refl a)

  pub next_found : (next : ℕ) → rows ≡ spool_cells v next ∷ [] → old.now.trees spool.tree ≡ spool_row_of v next ∷ []
  next_found next is =
      let one = one_permutation (spool_cells v next) (map spool_shown (old.now.trees spool.tree)) (IsPermutation-sym _ _ (subst (IsPermutation (map spool_shown (old.now.trees spool.tree))) is spool_moved)) in
      let r = one_mapped spool_shown (old.now.trees spool.tree) (spool_cells v next) one in
      let typed : IsSpoolRow r.0 = (subst (AllByRecursion IsSpoolRow) r.1 (spool_rows_are v old.now.trees stands.sound)).0 in
      let same : r.0 ≡ spool_row_of v next = typed ∙ ap (λ (cells : Row). column cells 0 ∷ Null ∷ column cells 1 ∷ column cells 2 ∷ []) r.2 in
      r.1 ∙ ap (λ x. x ∷ []) same

  pub next_held : (next : ℕ) → old.now.trees spool.tree ≡ spool_row_of v next ∷ [] → rows ≡ spool_cells v next ∷ []
  next_held next is = one_permutation (spool_cells v next) rows (subst (λ l. IsPermutation (map spool_shown l) rows) is spool_moved)

  -- what is found among the rows is what the table has
  pub next_seen : (found : Option ℕ) → MatchOption found ((next : ℕ) → IsSmall next → rows ≢ spool_cells v next ∷ []) (λ next. rows ≡ spool_cells v next ∷ [])
      → MatchOption found ((next : ℕ) → IsSmall next → old.now.trees spool.tree ≢ spool_row_of v next ∷ []) (λ next. old.now.trees spool.tree ≡ spool_row_of v next ∷ [])
  next_seen None none = λ next small is. none next small (next_held next is)
  next_seen (Some next) is = next_found next is
