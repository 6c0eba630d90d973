-- What is taken of each table.
use Rattle.std.proofs.Common.{◌≡◌, ℕ, List, [], ◌∷◌, true, map, codes, refl, ap, subst, ◌∙◌, Option, Vec}
use Rattle.std.specs.declared.alloc.Global.{Global}
use Rattle.uu_names.proofs.Basics.{filter_all}
use Rattle.sqlite.specs.Order.{Row, column}
use Rattle.sqlite.specs.Effect.{Database}
use Rattle.sqlite.specs.Query.{IsAnswer}
use Rattle.sqlite.specs.Program.{overlay}
use Rattle.sqlite.specs.State as db
use Rattle.uu_schema.specs.Steps.{Stands}
use Rattle.uu_schema.proofs.Asks.{Means, ordered}
use Rattle.uu_schema.proofs.Answers.{answer_of}
use Rattle.uu_tables.specs.declared.rows.SystemColumns.{SystemColumns}
use Rattle.uu_tables.specs.declared.earlier.BareSystem.{BareSystem}
use Rattle.uu_tables.specs.declared.earlier.Piece.{Piece}
use Rattle.uu_tables.specs.declared.earlier.LineColumns.{LineColumns}
use Rattle.uu_tables.specs.declared.earlier.RangeColumns.{RangeColumns}
use Rattle.uu_tables.specs.declared.rows.EntryColumns.{EntryColumns}
use Rattle.uu_tables.specs.declared.earlier.WaitColumns.{WaitColumns}
use Rattle.uu_tables.specs.declared.rows.LinkColumns.{LinkColumns}
use Rattle.uu_tables.specs.declared.rows.TakenColumns.{TakenColumns}
use Rattle.uu_schema.specs.declared.version.Version.TheVariants.{First, Second, Third, Fourth}
use Rattle.uu_schema.specs.declared.version.Version.{Version}
use Rattle.uu_schema.specs.Schema.{systems, links, taken}
use Rattle.uu_schema.specs.Held.{system_key, entry_key, link_key, taken_key, system_places, entry_places, link_places, taken_places}
use Rattle.uu_schema.specs.HeldEarlier.{bare_key, line_key, range_key, piece_key, wait_key, line_places, range_places, piece_places, wait_places}
use Rattle.uu_schema.specs.Cells.{system_cells, entry_cells, link_cells, taken_cells, bare_cells, line_cells, range_cells, wait_cells, piece_cells}
use Rattle.uu_schema.specs.Earlier.{schema_of, IsEarlierVersion, old_systems, lines, ranges, pieces, success_waits, old_links, old_taken}
use Rattle.uu_rows.specs.Readable.{IsTypedSystem, IsTypedEntry, IsTypedLink, IsTypedTaken, IsTypedBare, IsTypedLine, IsTypedRange, IsTypedWait, IsTypedPiece}
use Rattle.uu_tables.specs.Order.{system_cmp, entry_cmp, link_cmp, taken_cmp, bare_system_cmp, line_cmp, range_cmp, wait_cmp, piece_cmp}
use Rattle.uu_rows.specs.Texts.{systems_text, bare_systems_text, lines_text, ranges_text, waits_text, links_text, taken_text}
use Rattle.uu_adopt.proofs.Texts.{pieces_text, entries_text, system_rowids_text, line_rowids_text, range_rowids_text, piece_rowids_text, entry_rowids_text, wait_rowids_text, link_rowids_text, taken_rowids_text}
use Rattle.uu_adopt.specs.Reading.{FindsRows, FindsWaits, FindsLinks, FindsTaken, HasWaits, HasLinks, IsRead, entries_at}
use Rattle.uu_rows.proofs.Meanings.{at_places, by_places, wait_names, link_names, taken_names, systems_means, bare_systems_means, lines_means, ranges_means, waits_means, second_waits_means, links_means, third_links_means, taken_means, third_taken_means}
use Rattle.uu_adopt.proofs.Meanings.{rowids_of, pieces_means, entries_means, system_rowids_means, bare_rowids_means, line_rowids_means, range_rowids_means, piece_rowids_means, entry_rowids_means, wait_rowids_means, second_wait_rowids_means, link_rowids_means, third_link_rowids_means, taken_rowids_means, third_taken_rowids_means}
use Rattle.uu_rows.proofs.Back.{text_back, number_back, system_back, system_returns, bare_back, bare_returns, piece_back, piece_returns, line_back, line_returns, range_back, range_returns, entry_back, entry_returns, wait_back, wait_returns, link_back, link_returns, taken_back, taken_returns}
use Rattle.uu_rows.proofs.InTables.{bare, systems_are, bare_systems_are, lines_are, ranges_are, pieces_are, entries_are, waits_are, links_are, taken_are}
use Rattle.uu_adopt.proofs.TwoQuestions.{finds}

module _ (v : Version) (a b c : db.State) (rows ids : List Row) (stands : Stands (schema_of v) a.now) (same : b.now ≡ a.now) where
  -- the answer of the question on the rowids, asked second
  pub ids_answer : (tree : ℕ) (text : List ℕ) (names : List (List ℕ)) → Means (schema_of v) text (rowids_of tree) names → db.Shown text [] b c ids → IsAnswer (rowids_of tree) (overlay a.now.trees []) [] ids
  ids_answer tree text names means h = subst (λ (d : Database). IsAnswer (rowids_of tree) (overlay d.trees []) [] ids) same (answer_of (schema_of v) text _ names [] b c means (ap (λ (d : Database). d.schema) same ∙ stands.schema) ids h)

  pub finds_entries : db.Shown entries_text [] a b rows → db.Shown entry_rowids_text [] b c ids → (found : Option (Vec EntryColumns Global)) → IsRead entry_cells IsTypedEntry rows ids found
      → FindsRows entry_key entry_cells entry_places IsTypedEntry entry_cmp (a.now.trees (entries_at v)) found
  finds_entries h k found read =
      finds entry_key entry_cells entry_places IsTypedEntry entry_cmp entry_back (λ x good. entry_returns x) (λ x y e. ap (λ (r : Row). text_back (column r 0)) e) (entries_at v) (by_places (1 ∷ [])) a.now.trees (bare a.now.trees (entries_at v)) rows ids
      (answer_of (schema_of v) entries_text _ _ [] a b (entries_means v) stands.schema rows h) (ids_answer (entries_at v) entry_rowids_text _ (entry_rowids_means v) k)
      (λ xs held rise. entries_are (schema_of v) a b rows stands.schema entries_text _ [] [] h (entries_at v) (entries_means v) (λ r. refl) xs held rise (λ x. true) (λ x. refl) ∙ ap (map entry_cells) (filter_all xs)) found read

-- ---- those of version 4

module _ (a b c : db.State) (rows ids : List Row) (stands : Stands (schema_of Fourth) a.now) (same : b.now ≡ a.now) where
  pub finds_systems : db.Shown systems_text [] a b rows → db.Shown system_rowids_text [] b c ids → (found : Option (Vec SystemColumns Global)) → IsRead system_cells IsTypedSystem rows ids found
      → FindsRows system_key system_cells system_places IsTypedSystem system_cmp (a.now.trees systems.tree) found
  finds_systems h k found read =
      finds system_key system_cells system_places IsTypedSystem system_cmp system_back system_returns (λ x y e. ap (λ (r : Row). text_back (column r 0)) e) systems.tree (by_places (1 ∷ [])) a.now.trees refl rows ids
      (answer_of (schema_of Fourth) systems_text _ _ [] a b systems_means stands.schema rows h) (ids_answer Fourth a b c rows ids stands same systems.tree system_rowids_text _ system_rowids_means k)
      (λ xs held rise. systems_are (schema_of Fourth) a b rows stands.schema systems_text _ [] [] h systems.tree systems_means (λ r. refl) xs held rise (λ x. true) (λ x. refl) ∙ ap (map system_cells) (filter_all xs)) found read

-- ---- those of earlier versions

module _ (v : Version) (old : IsEarlierVersion v) (a b c : db.State) (rows ids : List Row) (stands : Stands (schema_of v) a.now) (same : b.now ≡ a.now) where
  abbrev answered_ids : (tree : ℕ) (text : List ℕ) (names : List (List ℕ)) → Means (schema_of v) text (rowids_of tree) names → db.Shown text [] b c ids → IsAnswer (rowids_of tree) (overlay a.now.trees []) [] ids
  answered_ids = ids_answer v a b c rows ids stands same

  pub finds_bare_systems : db.Shown bare_systems_text [] a b rows → db.Shown system_rowids_text [] b c ids → (found : Option (Vec BareSystem Global)) → IsRead bare_cells IsTypedBare rows ids found
      → FindsRows bare_key bare_cells system_places IsTypedBare bare_system_cmp (a.now.trees old_systems.tree) found
  finds_bare_systems h k found read =
      finds bare_key bare_cells system_places IsTypedBare bare_system_cmp bare_back (λ x good. bare_returns x) (λ x y e. ap (λ (r : Row). text_back (column r 0)) e) old_systems.tree (by_places (1 ∷ [])) a.now.trees refl rows ids
      (answer_of (schema_of v) bare_systems_text _ _ [] a b (bare_systems_means v old) stands.schema rows h) (answered_ids old_systems.tree system_rowids_text _ (bare_rowids_means v old) k)
      (λ xs held rise. bare_systems_are (schema_of v) a b rows stands.schema bare_systems_text _ [] [] h old_systems.tree (bare_systems_means v old) (λ r. refl) xs held rise (λ x. true) (λ x. refl) ∙ ap (map bare_cells) (filter_all xs)) found read

  pub finds_lines : db.Shown lines_text [] a b rows → db.Shown line_rowids_text [] b c ids → (found : Option (Vec LineColumns Global)) → IsRead line_cells IsTypedLine rows ids found
      → FindsRows line_key line_cells line_places IsTypedLine line_cmp (a.now.trees lines.tree) found
  finds_lines h k found read =
      finds line_key line_cells line_places IsTypedLine line_cmp line_back (λ x good. line_returns x) (λ x y e. ap (λ (r : Row). (text_back (column r 0), number_back (column r 1))) e) lines.tree (by_places (1 ∷ 2 ∷ [])) a.now.trees refl rows ids
      (answer_of (schema_of v) lines_text _ _ [] a b (lines_means v old) stands.schema rows h) (answered_ids lines.tree line_rowids_text _ (line_rowids_means v old) k)
      (λ xs held rise. lines_are (schema_of v) a b rows stands.schema lines_text _ [] [] h lines.tree (lines_means v old) (λ r. refl) xs held rise (λ x. true) (λ x. refl) ∙ ap (map line_cells) (filter_all xs)) found read

  pub finds_ranges : db.Shown ranges_text [] a b rows → db.Shown range_rowids_text [] b c ids → (found : Option (Vec RangeColumns Global)) → IsRead range_cells IsTypedRange rows ids found
      → FindsRows range_key range_cells range_places IsTypedRange range_cmp (a.now.trees ranges.tree) found
  finds_ranges h k found read =
      finds range_key range_cells range_places IsTypedRange range_cmp range_back (λ x good. range_returns x) (λ x y e. ap (λ (r : Row). (text_back (column r 0), number_back (column r 1), number_back (column r 2))) e) ranges.tree (by_places (1 ∷ 2 ∷ 3 ∷ [])) a.now.trees refl rows ids
      (answer_of (schema_of v) ranges_text _ _ [] a b (ranges_means v old) stands.schema rows h) (answered_ids ranges.tree range_rowids_text _ (range_rowids_means v old) k)
      (λ xs held rise. ranges_are (schema_of v) a b rows stands.schema ranges_text _ [] [] h ranges.tree (ranges_means v old) (λ r. refl) xs held rise (λ x. true) (λ x. refl) ∙ ap (map range_cells) (filter_all xs)) found read

  pub finds_pieces : db.Shown pieces_text [] a b rows → db.Shown piece_rowids_text [] b c ids → (found : Option (Vec Piece Global)) → IsRead piece_cells IsTypedPiece rows ids found
      → FindsRows piece_key piece_cells piece_places IsTypedPiece piece_cmp (a.now.trees pieces.tree) found
  finds_pieces h k found read =
      finds piece_key piece_cells piece_places IsTypedPiece piece_cmp piece_back (λ x good. piece_returns x) (λ x y e. ap (λ (r : Row). (number_back (column r 0), number_back (column r 1))) e) pieces.tree (by_places (1 ∷ 2 ∷ [])) a.now.trees refl rows ids
      (answer_of (schema_of v) pieces_text _ _ [] a b (pieces_means v old) stands.schema rows h) (answered_ids pieces.tree piece_rowids_text _ (piece_rowids_means v old) k)
      (λ xs held rise. pieces_are (schema_of v) a b rows stands.schema pieces_text _ [] [] h pieces.tree (pieces_means v old) (λ r. refl) xs held rise (λ x. true) (λ x. refl) ∙ ap (map piece_cells) (filter_all xs)) found read

-- the success waits, of a version that has a table of them
waits_mean : (v : Version) → HasWaits v → Means (schema_of v) waits_text (ordered success_waits.tree [] (at_places (1 ∷ 2 ∷ [])) (by_places (1 ∷ []))) wait_names
waits_mean First has = absurd has
waits_mean Second has = second_waits_means
waits_mean Third has = waits_means
waits_mean Fourth has = absurd has

wait_rowids_mean : (v : Version) → HasWaits v → Means (schema_of v) wait_rowids_text (rowids_of success_waits.tree) (codes "rowid" ∷ [])
wait_rowids_mean First has = absurd has
wait_rowids_mean Second has = second_wait_rowids_means
wait_rowids_mean Third has = wait_rowids_means
wait_rowids_mean Fourth has = absurd has

found_waits : (v : Version) → HasWaits v → (trees : ℕ → List Row) (found : Option (Vec WaitColumns Global)) → FindsRows wait_key wait_cells wait_places IsTypedWait wait_cmp (trees success_waits.tree) found → FindsWaits v trees found
found_waits First has trees found it = absurd has
found_waits Second has trees found it = it
found_waits Third has trees found it = it
found_waits Fourth has trees found it = absurd has

module _ (v : Version) (has : HasWaits v) (a b c : db.State) (rows ids : List Row) (stands : Stands (schema_of v) a.now) (same : b.now ≡ a.now) where
  pub finds_waits : db.Shown waits_text [] a b rows → db.Shown wait_rowids_text [] b c ids → (found : Option (Vec WaitColumns Global)) → IsRead wait_cells IsTypedWait rows ids found → FindsWaits v a.now.trees found
  finds_waits h k found read =
      found_waits v has a.now.trees found (finds wait_key wait_cells wait_places IsTypedWait wait_cmp wait_back (λ x good. wait_returns x) (λ x y e. ap (λ (r : Row). text_back (column r 0)) e) success_waits.tree (by_places (1 ∷ [])) a.now.trees refl rows ids
      (answer_of (schema_of v) waits_text _ _ [] a b (waits_mean v has) stands.schema rows h) (ids_answer v a b c rows ids stands same success_waits.tree wait_rowids_text _ (wait_rowids_mean v has) k)
      (λ xs held rise. waits_are (schema_of v) a b rows stands.schema waits_text _ [] [] h success_waits.tree (waits_mean v has) (λ r. refl) xs held rise (λ x. true) (λ x. refl) ∙ ap (map wait_cells) (filter_all xs)) found read)

-- the links and what was taken by them, of a version that has tables of them
abbrev links_at : (v : Version) → ℕ
links_at First = old_links.tree
links_at Second = old_links.tree
links_at Third = old_links.tree
links_at Fourth = links.tree

abbrev taken_at : (v : Version) → ℕ
taken_at First = old_taken.tree
taken_at Second = old_taken.tree
taken_at Third = old_taken.tree
taken_at Fourth = taken.tree

links_mean : (v : Version) → HasLinks v → Means (schema_of v) links_text (ordered (links_at v) [] (at_places (1 ∷ 2 ∷ [])) (by_places (1 ∷ []))) link_names
links_mean First has = absurd has
links_mean Second has = absurd has
links_mean Third has = third_links_means
links_mean Fourth has = links_means

link_rowids_mean : (v : Version) → HasLinks v → Means (schema_of v) link_rowids_text (rowids_of (links_at v)) (codes "rowid" ∷ [])
link_rowids_mean First has = absurd has
link_rowids_mean Second has = absurd has
link_rowids_mean Third has = third_link_rowids_means
link_rowids_mean Fourth has = link_rowids_means

taken_mean : (v : Version) → HasLinks v → Means (schema_of v) taken_text (ordered (taken_at v) [] (at_places (1 ∷ 2 ∷ 3 ∷ 4 ∷ [])) (by_places (1 ∷ 2 ∷ []))) taken_names
taken_mean First has = absurd has
taken_mean Second has = absurd has
taken_mean Third has = third_taken_means
taken_mean Fourth has = taken_means

taken_rowids_mean : (v : Version) → HasLinks v → Means (schema_of v) taken_rowids_text (rowids_of (taken_at v)) (codes "rowid" ∷ [])
taken_rowids_mean First has = absurd has
taken_rowids_mean Second has = absurd has
taken_rowids_mean Third has = third_taken_rowids_means
taken_rowids_mean Fourth has = taken_rowids_means

found_links : (v : Version) → HasLinks v → (trees : ℕ → List Row) (found : Option (Vec LinkColumns Global)) → FindsRows link_key link_cells link_places IsTypedLink link_cmp (trees (links_at v)) found → FindsLinks v trees found
found_links First has trees found it = absurd has
found_links Second has trees found it = absurd has
found_links Third has trees found it = it
found_links Fourth has trees found it = it

found_taken : (v : Version) → HasLinks v → (trees : ℕ → List Row) (found : Option (Vec TakenColumns Global)) → FindsRows taken_key taken_cells taken_places IsTypedTaken taken_cmp (trees (taken_at v)) found → FindsTaken v trees found
found_taken First has trees found it = absurd has
found_taken Second has trees found it = absurd has
found_taken Third has trees found it = it
found_taken Fourth has trees found it = it

module _ (v : Version) (has : HasLinks v) (a b c : db.State) (rows ids : List Row) (stands : Stands (schema_of v) a.now) (same : b.now ≡ a.now) where
  pub finds_links : db.Shown links_text [] a b rows → db.Shown link_rowids_text [] b c ids → (found : Option (Vec LinkColumns Global)) → IsRead link_cells IsTypedLink rows ids found → FindsLinks v a.now.trees found
  finds_links h k found read =
      found_links v has a.now.trees found (finds link_key link_cells link_places IsTypedLink link_cmp link_back (λ x good. link_returns x) (λ x y e. ap (λ (r : Row). text_back (column r 0)) e) (links_at v) (by_places (1 ∷ [])) a.now.trees (bare a.now.trees (links_at v)) rows ids
      (answer_of (schema_of v) links_text _ _ [] a b (links_mean v has) stands.schema rows h) (ids_answer v a b c rows ids stands same (links_at v) link_rowids_text _ (link_rowids_mean v has) k)
      (λ xs held rise. links_are (schema_of v) a b rows stands.schema links_text _ [] [] h (links_at v) (links_mean v has) (λ r. refl) xs held rise (λ x. true) (λ x. refl) ∙ ap (map link_cells) (filter_all xs)) found read)

  pub finds_taken : db.Shown taken_text [] a b rows → db.Shown taken_rowids_text [] b c ids → (found : Option (Vec TakenColumns Global)) → IsRead taken_cells IsTypedTaken rows ids found → FindsTaken v a.now.trees found
  finds_taken h k found read =
      found_taken v has a.now.trees found (finds taken_key taken_cells taken_places IsTypedTaken taken_cmp taken_back (λ x good. taken_returns x) (λ x y e. ap (λ (r : Row). (text_back (column r 0), number_back (column r 1))) e) (taken_at v) (by_places (1 ∷ 2 ∷ [])) a.now.trees (bare a.now.trees (taken_at v)) rows ids
      (answer_of (schema_of v) taken_text _ _ [] a b (taken_mean v has) stands.schema rows h) (ids_answer v a b c rows ids stands same (taken_at v) taken_rowids_text _ (taken_rowids_mean v has) k)
      (λ xs held rise. taken_are (schema_of v) a b rows stands.schema taken_text _ [] [] h (taken_at v) (taken_mean v has) (λ r. refl) xs held rise (λ x. true) (λ x. refl) ∙ ap (map taken_cells) (filter_all xs)) found read)
