-- What the questions on systems answer of a state.
use Rattle.std.proofs.Common.{◌≡◌, ℕ, List, [], ◌∷◌, Bool, false, true, map, filter, refl, sym, ap, ◌∙◌, arith, slice_get, Option, Some, None, option_map}
use Rattle.std.specs.Prelude.{find, IfSome}
use Rattle.std.specs.List.{AllByRecursion}
use Rattle.std.proofs.lemmas.Map.Text.{is_eq-slice_cmp}
use Rattle.std.proofs.lemmas.Option.{slice_get-map}
use Rattle.sqlite.specs.declared.types.Value.TheVariants.{Text}
use Rattle.sqlite.specs.Order.{Row}
use Rattle.sqlite.specs.State as db
use Rattle.sqlite_sql.specs.declared.ops.CompareOp.TheVariants.{Eq}
use Rattle.sqlite_typed.proofs.TestLemmas.{at_texts, last_term}
use Rattle.sqlite_keyed.proofs.ListLemmas.{map_back, slice_get-filter}
use Rattle.uu_names.proofs.Basics.{filter_all, find-map, all_weaker}
use Rattle.uu_schema.proofs.Terms.{where_is}
use Rattle.uu_core.specs.declared.system.Outcome.{Outcome}
use Rattle.uu_core.specs.declared.system.Outcome.TheVariants.{Never, Failed, Done}
use Rattle.uu_core.specs.declared.system.SystemRow.{SystemRow}
use Rattle.uu_core.specs.State.{State, IsWellFormed, same_text, system_at}
use Rattle.uu_tables.specs.declared.rows.SystemColumns.{SystemColumns}
use Rattle.uu_tables.specs.Tables.{system_columns, outcome_number, reason_of}
use Rattle.uu_schema.specs.Cells.{system_cells}
use Rattle.uu_schema.specs.Schema.{spool_schema, systems}
use Rattle.uu_check.specs.Readable.{IsSystemRow}
use Rattle.uu_check.proofs.WholeState.{readable}
use Rattle.uu_rows.specs.Readable.{IsTypedSystem}
use Rattle.uu_rows.specs.Texts.{systems_text}
use Rattle.uu_rows.proofs.Meanings.{systems_means}
use Rattle.uu_rows.proofs.Back.{same_all, same_one, system_back, system_returns}
use Rattle.uu_rows.proofs.InTables.{systems_are}
use Rattle.uu_questions.specs.Answers.{IsStateOf}
use Rattle.uu_questions.specs.Systems.{AreRowsOfSystems, outcome_from, row_from}
use Rattle.uu_questions.proofs.Finding.{found_good}
use Rattle.uu_questions.proofs.Texts.{system_text}
use Rattle.uu_questions.proofs.Meanings.{system_means}
use Rattle.uu_questions.proofs.Rising.{systems_rise}

-- ---- the systems of a state can be read

system_read : (c : SystemColumns) → IsSystemRow c → IsTypedSystem c
system_read c h = record {
  def = (h.def.name, h.def.limits, h.def.lines);
  last = (let k = h.last in omega (arith, k));
  failures = (let k = h.failures in omega (arith, k));
  wait = (let k = h.wait in omega (arith, k));
  outcome = (let k = h.outcome in omega (arith, k));
  why = h.why;
}

systems_good : (s : State) → IsWellFormed s → AllByRecursion IsTypedSystem (map system_columns s.systems)
systems_good s good = all_weaker IsSystemRow IsTypedSystem system_read (map system_columns s.systems) (readable s good).systems

pub same_cells : {X : Type 0} (cells : X → Row) (back : Row → X) → ((x : X) → back (cells x) ≡ x) → (xs ys : List X) → map cells xs ≡ map cells ys → xs ≡ ys
same_cells cells back returns xs ys same = sym (map_back cells back returns xs) ∙ ap (map back) same ∙ map_back cells back returns ys

module _ (old new : db.State) (s : State) (rows : List Row) (of : IsStateOf s old) where
  abbrev all : List SystemColumns
  all = map system_columns s.systems

  pub system_found : (name : List ℕ) → db.Shown system_text (Text name ∷ []) old new rows → (found : Option SystemColumns) → IfSome found IsTypedSystem → option_map system_cells found ≡ slice_get rows 0 → found ≡ option_map system_columns (system_at s name)
  system_found name h found good read =
      let p : SystemColumns → Bool = λ x. same_text x.def.name name in
      let is = systems_are spool_schema old new rows of.stands.schema system_text _ (Text name ∷ []) (where_is 1 0 ∷ []) h systems.tree system_means (λ r. refl) all of.holds.systems.same (systems_rise s of.good) p (λ x. last_term (at_texts false Eq x.def.name name ∙ is_eq-slice_cmp x.def.name name)) in
      same_one system_cells system_back IsTypedSystem system_returns found (find p all) good (found_good IsTypedSystem p all (systems_good s of.good))
      (read ∙ ap (λ rs. slice_get rs 0) is ∙ slice_get-map system_cells (filter p all) 0 ∙ ap (option_map system_cells) (slice_get-filter p all))
      ∙ find-map p system_columns s.systems

  pub systems_found : db.Shown systems_text [] old new rows → (found : List SystemColumns) → AllByRecursion IsTypedSystem found → rows ≡ map system_cells found → found ≡ all
  systems_found h found good read =
      let is = systems_are spool_schema old new rows of.stands.schema systems_text _ [] [] h systems.tree systems_means (λ r. refl) all of.holds.systems.same (systems_rise s of.good) (λ x. true) (λ x. refl) in
      same_all system_cells system_back IsTypedSystem system_returns found all good (systems_good s of.good) (sym read ∙ is ∙ ap (map system_cells) (filter_all all))

-- ---- systems of rows

outcome_returns : (o : Outcome) → outcome_from (outcome_number o) (reason_of o) ≡ o
outcome_returns Never = refl
outcome_returns (Failed why) = refl
outcome_returns Done = refl

row_returns : (row : SystemRow) → row_from (system_columns row) ≡ row
row_returns row = ap (λ outcome. record row { call = record row.call { outcome = outcome } }) (outcome_returns row.call.outcome)

pub found_returns : (o : Option SystemRow) → option_map row_from (option_map system_columns o) ≡ o
found_returns None = refl
found_returns (Some row) = ap Some (row_returns row)

rows_return : (rows : List SystemRow) → map row_from (map system_columns rows) ≡ rows
rows_return [] = refl
rows_return (row ∷ rows) = λ i. row_returns row i ∷ rows_return rows i

-- rows are those of no other systems than the ones made of them
pub rows_theirs : (columns : List SystemColumns) (made : List SystemRow) → AreRowsOfSystems made columns → map row_from columns ≡ made
rows_theirs columns made h = ap (map row_from) (sym h.are) ∙ rows_return made

pub all_theirs : (s : State) (columns : List SystemColumns) → columns ≡ map system_columns s.systems → (made : List SystemRow) → AreRowsOfSystems made columns → made ≡ s.systems
all_theirs s columns is made h = sym (rows_theirs columns made h) ∙ ap (map row_from) is ∙ rows_return s.systems
