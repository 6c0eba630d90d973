-- What INSERT, UPDATE and DELETE make of the trees, for any schema and table.
use Rattle.std.proofs.Common.{◌≡◌, ◌⊎◌, inl, inr, ℕ, List, [], slice_get, false, Some, None, Ok, Err, sym, ap, subst, ◌∙◌}
use Rattle.std.specs.Prelude.{length, ◌/◌, pos}
use Rattle.sqlite.specs.Order.{Row}
use Rattle.sqlite.specs.Term.{Term}
use Rattle.sqlite.specs.Table.{Table}
use Rattle.sqlite.specs.Schema.{Schema}
use Rattle.sqlite.specs.Edit.{Edit, edit_of, Applies}
use Rattle.sqlite.specs.Rowids.TheVariants.{Chosen, Given}
use Rattle.sqlite.specs.Source.TheVariants.{Values}
use Rattle.sqlite.specs.Command.{Command}
use Rattle.sqlite.specs.Command.TheVariants.{Insert, Update, Delete}
use Rattle.sqlite_schema.specs.declared.schema.Keys.TheVariants.{Enforced}
use Rattle.sqlite_schema.specs.declared.schema.Among.TheVariants.{All}
use Rattle.sqlite_schema.specs.Rules.{Refers}
use Rattle.sqlite_rules.specs.Action.{Writes as WritesTrees}
use Rattle.sqlite_rules.specs.Calls.{ids_of}
use Rattle.sqlite_rules.proofs.ActionLemmas.{no_works}
use Rattle.sqlite.specs.Effect.{Database, IsDatabase, Answers, value_rows}
use Rattle.sqlite_catalog.specs.Listing.{IsSound}
use Rattle.uu_schema.specs.Steps.{Stands}
use Rattle.sqlite.specs.Rows.{Task, Written, stamped}
use Rattle.sqlite.specs.Does.{Tally, Does, OnRows, WritesRows, Concludes}
use Rattle.sqlite.specs.State.{State, mode_of, Writes}
use Rattle.sqlite_schema.specs.declared.program.Program.{Program}
use Rattle.sqlite.proofs.Callers.{one_step}

-- a part that gave a value did not stop on the way
pub went : {B E R : Type 0} {b : B} {Stops : E → Type 0} → ((stop : E) × Stops stop × (Ok b ≡ Err stop)) ⊎ R → R
went (inl stopped) = absurd (let e = stopped.2 in cc)
went (inr on) = on

pub same_value : {A E : Type 0} {a b : A} → ◌≡◌ {A = Rattle.std.specs.Prelude.Result A E} (Ok a) (Ok b) → a ≡ b
same_value e = cc

module _ (old new : State) (schema : Schema) (has : old.now.schema ≡ schema) (at : ℕ) (bare : Table) (found : slice_get schema.tables at ≡ Some (record bare { is_counted = false })) (text : List ℕ) (params : Row) (count : ℕ) where
  abbrev table : Table
  table = record bare { is_counted = false }

  abbrev task : Task
  task = record { limit = old.step_limit; keys = Enforced; schema = schema; table = table; params = params }

  -- the rows are written, each key holds, and the trees are those
  pub record Ran (command : Command) : Type 0 where
    pub written : Written
    pub did : WritesRows task old.now.trees command (Ok written)
    pub refers : Refers All schema written.trees
    pub trees : new.now.trees ≡ written.trees
    pub stands : Stands schema new.now

  concluded : (w : Written) (tally : Tally) (db : Database) → Concludes task (mode_of old) None w (Ok (tally, db)) → Refers All schema w.trees × (db.trees ≡ w.trees) × (db.schema ≡ schema)
  concluded w tally db h =
      let tested = went h in
      let shown = went tested.2 in
      let is = same_value shown.2 in
      (tested.1.0, ap (λ (p : Tally × Database). p.1.trees) is, ap (λ (p : Tally × Database). p.1.schema) is)

  ran : (command : Command) (tally : Tally) → IsDatabase new.now → OnRows task (mode_of old) None command old.now.trees (Ok (tally, new.now)) → Ran command
  ran command tally sound h =
      let parts = went h in
      let end = concluded parts.0 tally new.now parts.2 in
      record { written = parts.0; did = parts.1; refers = end.0; trees = end.1; stands = record { schema = end.2; sound = subst (λ s. IsSound s new.now.trees) end.2 sound } }

  pub insert_ran : (from : _) → Writes old new None (Insert at from) text params count → Ran (Insert at from)
  insert_ran from w =
      let did = subst (λ s. Does old.step_limit (mode_of old) params (record old.now { schema = s }) text None (Insert at from) (Ok (w.tally, new.now))) has w.changed in
      ran (Insert at from) w.tally w.sound (rw found at did)

  pub update_ran : (q : Program) → Writes old new None (Update at q) text params count → Ran (Update at q)
  update_ran q w =
      let did = subst (λ s. Does old.step_limit (mode_of old) params (record old.now { schema = s }) text None (Update at q) (Ok (w.tally, new.now))) has w.changed in
      ran (Update at q) w.tally w.sound (rw found at did)

  pub delete_ran : (q : Program) → Writes old new None (Delete at q) text params count → Ran (Delete at q)
  delete_ran q w =
      let did = subst (λ s. Does old.step_limit (mode_of old) params (record old.now { schema = s }) text None (Delete at q) (Ok (w.tally, new.now))) has w.changed in
      ran (Delete at q) w.tally w.sound (rw found at did)

  abbrev pub inserted : List Term → ℕ → Edit
  inserted terms width = edit_of old.now.trees table [] Chosen 0 (value_rows (stamped table params) width (length terms / width) terms)

  pub insert_applies : (terms : List Term) (width : ℕ) → Ran (Insert at (Values terms width)) → Applies schema Enforced old.now.trees (inserted terms width) new.now.trees
  insert_applies terms width r =
      let source = went r.did in
      let counter = went source.2 in
      let edited = went counter.2 in
      let counts = went edited.2 in
      let trees : new.now.trees ≡ edited.0 = r.trees ∙ ap (λ (it : Written). it.trees) (same_value counts.2) ∙ same_value counts.1 in
      let rows = source.1.1 in
      let wrote = edited.1 in
      subst (λ t. Applies schema Enforced old.now.trees (inserted terms width) t) (sym trees)
      (one_step schema Enforced old.now.trees edited.0 (inserted terms width) (no_works schema Enforced 0 table.tree _)
      (subst (λ all. WritesTrees schema Enforced old.now.trees (edit_of old.now.trees table [] Chosen 0 all) (Ok edited.0)) rows wrote))

  abbrev before : Database
  before = record { schema = schema; trees = old.now.trees }

  pub delete_writes : (q : Program) → Ran (Delete at q)
      → (rows : List Row) × Answers before q params rows × WritesTrees schema Enforced old.now.trees (edit_of old.now.trees table (ids_of rows) Given 0 []) (Ok new.now.trees)
  delete_writes q r =
      let queried = went r.did in
      let edited = went queried.2 in
      let trees : new.now.trees ≡ edited.0 = r.trees ∙ ap (λ (it : Written). it.trees) (same_value edited.2) in
      (queried.0, queried.1, subst (λ t. WritesTrees schema Enforced old.now.trees (edit_of old.now.trees table (ids_of queried.0) Given 0 []) (Ok t)) (sym trees) edited.1)

  pub update_writes : (q : Program) → Ran (Update at q)
      → (rows : List Row) × Answers before q params rows × WritesTrees schema Enforced old.now.trees (edit_of old.now.trees table (ids_of rows) Given 1 rows) (Ok new.now.trees)
  update_writes q r =
      let queried = went r.did in
      let edited = went queried.2 in
      let trees : new.now.trees ≡ edited.0 = r.trees ∙ ap (λ (it : Written). it.trees) (same_value edited.2) in
      (queried.0, queried.1, subst (λ t. WritesTrees schema Enforced old.now.trees (edit_of old.now.trees table (ids_of queried.0) Given 1 queried.0) (Ok t)) (sym trees) edited.1)
