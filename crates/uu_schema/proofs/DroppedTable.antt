-- What DROP TABLE leaves, of a text whose table is known.
use Rattle.std.proofs.Common.{◌≡◌, [], List, ℕ, Some, None, Ok, false, ap, subst, ◌∙◌}
use Rattle.std.specs.Prelude.{slice_get}
use Rattle.sqlite.specs.Table.{Table}
use Rattle.sqlite.specs.Schema.{Schema}
use Rattle.sqlite.specs.Effect.{Database}
use Rattle.sqlite.specs.Command.TheVariants.{DropTable}
use Rattle.sqlite_catalog.specs.Listing.{IsSound}
use Rattle.sqlite_catalog.specs.Change.{without_table}
use Rattle.sqlite_schema.specs.declared.schema.Keys.TheVariants.{Enforced}
use Rattle.sqlite.specs.Does.{Tally, Does, is_acted_on}
use Rattle.sqlite.specs.Listing.{understood}
use Rattle.sqlite.specs.State.{State, Executes, mode_of}
use Rattle.sqlite.proofs.Callers.{IsPlain, command_of, statement_of, runs_as}
use Rattle.uu_schema.specs.Steps.{Stands}
use Rattle.uu_schema.proofs.Writes.{went, same_value}

module _ (old new : State) (from to : Schema) (text : List ℕ) (at : ℕ) (bare : Table) (count : ℕ) (stands : Stands from old.now)
    (is : command_of (understood from text) ≡ DropTable at) (plain : IsPlain (understood from text)) (found : slice_get from.tables at ≡ Some (record bare { is_counted = false }))
    (calm : is_acted_on from Enforced (record bare { is_counted = false }) ≡ false) (without : without_table from bare.tree ≡ to) where
  -- no table refers to it with an action, so the database has the other tables
  pub dropped : Executes text [] old new (Ok count) → Stands to new.now
  dropped h =
      let w = runs_as text [] old new from stands.schema (DropTable at) is plain count h in
      let did = subst (λ s. Does old.step_limit (mode_of old) [] (record old.now { schema = s }) (statement_of text (understood from text)) None (DropTable at) (Ok (w.tally, new.now))) stands.schema w.changed in
      let on = rw found at did in
      let emptied = went on in
      let uncounted = went emptied.2 in
      let tested = went uncounted.2 in
      let left = went tested.2 in
      let now : new.now ≡ left.0 = ap (λ (p : Tally × Database). p.1) (same_value left.2) in
      let schema : new.now.schema ≡ to = ap (λ (d : Database). d.schema) now ∙ left.1.0 ∙ without in
      record { schema = schema; sound = subst (λ s. IsSound s new.now.trees) schema w.sound }
