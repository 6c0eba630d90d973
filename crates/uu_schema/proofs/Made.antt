-- What CREATE TABLE makes.
use Rattle.std.proofs.Common.{◌≡◌, ℕ, List, [], false, Ok, Result, None, sym, ap, subst, ◌∙◌}
use Rattle.sqlite.specs.Table.{Table}
use Rattle.sqlite.specs.Schema.{Schema}
use Rattle.sqlite.specs.Command.TheVariants.{CreateTable}
use Rattle.sqlite.specs.Compile.{table_defined_by}
use Rattle.sqlite.specs.Change.{created}
use Rattle.sqlite.specs.Does.{Tally, lacks_sequence}
use Rattle.sqlite.specs.Effect.{Database}
use Rattle.sqlite_catalog.specs.Listing.{IsSound}
use Rattle.sqlite_catalog.specs.Calls.{CreatesTable}
use Rattle.sqlite.specs.Listing.{understood}
use Rattle.sqlite.specs.State.{State, Writes, Executes}
use Rattle.sqlite.proofs.Callers.{IsPlain, command_of, statement_of, runs_as}
use Rattle.uu_schema.specs.Steps.{Stands}
use Rattle.uu_schema.proofs.Writes.{went, same_value}

-- what a CREATE TABLE makes, of a text whose table is known
module _ (old new : State) (from to : Schema) (text : List ℕ) (table : Table) (count : ℕ) (stands : Stands from old.now)
    (is : (command_of (understood from text) ≡ CreateTable) × (statement_of text (understood from text) ≡ text) × (table_defined_by text ≡ Ok table)) (plain : IsPlain (understood from text))
    (makes : created from table ≡ to) (plain_keys : lacks_sequence to ≡ false) where
  pub record Made : Type 0 where
    pub now_stands : Stands to new.now
    pub creates : CreatesTable from text old.now.trees to new.now.trees

  pub made : Executes text [] old new (Ok count) → Made
  made h =
      let w = subst (λ t. Writes old new None CreateTable t [] count) is.1 (runs_as text [] old new from stands.schema CreateTable is.0 plain count h) in
      let all = went w.changed in
      let first = went all.1 in
      let it : CreatesTable old.now.schema text old.now.trees first.0.schema first.0.trees = first.1 in
      let both : ◌≡◌ {A = Result Table _} (Ok it.table) (Ok table) = sym it.defined ∙ is.2 in
      let same : it.table ≡ table = same_value both in
      let schema : first.0.schema ≡ to = it.is ∙ ap (λ s. created s it.table) stands.schema ∙ ap (created from) same ∙ makes in
      let none : lacks_sequence first.0.schema ≡ false = ap lacks_sequence schema ∙ plain_keys in
      let now : new.now ≡ first.0 = ap (λ (p : Tally × Database). p.1) (same_value all.2) ∙ same_value (rw none at first.2) in
      let after : new.now.schema ≡ to = ap (λ (d : Database). d.schema) now ∙ schema in
      record {
        now_stands = record { schema = after; sound = subst (λ s. IsSound s new.now.trees) after w.sound };
        creates = subst (λ s. CreatesTable s text old.now.trees to new.now.trees) stands.schema (subst (λ s. CreatesTable old.now.schema text old.now.trees s new.now.trees) after (subst (λ (d : Database). CreatesTable old.now.schema text old.now.trees d.schema d.trees) (sym now) it));
      }
