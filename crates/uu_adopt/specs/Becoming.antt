-- How a database becomes one of another schema: with the tables of an empty spool, or with those of
-- this version instead of an earlier one's.
use Rattle.std.specs.Prelude.{◌≡◌, ◌⊎◌, Result, Err, OnOk}
use Rattle.sqlite.specs.Schema.{Schema}
use Rattle.sqlite.specs.Tree.{Trees}
use Rattle.sqlite.specs.State as db
use Rattle.sqlite_catalog.specs.Listing.{IsSound}
use Rattle.uu_core.specs.State.{empty}
use Rattle.uu_schema.specs.Steps.{Stands, Rests}
use Rattle.uu_schema.specs.Schema.{spool_schema, no_schema}
use Rattle.uu_schema.specs.Encoded.{HoldsState, Migrated}
use Rattle.uu_schema.specs.declared.fault.StoreFault.{StoreFault}
use Rattle.uu_schema.specs.declared.fault.StoreFault.TheVariants.{Memory}
use Rattle.uu_schema.specs.declared.version.Version.{Version}
use Rattle.uu_schema.specs.Earlier.{schema_of}

-- A database becomes one of another schema by a step of its trees, whole or not at all. A stop
-- leaves that, or what it could leave before.
pub record Becomes (from to : Schema) (Step : Trees → Trees → Type 0) (old new : db.State) (r : Result (Unit {0}) StoreFault) : Type 0 where
  pub ok : db.HasCleanDisk new → Rests old → Stands from old.now → OnOk r (Rests new × Stands to new.now × Step old.now.trees new.now.trees)
  pub memory : db.HasCleanDisk new → Rests old → Stands from old.now → r ≡ Err Memory → Rests new × (new.now ≡ old.now)
  pub stop : db.HasCleanDisk new → Rests old → Stands from old.now → (trees : Trees) → new.may_leave trees → old.may_leave trees ⊎ (IsSound to trees × Step old.now.trees trees)

-- the tables of an empty spool are made
abbrev pub CreatesTables : db.State → db.State → Result (Unit {0}) StoreFault → Type 0
CreatesTables = Becomes no_schema spool_schema (λ old new. HoldsState new empty)

-- the tables of a version become those of the written version, if they had a state
abbrev pub MigratesState : Version → db.State → db.State → Result (Unit {0}) StoreFault → Type 0
MigratesState v = Becomes (schema_of v) spool_schema (Migrated v)
