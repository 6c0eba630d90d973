-- What a database is found to be when it is adopted as a spool, and what that leaves.
use Rattle.std.specs.Prelude.{◌≡◌, ◌⊎◌, Option, Some, Result, Ok, Err, IfErr, OnOk, ⊤}
use Rattle.sqlite.specs.Tree.{Trees}
use Rattle.sqlite.specs.State as db
use Rattle.sqlite.specs.Schema.{Schema}
use Rattle.sqlite_catalog.specs.Listing.{IsSound}
use Rattle.uu_schema.specs.Steps.{Stands, Rests, StaysUnclean}
use Rattle.uu_core.specs.State.{State, empty}
use Rattle.uu_schema.specs.Schema.{spool_schema, no_schema}
use Rattle.uu_schema.specs.declared.version.Version.{Version}
use Rattle.uu_schema.specs.declared.fault.StoreFault.{StoreFault}
use Rattle.uu_schema.specs.declared.fault.StoreFault.TheVariants.{Store, Newer, Foreign as ForeignFault}
use Rattle.uu_adopt.specs.Version.{IsLater}
use Rattle.uu_adopt.specs.declared.inspection.Finding.{Finding}
use Rattle.uu_adopt.specs.declared.inspection.Finding.TheVariants.{Spool, Foreign, Later}
use Rattle.uu_schema.specs.Encoded.{Encodes, HoldsState, HoldsStateAs, Leaves, Migrated}
use Rattle.uu_schema.specs.Earlier.{IsEarlierVersion, schema_of}
use Rattle.uu_adopt.specs.FoundTables.{HasNone, HasEarlier}
use Rattle.uu_adopt.specs.Becoming.{Becomes, CreatesTables, MigratesState}

-- these are the rows of no state in the tables of this version
abbrev pub IsOfNone : Version → Trees → Type 0
IsOfNone v trees = (s : State) → ¬ HoldsStateAs v trees s

-- what a finding says about the tables
abbrev pub Finds : Version → Finding → Trees → Type 0
Finds v Spool trees = (s : State) × HoldsStateAs v trees s
Finds v Foreign trees = (¬ IsLater trees) × IsOfNone v trees
Finds v Later trees = IsLater trees

-- the fact, unless the store failed
abbrev pub UnlessFailed : StoreFault → Type 0 → Type 0
UnlessFailed (Store kind) Fact = ⊤
UnlessFailed fault Fact = Fact

abbrev pub UnlessStore : {T : Type 0} → Result T StoreFault → Type 0 → Type 0
UnlessStore (Ok x) Fact = Fact
UnlessStore (Err fault) Fact = UnlessFailed fault Fact

-- A database that has the tables of a version is taken exactly if it encodes a state. It is
-- reported as newer exactly if a row says a later version, and otherwise as foreign.
pub record IsInspected (v : Version) (old new : db.State) (r : Result (Unit {0}) StoreFault) : Type 0 where
  pub ok : db.HasCleanDisk new → Stands (schema_of v) old.now → OnOk r ((s : State) × HoldsStateAs v old.now.trees s)
  pub newer : db.HasCleanDisk new → Stands (schema_of v) old.now → r ≡ Err Newer → IsLater old.now.trees
  pub foreign : db.HasCleanDisk new → Stands (schema_of v) old.now → r ≡ Err ForeignFault → (¬ IsLater old.now.trees) × IsOfNone v old.now.trees

-- a stop leaves nothing that it would not have left before
abbrev pub LeavesNoMore : db.State → db.State → Type 0
LeavesNoMore old new = (trees : Trees) → new.may_leave trees → old.may_leave trees

-- a database was only inspected: it stays as it is, and a stop leaves what it would have left
pub record IsSpared (old new : db.State) (r : Result (Unit {0}) StoreFault) : Type 0 where
  pub same : db.HasCleanDisk new → Rests old → UnlessStore r (Rests new × (new.now ≡ old.now))
  pub stop : db.HasCleanDisk new → LeavesNoMore old new

-- refused because of its contents or because memory ran out, and not because the store failed
abbrev pub IsRefused : Result (Unit {0}) StoreFault → Type 0
IsRefused (Ok x) = ⊥
IsRefused (Err (Store kind)) = ⊥
IsRefused (Err fault) = ⊤

-- unless the store failed, an error leaves whatever a stop could leave as it was
abbrev pub IsUnmade : db.State → db.State → Result (Unit {0}) StoreFault → Type 0
IsUnmade old new r = IfErr r (λ fault. UnlessFailed fault (db.HasCleanDisk new → LeavesNoMore old new))

-- ---- what each function does

-- a database with a table `spool` is inspected, by the version whose tables are all there
pub record Inspects (tables : Option Version) (old new : db.State) (r : Result (Unit {0}) StoreFault) : Type 0 where
  pub inspected : (v : Version) → tables ≡ Some v → IsInspected v old new r
  pub spared : IsSpared old new r
  pub clean : StaysUnclean old new

-- a database of one schema becomes one of another by a step of its trees
pub record MakesSchema (from to : Schema) (Step : Trees → Trees → Type 0) (old new : db.State) (r : Result (Unit {0}) StoreFault) : Type 0 where
  pub becomes : Becomes from to Step old new r
  pub unmade : IsUnmade old new r
  pub clean : StaysUnclean old new

-- a database with a table `spool` is inspected, and the tables of an earlier version become those
-- of the written version
pub record AdoptsSpool (tables : Option Version) (old new : db.State) (r : Result (Unit {0}) StoreFault) : Type 0 where
  pub inspected : (v : Version) → tables ≡ Some v → IsInspected v old new r
  pub spared : ((v : Version) → IsEarlierVersion v → tables ≡ Some v → IsRefused r) → IsSpared old new r
  pub migrates : (v : Version) → IsEarlierVersion v → tables ≡ Some v → MigratesState v old new r
  pub unmade : IsUnmade old new r
  pub clean : StaysUnclean old new

-- any database: one without tables gets the spool's, those of an earlier version become those of
-- the written version, and any other that has one of the names is only inspected
pub record Adopts (old new : db.State) (r : Result (Unit {0}) StoreFault) : Type 0 where
  pub inspected : (v : Version) → IsInspected v old new r
  pub spared : ¬ HasNone old.now.schema → (HasEarlier old.now.schema → IsRefused r) → IsSpared old new r
  pub migrates : (v : Version) → IsEarlierVersion v → MigratesState v old new r
  pub creates : CreatesTables old new r
  pub unmade : IsUnmade old new r
  pub clean : StaysUnclean old new

-- ---- what is left of a database

-- a database with any of the spool's tables, of any shape and with any tables beside them, or with
-- no tables, is as it was
pub record IsAsBefore (old new : db.State) : Type 0 where
  pub some : ¬ HasNone old.now.schema → Rests new × (new.now ≡ old.now)
  pub none : Stands no_schema old.now → Rests new × (new.now ≡ old.now)

-- A stop leaves the state that a database encodes. A database with any of the spool's tables is
-- left as it was, unless they are those of an earlier version. One of an earlier version is left as
-- it was, or in the written version with the same state. One without tables is left as it was, or
-- as an empty spool.
pub record StopsAs (old new : db.State) : Type 0 where
  pub some : ¬ HasNone old.now.schema → ¬ HasEarlier old.now.schema → (trees : Trees) → new.may_leave trees → trees ≡ old.now.trees
  pub state : (s : State) → Encodes old.now s → Leaves new s
  pub earlier : (v : Version) → IsEarlierVersion v → Stands (schema_of v) old.now → (trees : Trees) → new.may_leave trees → (trees ≡ old.now.trees) ⊎ (IsSound spool_schema trees × Migrated v old.now.trees trees)
  pub none : Stands no_schema old.now → (trees : Trees) → new.may_leave trees → (trees ≡ old.now.trees) ⊎ (IsSound spool_schema trees × HoldsState trees empty)
