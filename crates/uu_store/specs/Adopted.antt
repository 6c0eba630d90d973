-- The result of taking a database as a spool.
use Rattle.std.specs.Prelude.{◌≡◌}
use Rattle.sqlite.specs.Tree.{Trees}
use Rattle.sqlite.specs.Store.{Ghosts}
use Rattle.sqlite.specs.Held.{Held, state}
use Rattle.sqlite.specs.State as db
use Rattle.sqlite.specs.State.{HasCleanDisk}
use Rattle.uu_core.specs.State.{State, empty}
use Rattle.uu_schema.specs.declared.fault.StoreFault.TheVariants.{Foreign, Newer}
use Rattle.uu_schema.specs.declared.version.Version.{Version}
use Rattle.uu_schema.specs.Encoded.{EncodesAs, Leaves}
use Rattle.uu_schema.specs.Schema.{no_schema}
use Rattle.uu_schema.specs.Steps.{Rests, Stands}
use Rattle.uu_schema.specs.Earlier.{IsEarlierVersion, schema_of}
use Rattle.uu_adopt.specs.Adoption.{IsAsBefore, StopsAs, UnlessFailed}
use Rattle.uu_adopt.specs.FoundTables.{HasNone, HasNoneOrAll}
use Rattle.uu_adopt.specs.Version.{IsLater}
use Rattle.uu_store.specs.declared.adopt.AdoptFault.{AdoptFault}
use Rattle.uu_store.specs.declared.spool.Spool.{Spool}
use Rattle.uu_store.specs.Openings.{IsOfNoContents}
use Rattle.uu_store.specs.Spool.{disk}
use Rattle.uu_store.specs.Stretches.{Adopted, TurnedAway}

-- what the connection that comes back shows
abbrev pub disk_back : {S : Type 0} {g : Ghosts S} → AdoptFault S g → db.State
disk_back {S} {g} fault = state g fault.conn

module _ {S : Type 0} {g : Ghosts S} (was : Held S) where
  -- A database was taken as a spool.
  pub record IsAdoptedSpool (spool : Spool S g) : Type 0 where
    -- a database that encodes a state is taken with it, and an empty one becomes an empty spool;
    -- one that encodes no state isn't taken
    pub adopted : Adopted was spool
    pub encoded_before : (v : Version) → HasCleanDisk (disk spool) → Stands (schema_of v) (state g was).now → (s : State) × EncodesAs v (state g was).now s
    -- it had none of the spool's tables, or all of a version
    pub adopted_by_tables : HasNoneOrAll (state g was).now.schema
    -- a stop at its end leaves only the state in version 4, or, if the database was empty, an empty
    -- spool
    pub stop_when_adopted : HasCleanDisk (disk spool) → Rests (state g was) → StopsAs (state g was) (disk spool)
    pub stop_when_created : HasCleanDisk (disk spool) → Rests (state g was) → Stands no_schema (state g was).now → Leaves (disk spool) empty
    pub stop_when_migrated : HasCleanDisk (disk spool) → Rests (state g was) → (v : Version) → IsEarlierVersion v → (s : State) → EncodesAs v (state g was).now s → Leaves (disk spool) s

  -- A database wasn't taken as a spool, and the connection comes back.
  pub record IsHandedBack (back : AdoptFault S g) : Type 0 where
    -- a spool is never foreign or newer, and neither is a database that has none of the tables
    pub spool_never_refused : HasCleanDisk (disk_back back) → (v : Version) (s : State) → EncodesAs v (state g was).now s → IsOfNoContents back.fault
    pub empty_never_refused : HasNone (state g was).now.schema → IsOfNoContents back.fault
    -- if a database has the tables of a version, `Foreign` and `Newer` say why it was refused
    pub foreign_encodes_no_state : HasCleanDisk (disk_back back) → (v : Version) → Stands (schema_of v) (state g was).now → back.fault ≡ Foreign → (¬ IsLater (state g was).now.trees) × ((s : State) → ¬ EncodesAs v (state g was).now s)
    pub newer_names_a_later_version : HasCleanDisk (disk_back back) → (v : Version) → Stands (schema_of v) (state g was).now → back.fault ≡ Newer → IsLater (state g was).now.trees
    -- a refusal leaves it as it was, even if the tables have another shape or others are beside
    -- them
    pub refusal_changes_nothing : HasCleanDisk (disk_back back) → Rests (state g was) → UnlessFailed back.fault (IsAsBefore (state g was) (disk_back back))
    -- A stop at its end leaves the state that was encoded, one of an earlier version in that
    -- version or in version 4. An empty database is left empty or as an empty spool. After a
    -- refusal a stop leaves what was there, unless the store failed.
    pub stop_when_turned_away : HasCleanDisk (disk_back back) → Rests (state g was) → StopsAs (state g was) (disk_back back)
    pub stop_when_refused : HasCleanDisk (disk_back back) → Rests (state g was) → UnlessFailed back.fault ((trees : Trees) → (disk_back back).may_leave trees → trees ≡ (state g was).now.trees)
    pub turned_away : TurnedAway g was back.conn
