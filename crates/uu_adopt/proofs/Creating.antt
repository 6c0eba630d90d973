-- What is found of the spool's tables, and that a database that has them is seen to have them.
use Rattle.std.proofs.Common.{◌≡◌, inl, inr, Result, Ok, Err, Option, Some, None, refl, sym, ap, ◌∙◌}
use Rattle.std.specs.Prelude.{IsErr, OnOk}
use Rattle.sqlite.specs.Schema.{Schema}
use Rattle.sqlite.specs.Effect.{Database}
use Rattle.sqlite.specs.State as db
use Rattle.sqlite_schema.specs.Names.{same_name}
use Rattle.uu_schema.specs.Steps.{Stands}
use Rattle.uu_schema.specs.Schema.{spool_schema, no_schema}
use Rattle.uu_schema.specs.declared.version.Version.{Version}
use Rattle.uu_schema.specs.declared.version.Version.TheVariants.{First, Second, Third, Fourth}
use Rattle.uu_schema.specs.Earlier.{IsEarlierVersion, first_schema, second_schema, third_schema, schema_of}
use Rattle.uu_adopt.specs.declared.tables.Found.{Found}
use Rattle.uu_adopt.specs.declared.tables.Found.TheVariants.{Nothing, Spool, Other}
use Rattle.uu_adopt.specs.FoundTables.{found_of, HasNone, HasAllOf, HasEarlier, HasNoneOrAll, HasUnversionedTables}

found_first : found_of first_schema ≡ Spool (Some First)
unfolding same_name
found_first = refl

found_second : found_of second_schema ≡ Spool (Some Second)
unfolding same_name
found_second = refl

found_third : found_of third_schema ≡ Spool (Some Third)
unfolding same_name
found_third = refl

found_site : found_of spool_schema ≡ Spool (Some Fourth)
unfolding same_name
found_site = refl

found_version : (v : Version) → found_of (schema_of v) ≡ Spool (Some v)
found_version First = found_first
found_version Second = found_second
found_version Third = found_third
found_version Fourth = found_site

pub not_nothing : (v : Version) → Nothing ≡ Spool (Some v) → ⊥
not_nothing v h = cc

pub not_other : (v : Version) → Other ≡ Spool (Some v) → ⊥
not_other v h = cc

pub same_tables : (tables other : Option Version) → Spool tables ≡ Spool other → tables ≡ other
same_tables tables other h = cc

-- ---- what is found is what the connection has

pub found_is : (a : db.State) (schema : Schema) (found : Found) → schema ≡ a.now.schema → found ≡ found_of schema → found_of a.now.schema ≡ found
found_is a schema found has is = sym (is ∙ ap found_of has)

-- a database without tables has none of the spool's
pub none_found : (d : Database) → Stands no_schema d → HasNone d.schema
none_found d stands = ap found_of stands.schema

-- one that has those of a version has them all
pub all_of_version : (v : Version) (d : Database) → Stands (schema_of v) d → HasAllOf v d.schema
all_of_version v d stands = ap found_of stands.schema ∙ found_version v

-- so it doesn't lack all of them
pub all_found : (v : Version) (d : Database) → Stands (schema_of v) d → ¬ HasNone d.schema
all_found v d stands none = let all = all_of_version v d stands in cc

-- the last version isn't before itself
pub not_last : (v : Version) → IsEarlierVersion v → v ≡ Fourth → ⊥
not_last First early is = cc
not_last Second early is = cc
not_last Third early is = cc
not_last Fourth early is = early

pub last_found : (d : Database) → Stands spool_schema d → ¬ HasEarlier d.schema
last_found d stands earlier =
    let all = all_of_version Fourth d stands in
    let same : Spool (Some earlier.0) ≡ Spool (Some Fourth) = sym earlier.2 ∙ all in
    let is : earlier.0 ≡ Fourth = cc in
    not_last earlier.0 earlier.1 is

pub none_or_other : (schema : Schema) → HasNone schema → HasUnversionedTables schema → ⊥
none_or_other schema none other = cc

pub some_or_other : (schema : Schema) (tables : Option Version) → found_of schema ≡ Spool tables → HasUnversionedTables schema → ⊥
some_or_other schema tables some other = cc

pub some_or_none : (schema : Schema) (tables : Option Version) → found_of schema ≡ Spool tables → HasNone schema → ⊥
some_or_none schema tables some none = cc

-- ---- by which tables a database is taken

pub taken_none : {T E : Type 0} (schema : Schema) (r : Result T E) → HasNone schema → OnOk r (HasNoneOrAll schema)
taken_none schema (Ok x) none = inl none
taken_none schema (Err e) none = tt

pub taken_some : {T E : Type 0} (schema : Schema) (tables : Option Version) (r : Result T E) → found_of schema ≡ Spool tables → (tables ≡ None → IsErr r) → OnOk r (HasNoneOrAll schema)
taken_some schema (Some v) (Ok x) some half = inr (v, some)
taken_some schema None (Ok x) some half = absurd (let fails = half refl in cc)
taken_some schema tables (Err e) some half = tt
