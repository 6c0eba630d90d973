-- How a database is adopted: looked at, and made one of the version that is written.
use Rattle.std.proofs.Common.{◌≡◌, inl, inr, Option, Some, None, Result, Ok, Err, sym, ap, subst, ◌∙◌, arith}
use Rattle.std.specs.Prelude.{IfErr, OnOk}
use Rattle.sqlite.specs.Effect.{Database}
use Rattle.sqlite.specs.Schema.{Schema}
use Rattle.sqlite.specs.Tree.{Trees}
use Rattle.sqlite.specs.State as db
use Rattle.uu_core.specs.State.{empty}
use Rattle.uu_schema.specs.Steps.{Stands, Rests, StaysUnclean}
use Rattle.uu_schema.specs.Faults.{IsFaultOfThisCall}
use Rattle.uu_schema.specs.Encoded.{HoldsAgain, HoldsState}
use Rattle.uu_schema.specs.Schema.{spool_schema, no_schema}
use Rattle.uu_schema.specs.declared.fault.StoreFault.{StoreFault}
use Rattle.uu_schema.specs.declared.fault.StoreFault.TheVariants.{Foreign}
use Rattle.uu_schema.specs.declared.version.Version.{Version}
use Rattle.uu_schema.specs.declared.version.Version.TheVariants.{Fourth}
use Rattle.uu_schema.specs.Earlier.{IsEarlierVersion, schema_of}
use Rattle.uu_adopt.specs.declared.tables.Found.TheVariants.{Nothing, Spool, Other}
use Rattle.uu_adopt.specs.FoundTables.{found_of}
use Rattle.uu_adopt.specs.Becoming.{Becomes, MigratesState}
use Rattle.uu_adopt.specs.Adoption.{Adopts, AdoptsSpool, Inspects, IsInspected, IsRefused, IsSpared, IsUnmade, MakesSchema}
use Rattle.uu_adopt.proofs.Creating.{all_of_version, none_found, not_last, not_nothing, not_other, none_or_other, same_tables, some_or_none}
use Rattle.uu_adopt.proofs.Becoming.{migrated_then, inspected_then, unmade_then, spared_then, spared_migrates, spared_unmade, unless_weaker}
use Rattle.uu_adopt.proofs.Composing.{same_version, not_some}
use Rattle.uu_adopt.proofs.Inspecting.{inspected_never, inspected_if, becomes_if, spared_self}

-- ---- a database that was read, and then became one of another schema

module _ (a b d : db.State) (first : IsSpared a b (Ok tt)) (early : db.HasCleanDisk d → db.HasCleanDisk b) (from to : Schema) (Step : Trees → Trees → Type 0) where
  same_stands : db.HasCleanDisk d → Rests a → Stands from a.now → Stands from b.now
  same_stands clean rests stands = subst (Stands from) (sym (first.same (early clean) rests).1) stands

  stepped : (r : Result (Unit {0}) StoreFault) → b.now ≡ a.now → OnOk r (Rests d × Stands to d.now × Step b.now.trees d.now.trees) → OnOk r (Rests d × Stands to d.now × Step a.now.trees d.now.trees)
  stepped (Ok x) same it = (it.0, it.1, subst (λ (now : Database). Step now.trees d.now.trees) same it.2)
  stepped (Err fault) same it = tt

  pub becomes_after : (r : Result (Unit {0}) StoreFault) → Becomes from to Step b d r → Becomes from to Step a d r
  becomes_after r h = record {
    ok = λ clean rests stands. stepped r (first.same (early clean) rests).1 (h.ok clean (first.same (early clean) rests).0 (same_stands clean rests stands));
    memory = λ clean rests stands is. let same = first.same (early clean) rests in let m = h.memory clean same.0 (same_stands clean rests stands) is in (m.0, m.1 ∙ same.1);
    stop = λ clean rests stands trees may. elim (h.stop clean (first.same (early clean) rests).0 (same_stands clean rests stands) trees may) [
      | inl before ↦ inl (first.stop (early clean) trees before)
      | inr made ↦ inr (made.0, subst (λ (now : Database). Step now.trees trees) (first.same (early clean) rests).1 made.1)
    ];
  }

  pub unmade_after : (r : Result (Unit {0}) StoreFault) → IsUnmade b d r → IsUnmade a d r
  unmade_after (Ok x) h = tt
  unmade_after (Err fault) h = unless_weaker fault (λ less clean trees may. first.stop (early clean) trees (less clean trees may)) h

pub makes_after : (a b d : db.State) (from to : Schema) (Step : Trees → Trees → Type 0) (r : Result (Unit {0}) StoreFault) → IsSpared a b (Ok tt) → StaysUnclean a b → MakesSchema from to Step b d r → MakesSchema from to Step a d r
makes_after a b d from to Step r first unclean makes =
    let early : db.HasCleanDisk d → db.HasCleanDisk b = λ clean. omega (arith, clean, makes.clean) in
    record { becomes = becomes_after a b d first early from to Step r makes.becomes; unmade = unmade_after a b d first early from to Step r makes.unmade; clean = omega (arith, unclean, makes.clean) }

-- ---- a database with a table `spool`

-- the tables are those of an earlier version, and were migrated
pub adopts_migrated : (tables : Option Version) (w : Version) (a b d : db.State) (r : Result (Unit {0}) StoreFault) → IsEarlierVersion w → tables ≡ Some w → Inspects tables a b (Ok tt) → IfErr r IsFaultOfThisCall → MakesSchema (schema_of w) spool_schema (HoldsAgain w) b d r → (IsRefused r → IsSpared b d r) → AdoptsSpool tables a d r
adopts_migrated tables w a b d r early is looked fresh makes spared =
    let first = looked.inspected w is in
    let clean : db.HasCleanDisk d → db.HasCleanDisk b = λ clean. omega (arith, clean, makes.clean) in
    record {
      inspected = λ v other. subst (λ u. IsInspected u a d r) (same_version tables w v is other) (inspected_then w a b d first looked.spared clean r fresh);
      spared = λ refused. spared_then a b d r looked.spared clean (spared (refused w early is));
      migrates = λ v _ other. subst (λ u. MigratesState u a d r) (same_version tables w v is other) (migrated_then w a b d first looked.spared clean r makes.becomes);
      unmade = unmade_then w a b d first looked.spared clean r makes.unmade;
      clean = omega (arith, looked.clean, makes.clean);
    }

pub fourth_is_current : (tables : Option Version) → tables ≡ Some Fourth → (v : Version) → IsEarlierVersion v → tables ≡ Some v → ⊥
fourth_is_current tables fourth v early is = not_last v early (same_version tables v Fourth is fourth)

pub none_is_current : (tables : Option Version) → tables ≡ None → (v : Version) → IsEarlierVersion v → tables ≡ Some v → ⊥
none_is_current tables none v early is = not_some tables v none is

-- they are those of this version, and stay
pub adopts_current : (tables : Option Version) (a b : db.State) → ((v : Version) → IsEarlierVersion v → tables ≡ Some v → ⊥) → Inspects tables a b (Ok tt) → AdoptsSpool tables a b (Ok tt)
adopts_current tables a b current looked = record { inspected = looked.inspected; spared = λ refused. looked.spared; migrates = λ v early is. absurd (current v early is); unmade = tt; clean = looked.clean }

-- it is refused
pub adopts_refused : (tables : Option Version) (a b : db.State) (fault : StoreFault) → Inspects tables a b (Err fault) → AdoptsSpool tables a b (Err fault)
adopts_refused tables a b fault looked = record {
  inspected = looked.inspected;
  spared = λ refused. looked.spared;
  migrates = λ v early is. spared_migrates v a b fault looked.spared;
  unmade = spared_unmade a b fault looked.spared;
  clean = looked.clean;
}

-- ---- any database

module _ (a b : db.State) where
  pub adopts_none : (r : Result (Unit {0}) StoreFault) → found_of a.now.schema ≡ Nothing → MakesSchema no_schema spool_schema (λ old new. HoldsState new empty) a b r → Adopts a b r
  adopts_none r is makes = record {
    inspected = λ v. inspected_never v a b r (never v);
    spared = λ some refused. absurd (some is);
    migrates = λ v early. becomes_if _ _ _ a b r (λ stands. absurd (never v stands));
    creates = makes.becomes;
    unmade = makes.unmade;
    clean = makes.clean;
  }
    where
      never : (v : Version) → Stands (schema_of v) a.now → ⊥
      never v stands = not_nothing v (sym is ∙ all_of_version v a.now stands)

  pub adopts_some : (tables : Option Version) (r : Result (Unit {0}) StoreFault) → found_of a.now.schema ≡ Spool tables → AdoptsSpool tables a b r → Adopts a b r
  adopts_some tables r is it = record {
    inspected = λ v. inspected_if v a b r (λ stands. it.inspected v (same v stands));
    spared = λ some refused. it.spared (λ v early with_them. refused (v, early, is ∙ ap Spool with_them));
    migrates = λ v early. becomes_if _ _ _ a b r (λ stands. it.migrates v early (same v stands));
    creates = becomes_if _ _ _ a b r (λ stands. absurd (some_or_none a.now.schema tables is (none_found a.now stands)));
    unmade = it.unmade;
    clean = it.clean;
  }
    where
      same : (v : Version) → Stands (schema_of v) a.now → tables ≡ Some v
      same v stands = same_tables tables (Some v) (sym is ∙ all_of_version v a.now stands)

pub adopts_other : (a : db.State) → found_of a.now.schema ≡ Other → Adopts a a (Err Foreign)
adopts_other a is = record {
  inspected = λ v. inspected_never v a a _ (never v);
  spared = λ some refused. spared_self a _;
  migrates = λ v early. becomes_if _ _ _ a a _ (λ stands. absurd (never v stands));
  creates = becomes_if _ _ _ a a _ (λ stands. absurd (none_or_other a.now.schema (none_found a.now stands) is));
  unmade = λ clean trees may. may;
  clean = omega arith;
}
  where
    never : (v : Version) → Stands (schema_of v) a.now → ⊥
    never v stands = not_other v (sym is ∙ all_of_version v a.now stands)
