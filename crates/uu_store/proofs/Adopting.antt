-- Taking a database as a spool, as the beginning of a stretch.
use Rattle.std.proofs.Common.{◌≡◌, false, inl, inr, ℕ, List, Result, Ok, sym, subst}
use Rattle.std.proofs.Math.Logic.{∥∥₁_map}
use Rattle.sqlite.specs.Store.{Ghosts}
use Rattle.sqlite.specs.Held.{Held, state}
use Rattle.sqlite.specs.State as db
use Rattle.sqlite_catalog.specs.Listing.{IsSound}
use Rattle.uu_schema.specs.Steps.{Rests}
use Rattle.uu_core.specs.declared.custody.Key.{Key}
use Rattle.uu_core.specs.declared.job.NewJob.{NewJob}
use Rattle.uu_core.specs.State.{State}
use Rattle.uu_core.specs.Run.{state_after}
use Rattle.uu_schema.specs.declared.version.Version.{Version}
use Rattle.uu_schema.specs.declared.version.Version.TheVariants.{First, Second, Third, Fourth}
use Rattle.uu_schema.specs.Schema.{no_schema}
use Rattle.uu_schema.specs.declared.fault.StoreFault.{StoreFault}
use Rattle.uu_store.specs.declared.spool.Spool.{Spool}
use Rattle.uu_adopt.specs.Adoption.{IsRefused, IsSpared, StopsAs}
use Rattle.uu_adopt.specs.FoundTables.{HasNone, HasEarlier}
use Rattle.uu_schema.specs.Steps.{StaysUnclean}
use Rattle.uu_adopt.specs.Becoming.{CreatesTables, MigratesState}
use Rattle.uu_schema.specs.Encoded.{Encodes, EncodesAs, HoldsState, HoldsStateAs}
use Rattle.uu_schema.specs.Earlier.{IsEarlierVersion, schema_of}
use Rattle.uu_store.specs.Kept.{Stores, KeepsOnly}
use Rattle.uu_store.specs.Spool.{connection_of, has_failed, Shows}
use Rattle.uu_store.specs.Stretches.{Adopted, TurnedAway, StoresAfter, StretchOver, Led, exchanges_over}
use Rattle.uu_store.specs.Acknowledged.{IsAcknowledged, IsAcknowledgedUnder, StoresJob, StoresUnder}
use Rattle.uu_store.specs.Remembered.{Remembers}
use Rattle.uu_adopt.proofs.Settling.{Settles}
use Rattle.uu_store.proofs.Ending.{shows_again, clean_before}
use Rattle.uu_adopt.proofs.Inspecting.{kept_as, stops_as}

module _ {S : Type 0} (g : Ghosts S) (was now : Held S) where
  abbrev a : db.State
  a = state g was

  abbrev b : db.State
  b = state g now

  pub adopted_as : (spool : Spool S g) → connection_of spool ≡ now → has_failed spool ≡ false → (¬ HasNone a.now.schema → (HasEarlier a.now.schema → IsRefused (Ok tt)) → IsSpared a b (Ok tt)) → ((v : Version) → IsEarlierVersion v → MigratesState v a b (Ok tt)) → CreatesTables a b (Ok tt) → StaysUnclean a b → Adopted was spool
  adopted_as spool same usable spared migrates creates stays = record {
    shows = λ clean s rests stores. shown (clean_before spool now same clean) s rests stores;
    clean = subst (λ h. StaysUnclean a (state g h)) (sym same) stays;
  }
    where
      shown : db.HasCleanDisk b → (s : State) → Rests a → Stores a.now s → Shows spool s
      shown clean s rests (inl (v, enc)) = let it = kept_as a b spared migrates clean v s rests enc in shows_again spool now s same usable it.0 it.1
      shown clean s rests (inr none) = let it = creates.ok clean rests none.0 in shows_again spool now s same usable it.0 (subst (Encodes b.now) (sym none.1) (record { stands = it.1; holds = it.2 }))

  -- a stop leaves the state in the version that it was in, or in the last one
  keeps_earlier : (v : Version) → IsEarlierVersion v → (s : State) → StopsAs a b → EncodesAs v a.now s → KeepsOnly b.may_leave s
  keeps_earlier v early s stops enc trees may = elim (stops.earlier v early enc.stands trees may) [
    | inl same ↦ inl (v, subst (IsSound (schema_of v)) (sym same) enc.stands.sound, subst (λ t. HoldsStateAs v t s) (sym same) enc.holds)
    | inr made ↦ inl (Fourth, made.0, made.1.again s enc.holds)
  ]

  -- a stop leaves the state, also if the tables are made
  keeps_as : (s : State) → StopsAs a b → Stores a.now s → KeepsOnly b.may_leave s
  keeps_as s stops (inl (First, enc)) trees may = keeps_earlier First tt s stops enc trees may
  keeps_as s stops (inl (Second, enc)) trees may = keeps_earlier Second tt s stops enc trees may
  keeps_as s stops (inl (Third, enc)) trees may = keeps_earlier Third tt s stops enc trees may
  keeps_as s stops (inl (Fourth, enc)) trees may = let left = stops.state s enc trees may in inl (Fourth, left.0, left.1)
  keeps_as s stops (inr none) trees may = elim (stops.none none.0 trees may) [
    | inl same ↦ inr (subst (IsSound no_schema) (sym same) none.0.sound, none.1)
    | inr made ↦ inl (Fourth, made.0, subst (HoldsState trees) (sym none.1) made.1)
  ]

  pub turned_away_as : (r : Result (Unit {0}) StoreFault) → Settles a → (¬ HasNone a.now.schema → (HasEarlier a.now.schema → IsRefused r) → IsSpared a b r) → ((v : Version) → IsEarlierVersion v → MigratesState v a b r) → CreatesTables a b r → StaysUnclean a b → TurnedAway g was now
  turned_away_as r settles spared migrates creates stays = record { stop = λ clean s rests stores. keeps_as s (stops_as a b r settles clean rests spared migrates creates) stores; clean = stays }

-- ---- what is stored is shown

module _ {S : Type 0} {g : Ghosts S} (found : Held S) (spool : Spool S g) (adopted : Adopted found spool) where
  pub remembers : ((s : State) (before : Held S) (stretches : List (StretchOver S)) → Led g s before stretches found → ∥ StoresAfter s (exchanges_over g stretches) (state g found) ∥₁)
      → ((s : State) (before : Held S) (stretches : List (StretchOver S)) (new : NewJob) (number : ℕ) → Led g s before stretches found → IsAcknowledged (exchanges_over g stretches) new number → ∥ StoresJob s (exchanges_over g stretches) new number (state g found) ∥₁)
      → ((s : State) (before : Held S) (stretches : List (StretchOver S)) (key : Key) (new : NewJob) (number : ℕ) → Led g s before stretches found → IsAcknowledgedUnder (exchanges_over g stretches) key new number → ∥ StoresUnder s (exchanges_over g stretches) key number (state g found) ∥₁)
      → Remembers found spool
  remembers commands jobs keys = record {
    commands = λ clean s before stretches led. ∥∥₁_map (commands s before stretches led) (λ then. (then.0, then.1, adopted.shows clean (state_after s then.0) then.2 then.3));
    jobs = λ clean s before stretches led new number acknowledged. ∥∥₁_map (jobs s before stretches new number led acknowledged) (λ then. (then.0, then.1, adopted.shows clean (state_after s then.0) then.2 then.3, then.4));
    keys = λ clean s before stretches led key new number acknowledged. ∥∥₁_map (keys s before stretches key new number led acknowledged) (λ then. (then.0, then.1, adopted.shows clean (state_after s then.0) then.2 then.3, then.4));
  }
