-- From what the files of a spool hold to what it shows.
use Rattle.std.proofs.Common.{◌≡◌, ◌≢◌, ◌⊎◌, inl, inr, [], Option, Some, None, refl, sym, ap, subst, ◌∙◌, arith}
use Rattle.std.specs.Prelude.{IsTrue, IfSome}
use Rattle.std.proofs.Math.Logic.{∥∥₁_map}
use Rattle.sqlite.specs.Tree.{Trees}
use Rattle.sqlite.specs.Schema.{Schema}
use Rattle.sqlite.specs.Effect.{Database}
use Rattle.sqlite.specs.Store.{Ghosts}
use Rattle.sqlite.specs.Held.{Held, state}
use Rattle.sqlite.specs.State as db
use Rattle.sqlite.specs.Start.{FindsIn}
use Rattle.sqlite.specs.View.{IsClean}
use Rattle.sqlite.specs.Files.{HoldsDatabase, IsNothing, IsCleanLeft, file_state, over_files}
use Rattle.sqlite.specs.declared.file.Leftover.{Leftover}
use Rattle.sqlite.specs.declared.error.Error.{Error}
use Rattle.sqlite.proofs.ListingLemmas.{empty_is_sound}
use Rattle.sqlite_wal.specs.Recovery.{Image}
use Rattle.sqlite_catalog.specs.Listing.{IsSound}
use Rattle.sqlite_trees.specs.Objects.{catalog_tree}
use Rattle.sqlite_trees.specs.View.{IsQuiet}
use Rattle.sqlite_trees.proofs.Doubt.{no_doubt}
use Rattle.sqlite_disk.specs.declared.Disk as disk
use Rattle.sqlite_store.specs.declared.store.FileStore.{FileStore}
use Rattle.sqlite_store.specs.FileStore.{view}
use Rattle.sqlite_store.specs.FileStore as store
use Rattle.uu_schema.specs.Steps.{Rests, Stands}
use Rattle.uu_core.specs.State.{State, empty}
use Rattle.uu_schema.specs.declared.version.Version.{Version}
use Rattle.uu_schema.specs.Schema.{no_schema}
use Rattle.uu_files.specs.Unopened.{IsWhyUnopened}
use Rattle.uu_store.specs.declared.remains.OpenFault.{OpenFault}
use Rattle.uu_store.specs.declared.remains.Remains.{Remains}
use Rattle.uu_store.specs.declared.remains.Remains.TheVariants as remains
use Rattle.uu_store.specs.declared.spool.Spool.{Spool}
use Rattle.uu_schema.specs.Encoded.{EncodesAs}
use Rattle.uu_adopt.specs.Adoption.{StopsAs, UnlessFailed}
use Rattle.uu_adopt.specs.Version.{IsLater}
use Rattle.uu_store.specs.Kept.{Keeps, Stores}
use Rattle.uu_store.specs.Spool.{disk, Shows}
use Rattle.uu_store.specs.Stretches.{Adopted, TurnedAway}
use Rattle.uu_schema.specs.declared.fault.StoreFault.{StoreFault}
use Rattle.uu_schema.specs.declared.fault.StoreFault.TheVariants.{Memory, Store, Failed, Foreign, Newer}
use Rattle.uu_schema.specs.declared.fault.StoreKind.{StoreKind}
use Rattle.uu_schema.specs.declared.fault.StoreKind.TheVariants as part
use Rattle.uu_schema.specs.Faults.{kind_of_error}
use Rattle.uu_schema.specs.Earlier.{schema_of}
use Rattle.uu_adopt.specs.FoundTables.{HasNoneOrAll, HasUnversionedTables}
use Rattle.uu_store.specs.Openings.{HasSome, ImageHasUnversionedTables, StaysAfter, ImageKeeps, IsFound, IsFoundIfClean, HasOpeningCause, IsRightFault, IsNotTaken, IsOfNoContents, IsToldRightly, LeavesAlone, LeavesAsKept, LeavesSame, remains_of, remains_of_opening}
use Rattle.uu_adopt.proofs.Creating.{none_or_other, some_or_other}
use Rattle.uu_store.proofs.Images.{unfound, stop_has}
use Rattle.uu_store.proofs.Reopening.{simple_of, stands_again, stores_of}

pub none_fits : (s : State) → s ≡ empty → (trees : Trees) → trees catalog_tree ≡ [] → Keeps trees s
none_fits s is trees none = inr (empty_is_sound trees none, is)

pub keeps_sound : (s : State) (trees : Trees) → Keeps trees s → (schema : Schema) × IsSound schema trees
keeps_sound s trees (inl it) = (schema_of it.0, it.1)
keeps_sound s trees (inr it) = (no_schema, it.0)

rests_found : (image : Image) (opened : db.State) → IsFound image opened → Rests opened
rests_found image opened found = record { is_open = found.opens.is_open; idle = found.opens.autocommit; settled = found.opens.clean }

trees_found : (image : Image) (opened : db.State) → IsFound image opened → (trees : Trees) → HoldsDatabase image trees → opened.now.trees ≡ trees
trees_found image opened found trees held = ap (λ (d : Database). d.trees) found.opens.clean ∙ found.finds.holds trees held

-- what holds of each schema that fits the files' database holds of that of what is opened
schema_found : (P : Schema → Type 0) (image : Image) (opened : db.State) → IsFound image opened → (trees : Trees) → HoldsDatabase image trees → ((schema : Schema) → IsSound schema trees → P schema) → P opened.now.schema
schema_found P image opened found trees held each =
    each opened.now.schema (subst (IsSound opened.now.schema) (trees_found image opened found trees held) (found.live found.opens.is_open).0)

-- what is opened is at rest, and stores the state that the files kept
pub found_stores : (image : Image) (s : State) (opened : db.State) → IsFound image opened → ImageKeeps image s → Rests opened × Stores opened.now s
found_stores image s opened found keeps = (rests, stores_of opened s found.live rests (keeps_now keeps))
  where
    rests : Rests opened
    rests = rests_found image opened found

    now_is : opened.now.trees ≡ opened.committed.trees
    now_is = ap (λ (d : Database). d.trees) found.opens.clean

    keeps_now : ImageKeeps image s → Keeps opened.now.trees s
    keeps_now (inl held) = subst (λ trees. Keeps trees s) (sym (now_is ∙ found.finds.holds held.0 held.1)) held.2
    keeps_now (inr none) = none_fits s none.1 opened.now.trees (ap (λ (trees : Trees). trees catalog_tree) now_is ∙ unfound image none.0 opened.committed.trees found.finds.reads)

-- what is opened has something else under one of the names, if the files' database has
pub other_found : (image : Image) (opened : db.State) → IsFound image opened → ImageHasUnversionedTables image → HasUnversionedTables opened.now.schema
other_found image opened found it =
    let trees_are = ap (λ (d : Database). d.trees) found.opens.clean ∙ found.finds.holds it.0 it.1 in
    it.2 opened.now.schema (subst (IsSound opened.now.schema) trees_are (found.live found.opens.is_open).0)

pub is_found : (image : Image) (opened : db.State) → (db.HasCleanDisk opened → db.Opens opened × db.IsLive opened) → (db.HasCleanDisk opened → FindsIn image opened) → db.HasCleanDisk opened → IsFound image opened
is_found image opened opens finds clean = let it = opens clean in record { opens = it.0; live = it.1; finds = finds clean }

module _ {S : Type 0} (g : Ghosts S) (image : Image) (opened : Held S) (found : IsFoundIfClean g image opened) where
  pub started_shows : (spool : Spool S g) → Adopted opened spool → db.HasCleanDisk (disk spool) → (s : State) → ImageKeeps image s → Shows spool s
  started_shows spool adopted clean s keeps =
      let it = found_stores image s (state g opened) (found (omega (arith, adopted.clean, clean))) keeps in
      adopted.shows clean s it.0 it.1

  pub started_never_other : (spool : Spool S g) → Adopted opened spool → HasNoneOrAll (state g opened).now.schema → db.HasCleanDisk (disk spool) → ImageHasUnversionedTables image → ⊥
  started_never_other spool adopted taken clean it =
      let schema = (state g opened).now.schema in
      let other = other_found image (state g opened) (found (omega (arith, adopted.clean, clean))) it in
      elim taken [ inl none ↦ none_or_other schema none other | inr all ↦ some_or_other schema (Some all.0) all.1 other ]

  pub started_same : (spool : Spool S g) → Adopted opened spool → (db.HasCleanDisk (disk spool) → Rests (state g opened) → StopsAs (state g opened) (disk spool)) → db.HasCleanDisk (disk spool) → LeavesSame image (disk spool).may_leave
  started_same spool adopted stops clean trees has left may =
      let it = found (omega (arith, adopted.clean, clean)) in
      let some = schema_found HasSome image (state g opened) it trees has.0 has.1 in
      (stops clean (rests_found image (state g opened) it)).some some.0 some.1 left may ∙ trees_found image (state g opened) it trees has.0

-- ---- if the database wasn't taken

pub not_taken : {S : Type 0} (g : Ghosts S) (was last : Held S) (stopped : S) (fault : StoreFault) → TurnedAway g was last → IsQuiet g.view g.faults g.recovers g.is_shielded last.store stopped
    → (IsClean (g.view stopped) → IsTrue (g.view stopped).is_numbered) → (db.HasCleanDisk (state g last) → (v : Version) (s : State) → EncodesAs v (state g was).now s → (fault ≢ Foreign) × (fault ≢ Newer))
    → (Stands no_schema (state g was).now → (fault ≢ Foreign) × (fault ≢ Newer)) → (HasUnversionedTables (state g was).now.schema → fault ≡ Foreign)
    → (db.HasCleanDisk (state g last) → Rests (state g was) → StopsAs (state g was) (state g last))
    → (db.HasCleanDisk (state g last) → Rests (state g was) → UnlessFailed fault ((trees : Trees) → (state g last).may_leave trees → trees ≡ (state g was).now.trees))
    → (db.HasCleanDisk (state g last) → (v : Version) → Stands (schema_of v) (state g was).now → fault ≡ Newer → IsLater (state g was).now.trees)
    → (db.HasCleanDisk (state g last) → (v : Version) → Stands (schema_of v) (state g was).now → fault ≡ Foreign → (¬ IsLater (state g was).now.trees) × ((s : State) → ¬ EncodesAs v (state g was).now s)) → IsNotTaken g was stopped fault
not_taken g was last stopped fault away quiet numbered ours of_empty other stops unmade newer foreign = record {
  last = last;
  turned_away = away;
  let_go = record { left = quiet.outcomes; clean = quiet.clean };
  numbered = numbered;
  ours = λ clean s stores. elim stores [ inl enc ↦ ours (omega (arith, quiet.clean, clean)) enc.0 s enc.1 | inr none ↦ of_empty none.0 ];
  other = other;
  whole = λ v clean stands. (newer (omega (arith, quiet.clean, clean)) v stands, λ is. let it = foreign (omega (arith, quiet.clean, clean)) v stands is in (it.0, λ s holds. it.1 s (record { stands = stands; holds = holds })));
  some = λ clean rests some trees may. stays fault (stops (omega (arith, quiet.clean, clean)) rests) (unmade (omega (arith, quiet.clean, clean)) rests) some trees (quiet.outcomes trees may);
}
  where
    stays : (fault : StoreFault) → StopsAs (state g was) (state g last) → UnlessFailed fault ((trees : Trees) → (state g last).may_leave trees → trees ≡ (state g was).now.trees) → StaysAfter fault (state g was).now.schema
        → (trees : Trees) → (state g last).may_leave trees → trees ≡ (state g was).now.trees
    stays (Store kind) stop less some = stop.some some.0 some.1
    stays Memory stop less some = less
    stays Failed stop less some = less
    stays Foreign stop less some = less
    stays Newer stop less some = less

module _ {D : Type 0} {g : disk.Ghosts D} (image : Image) (opened : Held (FileStore D g)) (found : IsFoundIfClean over_files image opened) (stopped : FileStore D g) (fault : StoreFault)
    (away : IsNotTaken over_files opened stopped fault) (clean : IsTrue (view stopped).is_clean) where
  found_away : IsFound image (file_state opened)
  found_away = let sure = no_doubt (view stopped).is_clean clean in found (omega (arith, away.turned_away.clean, away.let_go.clean, sure))

  away_ours : (s : State) → ImageKeeps image s → (fault ≢ Foreign) × (fault ≢ Newer)
  away_ours s keeps = away.ours (no_doubt (view stopped).is_clean clean) s (found_stores image s (file_state opened) found_away keeps).1

  away_other : ImageHasUnversionedTables image → fault ≡ Foreign
  away_other it = away.other (other_found image (file_state opened) found_away it)

  found_rests : Rests (file_state opened)
  found_rests = rests_found image (file_state opened) found_away

  found_trees : (trees : Trees) → HoldsDatabase image trees → (file_state opened).now.trees ≡ trees
  found_trees = trees_found image (file_state opened) found_away

  away_told : (v : Version) (trees : Trees) → HoldsDatabase image trees → IsSound (schema_of v) trees → IsToldRightly v trees fault
  away_told v trees held sound =
      let same = found_trees trees held in
      let stands = stands_again (schema_of v) (simple_of v) (file_state opened) found_away.live found_rests (subst (IsSound (schema_of v)) (sym same) sound) in
      subst (λ trees. IsToldRightly v trees fault) same (away.whole v (no_doubt (view stopped).is_clean clean) stands)

  pub away_rightly : ((s : State) → ImageKeeps image s → (fault ≢ Foreign) × (fault ≢ Newer)) × (ImageHasUnversionedTables image → fault ≡ Foreign)
      × ((v : Version) (trees : Trees) → HoldsDatabase image trees → IsSound (schema_of v) trees → IsToldRightly v trees fault)
  away_rightly = (away_ours, away_other, away_told)

  -- what is left of another database is that database
  pub away_same : (trees : Trees) → HoldsDatabase image trees → ((schema : Schema) → IsSound schema trees → StaysAfter fault schema) → (left : Trees) → store.recovers stopped left → left ≡ trees
  away_same trees held each left may =
      away.some (no_doubt (view stopped).is_clean clean) found_rests (schema_found (StaysAfter fault) image (file_state opened) found_away trees held each) left may ∙ found_trees trees held

  pub away_sound : (trees : Trees) → HoldsDatabase image trees → (left : Trees) → left ≡ trees → (schema : Schema) × IsSound schema left
  away_sound trees held left is =
      let same = found_trees trees held in
      ((file_state opened).now.schema, subst (IsSound (file_state opened).now.schema) (same ∙ sym is) (found_away.live found_away.opens.is_open).0)

  pub away_keeps : (s : State) → ImageKeeps image s → (trees : Trees) → store.recovers stopped trees → Keeps trees s
  away_keeps s keeps trees may =
      let sure = no_doubt (view stopped).is_clean clean in
      let it = found_stores image s (file_state opened) found_away keeps in
      away.turned_away.stop (omega (arith, away.let_go.clean, sure)) s it.0 it.1 trees (away.let_go.left trees may)

pub away_leaves : {D : Type 0} {g : disk.Ghosts D} (image : Image) (opened : Held (FileStore D g)) → IsFoundIfClean over_files image opened → (stopped : FileStore D g) (fault : StoreFault)
    → IsNotTaken over_files opened stopped fault → LeavesAsKept image (remains.Store stopped)
away_leaves image opened found stopped fault away clean s keeps left may =
    stop_has (λ trees. Keeps trees s) (s ≡ empty) (keeps_sound s) (none_fits s) stopped (away.numbered (no_doubt (view stopped).is_clean clean)) (away_keeps image opened found stopped fault away clean s keeps) left may

is_left : (trees : Trees) (left : Image) → ((found : Trees) × HoldsDatabase left found × (found ≡ trees)) ⊎ (IsNothing left × ⊥) → HoldsDatabase left trees
is_left trees left (inl it) = subst (HoldsDatabase left) it.2 it.1
is_left trees left (inr none) = absurd none.1

pub away_alone : {D : Type 0} {g : disk.Ghosts D} (image : Image) (opened : Held (FileStore D g)) → IsFoundIfClean over_files image opened → (stopped : FileStore D g) (fault : StoreFault)
    → IsNotTaken over_files opened stopped fault → LeavesAlone image fault (remains.Store stopped)
away_alone image opened found stopped fault away clean trees held each left may =
    ∥∥₁_map (stop_has (λ found. found ≡ trees) ⊥ (away_sound image opened found stopped fault away clean trees held) (λ none. absurd none) stopped (away.numbered (no_doubt (view stopped).is_clean clean))
    (away_same image opened found stopped fault away clean trees held each) left may) (is_left trees left)

pub away_named : {D : Type 0} {g : disk.Ghosts D} (image : Image) (opened : Held (FileStore D g)) → IsFoundIfClean over_files image opened → (stopped : FileStore D g) (fault : StoreFault)
    → IsNotTaken over_files opened stopped fault → IsRightFault image fault (remains.Store stopped)
away_named image opened found stopped fault away clean = away_rightly image opened found stopped fault away clean

-- ---- if nothing was opened

kind_of_unopened : (error : Error) → IsWhyUnopened error → (kind_of_error error ≡ part.Database) ⊎ ((kind_of_error error ≡ part.Busy) ⊎ (kind_of_error error ≡ part.Disk))
kind_of_unopened error (inl is) = inl (ap kind_of_error is)
kind_of_unopened error (inr (inl is)) = inl (ap kind_of_error is)
kind_of_unopened error (inr (inr (inl is))) = inr (inl (ap kind_of_error is))
kind_of_unopened error (inr (inr (inr is))) = inr (inr (ap kind_of_error is))

refused_as : (error : Error) (fault : StoreFault) → (fault ≢ Failed) × IsOfNoContents fault → ((kind : StoreKind) → fault ≡ Store kind → kind ≡ kind_of_error error)
    → IsWhyUnopened error → (fault ≡ Memory) ⊎ ((fault ≡ Store part.Database) ⊎ ((fault ≡ Store part.Busy) ⊎ (fault ≡ Store part.Disk)))
refused_as error Memory named kinds why = inl refl
refused_as error (Store kind) named kinds why = inr (elim (kind_of_unopened error why) [
  | inl is ↦ inl (ap Store (kinds kind refl ∙ is))
  | inr (inl is) ↦ inr (inl (ap Store (kinds kind refl ∙ is)))
  | inr (inr is) ↦ inr (inr (ap Store (kinds kind refl ∙ is)))
])
refused_as error Failed named kinds why = absurd (named.0 refl)
refused_as error Foreign named kinds why = absurd (named.1.0 refl)
refused_as error Newer named kinds why = absurd (named.1.1 refl)

module _ {D : Type 0} {g : disk.Ghosts D} (image : Image) where
  pub left_of_opening : (o : Option (Leftover D g)) → IfSome o (λ it. LeavesAsKept image (remains.Files it)) → LeavesAsKept image (remains_of_opening o)
  left_of_opening None from = tt
  left_of_opening (Some it) from = from

  pub alone_of_opening : (fault : StoreFault) (o : Option (Leftover D g)) → LeavesAlone image fault (remains_of_opening o)
  alone_of_opening fault None = tt
  alone_of_opening fault (Some it) = tt

  pub named_of_opening : (o : Option (Leftover D g)) (error : Error) (fault : StoreFault) → (fault ≢ Failed) × IsOfNoContents fault → ((kind : StoreKind) → fault ≡ Store kind → kind ≡ kind_of_error error)
      → (o ≡ None → IsWhyUnopened error) → IfSome o (λ it. IsCleanLeft it → (which : StoreKind) → fault ≡ Store which → HasOpeningCause image which it) → IsRightFault image fault (remains_of_opening o)
  named_of_opening None error fault named kinds why cause = refused_as error fault named kinds (why refl)
  named_of_opening (Some it) error fault named kinds why cause = (named.1, cause)

pub named_as : {D : Type 0} {g : disk.Ghosts D} (image : Image) (it : OpenFault D g) (fault : StoreFault) (left : Remains D g) → it.fault ≡ fault → remains_of it ≡ left → IsRightFault image fault left → IsRightFault image it.fault (remains_of it)
named_as image it fault left same there named = subst (λ fault. IsRightFault image fault (remains_of it)) (sym same) (subst (IsRightFault image fault) (sym there) named)

pub alone_as : {D : Type 0} {g : disk.Ghosts D} (image : Image) (it : OpenFault D g) (fault : StoreFault) (left : Remains D g) → it.fault ≡ fault → remains_of it ≡ left → LeavesAlone image fault left → LeavesAlone image it.fault (remains_of it)
alone_as image it fault left same there alone = subst (λ fault. LeavesAlone image fault (remains_of it)) (sym same) (subst (LeavesAlone image fault) (sym there) alone)

pub some_weaker : {T : Type 0} {A B : T → Type 0} (o : Option T) → ((x : T) → A x → B x) → IfSome o A → IfSome o B
some_weaker None from h = tt
some_weaker (Some x) from h = from x h
