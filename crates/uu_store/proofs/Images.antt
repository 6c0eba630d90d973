-- What is found in the two files, and what an opening that failed leaves of them.
use Rattle.std.proofs.Common.{◌≡◌, ◌⊎◌, ◌≤◌, ◌<◌, ◌+◌, ◌*◌, ◌%◌, Some, inl, inr, ℕ, List, [], true, false, length, take, slice_index, refl, sym, ap, subst, ◌∙◌, arith, get_or-take, ap₂}
use Rattle.std.specs.Prelude.{unwrap_or, IsTrue}
use Rattle.std.proofs.lemmas.List.{length-take}
use Rattle.std.proofs.lemmas.Bool.{cases_eq, eq-eqb, ne_eqb}
use Rattle.std.proofs.Math.Logic.{∥∥₁_elim, ∥∥₁_map}
use Rattle.sqlite.specs.Tree.{Trees}
use Rattle.sqlite.specs.Files.{HoldsDatabase, IsNothing, AreFoundIn, NamesSize, SaysSums, LeavesFiles, IsUnderWay, image_of}
use Rattle.sqlite.specs.Schema.{Schema}
use Rattle.sqlite.specs.declared.file.Leftover.{Leftover}
use Rattle.sqlite.specs.declared.file.Leftover.TheVariants as left
use Rattle.sqlite.proofs.FileLemmas.{is_something}
use Rattle.sqlite.proofs.Theorems.{opens_again}
use Rattle.sqlite_catalog.specs.Listing.{IsSound}
use Rattle.sqlite_store.specs.declared.store.FileStore.{FileStore}
use Rattle.sqlite_store.specs.declared.store.open.Unopened.{Unopened}
use Rattle.sqlite_store.specs.FileStore as store
use Rattle.sqlite_store.specs.Unopened.{state_of}
use Rattle.uu_store.specs.Openings.{may_be_left, IsTakenAsMade}
use Rattle.sqlite_disk.specs.declared.Disk as disk
use Rattle.sqlite_disk.specs.declared.Files.{Files}
use Rattle.sqlite_wal.specs.Recovery.{Image, Pages, IsIgnored}
use Rattle.sqlite_wal.specs.Recovery as raw
use Rattle.sqlite_wal.specs.Format.{be32}
use Rattle.sqlite_wal.specs.Files.{outcomes}
use Rattle.sqlite_wal.proofs.AppendLemmas.{some_value}
use Rattle.sqlite_wal.proofs.CreateLemmas.{begun_is_not_blank}
use Rattle.sqlite_wal.proofs.RecoveryLemmas.{recovers_once}
use Rattle.sqlite_trees.specs.Objects.{catalog_tree}
use Rattle.sqlite_pool.specs.Stored.{Adopts, StandsAs, stored_size, used_size, reserved, is_summed, sealed}
use Rattle.sqlite_pool.specs.StoredLaws.{trimmed_some}
use Rattle.sqlite_pool.specs.Header.{first_page}
use Rattle.sqlite_pool.specs.File.{header_in, IsSoundFile}
use Rattle.sqlite_pool.proofs.ProbeLemmas.{first_byte, size_by_log, size_by_file, reserved_word}

long_enough : (m n : ℕ) (xs : List ℕ) → m ≤ length (take n xs) → (m ≤ n) × (m ≤ length xs)
long_enough m n xs h = let is = length-take n xs in (omega (arith, h, is), omega (arith, h, is))

-- files that hold pages are not nothing, with any size of a page
pub something : (image : Image) (size : ℕ) (pages : Pages) → Adopts size image pages → IsSoundFile size pages → ¬ IsNothing image
something image size pages found sound nothing =
    let it = some_value (found.stored 1) found.whole.first in
    let page = it.0 in
    let len : length page ≡ stored_size size = found.whole.sized 1 page it.1 in
    let used = ap (λ (p : Pages). p 1) (sym found.shows) ∙ trimmed_some size found.stored 1 page it.1 in
    let head : header_in pages ≡ take 100 (take size page) = ap (λ o. take 100 (unwrap_or o [])) used in
    let front : take 16 (take 100 (take size page)) ≡ _ = ap (take 16) (sym head) ∙ sound.header.0.magic in
    let many : length (take 16 (take 100 (take size page))) ≡ 16 = ap length front in
    let a = long_enough 16 16 (take 100 (take size page)) (omega (arith, many)) in
    let b = long_enough 16 100 (take size page) a.1 in
    let c = long_enough 16 size page b.1 in
    let long : 16 ≤ length page = c.1 in
    let wide : 16 ≤ size = c.0 in
    let byte : slice_index page 0 ≡ 83 =
    sym (get_or-take 16 (take 100 (take size page)) 0 0 (omega arith) ∙ get_or-take 100 (take size page) 0 0 (omega arith) ∙ get_or-take size page 0 0 (omega (arith, wide))) ∙ ap (λ (b : List ℕ). slice_index b 0) front in
    let never = λ (other : ℕ) (some : 0 < other). begun_is_not_blank (sealed (first_page other)) page (stored_size size) image found.stored found.found it.1 len (omega (arith, long, len)) (byte ∙ sym (first_byte other some)) (λ zero'. let never = sym (first_byte other some) ∙ zero' in omega arith) in
    elim nothing [ inl plain ↦ never (used_size 4096 false) (omega arith) plain | inr summed ↦ never (used_size 4096 true) (omega arith) summed ]

sums_are : (size : ℕ) → (IsTrue (is_summed size) × (reserved size ≡ 8)) ⊎ ((¬ IsTrue (is_summed size)) × (reserved size ≡ 0))
sums_are size = elim (cases_eq (size % 16) 8) [ inl on ↦ inl (rw (eq-eqb (size % 16) 8 on) (refl, refl)) | inr off ↦ inr (rw (ne_eqb (size % 16) 8 off) (λ is. cc, refl)) ]

-- ---- a database that an opening read at some size of a page

module _ (before : Image) (trees : Trees) (held : HoldsDatabase before trees) (size : ℕ) where
  large : 504 ≤ held.0
  large = let few : reserved held.0 ≤ 8 = grind arith in omega (arith, held.1.0)

  same_stored : NamesSize before (stored_size size) → stored_size size ≡ stored_size held.0
  same_stored names = elim (cases_eq (stored_size size) (stored_size held.0)) [
    | inl same ↦ same
    | inr other ↦ absurd (
        let read = λ (seen : ¬ IsIgnored before.log). other (names.0 seen ∙ size_by_log held.0 before held.2.pages held.2.found seen) in
        read (λ ignored. other (names.1 ignored ∙ size_by_file held.0 before held.2.pages held.2.found large held.2.ours.file.sound ignored)))
  ]

  -- the word in the header of the first page
  word : (first : List ℕ) (pages : Pages) → raw.Recovers (stored_size held.0) before pages → pages 1 ≡ Some first → be32 first 20 ≡ reserved held.0 * 0x100_0000 + 0x0040_2020
  word first pages found is =
      let w = reserved_word held.0 before held.2.pages held.2.found large held.2.ours.file.sound in
      let same = recovers_once (stored_size held.0) before pages held.2.found.stored found held.2.found.found in
      let both : Some first ≡ Some w.0 = sym is ∙ ap (λ (p : Pages). p 1) same ∙ w.1 in
      let here : first ≡ w.0 = cc in
      ap (λ (b : List ℕ). be32 b 20) here ∙ w.3

  says_sums : reserved held.0 ≡ 8 → SaysSums (stored_size held.0) before
  says_sums summed pages first found is len = let w = word first pages found is in omega (arith, w, summed)

  same_size : NamesSize before (stored_size size) → (IsTrue (is_summed size) → SaysSums (stored_size size) before) → (SaysSums (stored_size size) before → IsTrue (is_summed size)) → size ≡ held.0
  same_size names says taken = let same = same_stored names in elim (sums_are size) [
    | inl on ↦
        let w = reserved_word held.0 before held.2.pages held.2.found large held.2.ours.file.sound in
        let it = says on.0 held.2.found.stored w.0 (rw same held.2.found.found) w.1 (rw same w.2) in
        let a = on.1 in let b = w.3 in omega (arith, same, it, a, b)
    | inr off ↦ elim (sums_are held.0) [
      | inl on ↦ absurd (off.0 (taken (rw same (says_sums on.1))))
      | inr plain ↦ let a = off.1 in let b = plain.1 in omega (arith, same, a, b)
    ]
  ]

  -- what means the same pages at that size holds the same database
  pub still_holds : size ≡ held.0 → (left : Image) → StandsAs size before left → HoldsDatabase left trees
  still_holds same left stands =
      let it = held.2 in
      (held.0, held.1, record { pages = it.pages; wanted = it.wanted; schema = it.schema; found = (rw same at stands).1 it.pages it.found; ours = it.ours; reads = it.reads; sound = it.sound })

-- of files that hold nothing an opening finds no table
pub unfound : (image : Image) → IsNothing image → (trees : Trees) → AreFoundIn image trees → trees catalog_tree ≡ []
unfound image nothing trees (inl pages) = absurd (∥∥₁_elim pages.4 (λ a b. absurd a) (λ ours. something image pages.0 pages.1 pages.3 ours.file.sound nothing))
unfound image nothing trees (inr none) = none.1.1

-- ---- files that hold a database whose trees have a property, or nothing yet

abbrev pub Has : (Trees → Type 0) → Type 0 → Image → Type 0
Has P E image = ((trees : Trees) × HoldsDatabase image trees × P trees) ⊎ (IsNothing image × E)

module _ (P : Trees → Type 0) (E : Type 0) (sound : (trees : Trees) → P trees → (schema : Schema) × IsSound schema trees) (none_fits : E → (trees : Trees) → trees catalog_tree ≡ [] → P trees) where
  -- what a stop leaves of a store that was opened
  pub stop_has : {D : Type 0} {g : disk.Ghosts D} (it : FileStore D g) → IsTrue (store.view it).is_numbered → ((trees : Trees) → store.recovers it trees → P trees)
      → (left : Image) → (store.state it).may_leave left → ∥ Has P E left ∥₁
  stop_has it numbered keeps left may = ∥∥₁_map (opens_again it numbered (λ trees found. sound trees (keeps trees found)) left may) (λ db. inl (db.0, db.2, keeps db.0 db.1))

  module _ {D : Type 0} (g : disk.Ghosts D) (files : Files D) (only : (image : Image) → outcomes g files.log files.db image → image ≡ image_of g files) where
    abbrev before : Image
    before = image_of g files

    as_it_was : Has P E before → (left : Image) → outcomes g files.log files.db left → Has P E left
    as_it_was has left may = subst (Has P E) (sym (only left may)) has

    on_its_way : E → IsNothing before → (left : Image) → IsUnderWay g files left → ∥ Has P E left ∥₁
    on_its_way empty nothing left (inl same) = ∣ inr (subst IsNothing (sym (only left same)) nothing, empty) ∣₁
    on_its_way empty nothing left (inr (inl still)) = ∣ inr (still, empty) ∣₁
    on_its_way empty nothing left (inr (inr made)) = ∥∥₁_map made (λ it. inl (it.0, it.1, none_fits empty it.0 it.2.1))

    unopened : (now : Unopened D g) → LeavesFiles files (left.Unopened now) → IsTakenAsMade before (left.Unopened now) → Has P E before → (image : Image) → (state_of now).may_leave image → ∥ Has P E image ∥₁
    unopened now (inl new) taken (inl held) image may = absurd (is_something before held.0 held.1 new.0)
    unopened now (inl new) taken (inr none) image may = on_its_way none.1 new.0 image (new.1 image may)
    unopened now (inr old) taken (inr none) image may = absurd (old.0 none.0)
    unopened now (inr old) taken (inl held) image may = elim (old.4 image may).same [
      | inl same ↦ ∣ as_it_was (inl held) image same ∣₁
      | inr stands ↦
          let size = (state_of now).page_size in
          let same = same_size before held.0 held.1 size old.1 old.3 (taken held.0 held.1) in
          ∣ inl (held.0, still_holds before held.0 held.1 size same image stands, held.2) ∣₁
    ]

    in_store : (now : FileStore D g) → LeavesFiles files (left.Store now) → Has P E before → (trees : Trees) → store.recovers now trees → P trees
    in_store now leaves (inl held) trees may = subst P (sym ((leaves trees may).1 held.0 held.1)) held.2
    in_store now leaves (inr none) trees may = none_fits none.1 trees (unfound before none.0 trees (leaves trees may).0)

    leaves_has : (it : Leftover D g) → LeavesFiles files it → IsTakenAsMade before it → Has P E before → (image : Image) → may_be_left it image → ∥ Has P E image ∥₁
    leaves_has (left.Files now) leaves taken has image may = ∣ as_it_was has image (leaves image may) ∣₁
    leaves_has (left.Unopened now) leaves taken has image may = unopened now leaves taken has image may
    leaves_has (left.Store now) leaves taken has image may = stop_has now taken (in_store now leaves has) image may

-- ---- files that an opening by path made ready: a stop leaves what they show and nothing else

abbrev image : List ℕ → List ℕ → Image
image log db = record { log = log; db = db }

module _ (P : Trees → Type 0) (E : Type 0) (sound : (trees : Trees) → P trees → (schema : Schema) × IsSound schema trees) (none_fits : E → (trees : Trees) → trees catalog_tree ≡ [] → P trees)
    {D : Type 0} (g : disk.Ghosts D) (files : Files D) (log db : List ℕ) (log_is : g.seen files.log ≡ log) (db_is : g.seen files.db ≡ db)
    (log_stays : (c : List ℕ) → g.may_leave files.log c → c ≡ log) (db_stays : (c : List ℕ) → g.may_leave files.db c → c ≡ db) where
  only_found : (left : Image) → outcomes g files.log files.db left → left ≡ image_of g files
  only_found left may = ap₂ image (log_stays left.log may.0 ∙ sym log_is) (db_stays left.db may.1 ∙ sym db_is)

  pub failed_has : (it : Leftover D g) → LeavesFiles files it → IsTakenAsMade (image log db) it → Has P E (image log db) → (left : Image) → may_be_left it left → ∥ Has P E left ∥₁
  failed_has it leaves taken has left may =
      let found : image_of g files ≡ image log db = ap₂ image log_is db_is in
      leaves_has P E sound none_fits g files only_found it leaves (subst (λ i. IsTakenAsMade i it) (sym found) taken) (subst (Has P E) (sym found) has) left may
