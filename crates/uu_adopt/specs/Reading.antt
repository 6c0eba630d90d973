-- The answers to the questions on every row of a table, when a database is inspected.
use Rattle.std.specs.Prelude.{◌≡◌, ◌≢◌, ◌<◌, ◌<ℤ◌, ℕ, pos, Bool, true, false, List, [], ◌∷◌, Vec, Option, map, Result, IfOk, OnOk, IfSome, MatchOption, ⊤}
use Rattle.std.specs.declared.alloc.Global.{Global}
use Rattle.std.specs.declared.cmp.Ordering.{Ordering}
use Rattle.std.specs.declared.cmp.Ordering.TheVariants.{Less}
use Rattle.std.specs.List.{AllByRecursion}
use Rattle.std.specs.List.Sorted.{IsPermutation}
use Rattle.sqlite.specs.declared.error.Error.{Error}
use Rattle.sqlite.specs.declared.types.Value.TheVariants.{Int}
use Rattle.sqlite.specs.Order.{Row}
use Rattle.sqlite.specs.Edit.{id_in}
use Rattle.sqlite.specs.Tree.{Trees, IsAscending, rowid}
use Rattle.sqlite.specs.State as db
use Rattle.sqlite.specs.Held.{Held, state}
use Rattle.sqlite.specs.Store.{Ghosts}
use Rattle.uu_schema.specs.Steps.{Stands, StaysIdle}
use Rattle.uu_schema.specs.Spares.{Spares}
use Rattle.uu_schema.specs.Rowids.{AreNumbered, OnceEach}
use Rattle.uu_tables.specs.declared.rows.Body.{Body}
use Rattle.uu_tables.specs.declared.rows.BodySize.{BodySize}
use Rattle.uu_tables.specs.declared.earlier.BareSystem.{BareSystem}
use Rattle.uu_tables.specs.declared.earlier.Piece.{Piece}
use Rattle.uu_tables.specs.Tables.{size_of}
use Rattle.uu_schema.specs.Schema.{spool, systems, jobs, bodies, entries, links, taken}
use Rattle.uu_schema.specs.declared.version.Version.{Version}
use Rattle.uu_schema.specs.declared.version.Version.TheVariants.{First, Second, Third, Fourth}
use Rattle.uu_tables.specs.declared.rows.SystemColumns.{SystemColumns}
use Rattle.uu_tables.specs.declared.earlier.LineColumns.{LineColumns}
use Rattle.uu_tables.specs.declared.earlier.RangeColumns.{RangeColumns}
use Rattle.uu_tables.specs.declared.rows.EntryColumns.{EntryColumns}
use Rattle.uu_tables.specs.declared.earlier.WaitColumns.{WaitColumns}
use Rattle.uu_tables.specs.declared.rows.LinkColumns.{LinkColumns}
use Rattle.uu_tables.specs.declared.rows.TakenColumns.{TakenColumns}
use Rattle.uu_schema.specs.Made.{version_number, spool_row_of}
use Rattle.uu_schema.specs.Held.{system_key, job_key, body_key, entry_key, link_key, taken_key, system_places, job_places, body_places, entry_places, link_places, taken_places}
use Rattle.uu_schema.specs.HeldEarlier.{bare_key, line_key, range_key, piece_key, wait_key, line_places, range_places, piece_places, wait_places}
use Rattle.uu_core.specs.declared.job.JobHead.{JobHead}
use Rattle.uu_schema.specs.Cells.{system_cells, job_cells, body_cells, entry_cells, link_cells, taken_cells, bare_cells, line_cells, range_cells, wait_cells, piece_cells}
use Rattle.uu_rows.specs.Readable.{IsSmall, IsTypedSystem, IsTypedHead, IsTypedSize, IsTypedEntry, IsTypedLink, IsTypedTaken, IsTypedBare, IsTypedLine, IsTypedRange, IsTypedWait, IsTypedPiece}
use Rattle.uu_tables.specs.Order.{system_cmp, head_cmp, body_cmp, entry_cmp, link_cmp, taken_cmp, bare_system_cmp, line_cmp, range_cmp, wait_cmp, piece_cmp}
use Rattle.uu_schema.specs.Keyed.{Keyed, columns}
use Rattle.uu_schema.specs.Earlier.{schema_of, old_systems, lines, ranges, old_jobs, pieces, old_entries, success_waits, old_links, old_taken}

-- ---- rowids that rise

-- the first columns of the rows are whole numbers, each below those after it
pub record AreRowids (rows : List Row) : Type 0 where
  pub numbered : AreNumbered rows
  pub rising : IsAscending (λ a b. id_in (rowid a) <ℤ id_in (rowid b)) rows

-- ---- a table's rows as typed rows

-- The table's rows have the columns of these, in any order, and no two have the same rowid.
pub record AreRows {X : Type 0} (cells : X → Row) (places : List ℕ) (xs : List X) (rows : List Row) : Type 0 where
  pub same : IsPermutation (map cells xs) (map (columns places) rows)
  pub numbered : AreNumbered rows
  pub once : OnceEach rows

-- rows that can be read, in the strict order of their keys
pub record AreInOrder {X : Type 0} (IsReadable : X → Type 0) (cmp : X → X → Ordering) (xs : List X) : Type 0 where
  pub readable : AllByRecursion IsReadable xs
  pub rise : IsAscending (λ a b. cmp a b ≡ Less) xs

-- What is found is exactly the table's rows. If a list of readable rows in the order of its key is
-- the table's, that list is found.
pub record FindsRows {K X : Type 0} (key : X → K) (cells : X → Row) (places : List ℕ) (IsReadable : X → Type 0) (cmp : X → X → Ordering) (rows : List Row) (found : Option (Vec X Global)) : Type 0 where
  pub all : IfSome found (λ all. AreRows cells places all.items rows × AllByRecursion IsReadable all.items)
  pub only : (xs : List X) → AreInOrder IsReadable cmp xs → Keyed key cells places xs rows → MatchOption found ⊥ (λ all. all.items ≡ xs)

-- the answer to a question of yes or no
abbrev pub Tells : Bool → Type 0 → Type 0 → Type 0
Tells good Yes No = (good ≡ true → Yes) × (good ≡ false → No)

-- The question commits nothing and changes nothing, with any answer and any tables. What it answers
-- about the tables of a version is true.
pub record Reads (v : Version) {T : Type 0} (IsAnswer : Trees → T → Type 0) (old new : db.State) (r : Result T Error) : Type 0 where
  pub spares : Spares old new r
  pub same : db.HasCleanDisk new → OnOk r (new.now ≡ old.now)
  pub found : db.HasCleanDisk new → Stands (schema_of v) old.now → IfOk r (IsAnswer old.now.trees)

-- the same over a connection, which stays idle if it was
pub record ReadsFrom {S T : Type 0} (g : Ghosts S) (v : Version) (IsAnswer : Trees → T → Type 0) (old new : Held S) (r : Result T Error) : Type 0 where
  pub idle : StaysIdle old new
  pub reads : Reads v IsAnswer (state g old) (state g new) r

-- what is read from the rows of two questions: all typed rows, and rowids that rise. If the key is the
-- rowid and the first column, one question gives both.
pub record AreRead {X : Type 0} (cells : X → Row) (IsReadable : X → Type 0) (rows ids : List Row) (all : List X) : Type 0 where
  pub rows_are : rows ≡ map cells all
  pub readable : AllByRecursion IsReadable all
  pub rowids : AreRowids ids

abbrev pub IsRead : {X : Type 0} → (X → Row) → (X → Type 0) → List Row → List Row → Option (Vec X Global) → Type 0
IsRead cells IsReadable rows ids found = MatchOption found ((all : List _) → ¬ AreRead cells IsReadable rows ids all) (λ all. AreRead cells IsReadable rows ids all.items)

-- the answer to the question on the one row of the table `spool`
abbrev pub spool_cells : Version → ℕ → Row
spool_cells v next = Int (pos 1) ∷ Int (pos (version_number v)) ∷ Int (pos next) ∷ []

-- ---- bodies: the question gives the number of bytes of each, and no byte is read

-- What is found is exactly the sizes of the table's bodies, whatever their bytes are.
pub record FindsSizes (rows : List Row) (found : Option (Vec BodySize Global)) : Type 0 where
  pub all : IfSome found (λ all. (bs : List Body) × AreRows body_cells body_places bs rows × (map size_of bs ≡ all.items) × AllByRecursion IsTypedSize all.items)
  pub only : (bs : List Body) → AllByRecursion (λ b. IsTypedSize (size_of b)) bs → IsAscending (λ a b. body_cmp a b ≡ Less) bs → Keyed body_key body_cells body_places bs rows → MatchOption found ⊥ (λ all. all.items ≡ map size_of bs)

-- ---- where a version has a table

abbrev pub jobs_at : Version → ℕ
jobs_at First = old_jobs.tree
jobs_at Second = old_jobs.tree
jobs_at Third = old_jobs.tree
jobs_at Fourth = jobs.tree

abbrev pub entries_at : Version → ℕ
entries_at First = old_entries.tree
entries_at Second = old_entries.tree
entries_at Third = old_entries.tree
entries_at Fourth = entries.tree

-- ---- the tables that every version has

abbrev pub FindsJobs : Version → Trees → Option (Vec JobHead Global) → Type 0
FindsJobs v trees found = FindsRows job_key job_cells job_places IsTypedHead head_cmp (trees (jobs_at v)) found

-- what is read of the answer to the question on the jobs is the table's
abbrev pub AnswersJobs : Version → Trees → List Row → Type 0
AnswersJobs v trees rows = (found : Option (Vec JobHead Global)) → IsRead job_cells IsTypedHead rows rows found → FindsJobs v trees found

abbrev pub FindsEntries : Version → Trees → Option (Vec EntryColumns Global) → Type 0
FindsEntries v trees found = FindsRows entry_key entry_cells entry_places IsTypedEntry entry_cmp (trees (entries_at v)) found

-- the table `spool` has its one row, with this version and this next number; none is found only if
-- it has no such row with a number of 32 bits
abbrev pub FindsNext : Version → Trees → Option ℕ → Type 0
FindsNext v trees found = MatchOption found ((next : ℕ) → IsSmall next → trees spool.tree ≢ spool_row_of v next ∷ []) (λ next. trees spool.tree ≡ spool_row_of v next ∷ [])

-- ---- those of version 4

abbrev pub FindsSystems : Trees → Option (Vec SystemColumns Global) → Type 0
FindsSystems trees found = FindsRows system_key system_cells system_places IsTypedSystem system_cmp (trees systems.tree) found

abbrev pub FindsBodies : Trees → Option (Vec BodySize Global) → Type 0
FindsBodies trees found = FindsSizes (trees bodies.tree) found

-- ---- those of earlier versions

abbrev pub FindsBareSystems : Trees → Option (Vec BareSystem Global) → Type 0
FindsBareSystems trees found = FindsRows bare_key bare_cells system_places IsTypedBare bare_system_cmp (trees old_systems.tree) found

abbrev pub FindsLines : Trees → Option (Vec LineColumns Global) → Type 0
FindsLines trees found = FindsRows line_key line_cells line_places IsTypedLine line_cmp (trees lines.tree) found

abbrev pub FindsRanges : Trees → Option (Vec RangeColumns Global) → Type 0
FindsRanges trees found = FindsRows range_key range_cells range_places IsTypedRange range_cmp (trees ranges.tree) found

abbrev pub FindsPieces : Trees → Option (Vec Piece Global) → Type 0
FindsPieces trees found = FindsRows piece_key piece_cells piece_places IsTypedPiece piece_cmp (trees pieces.tree) found

-- ---- success waits: versions 2 and 3 have a table of them, and version 1 has none

abbrev pub FindsWaits : Version → Trees → Option (Vec WaitColumns Global) → Type 0
FindsWaits First trees found = MatchOption found ⊥ (λ all. all.items ≡ [])
FindsWaits Second trees found = FindsRows wait_key wait_cells wait_places IsTypedWait wait_cmp (trees success_waits.tree) found
FindsWaits Third trees found = FindsRows wait_key wait_cells wait_places IsTypedWait wait_cmp (trees success_waits.tree) found
FindsWaits Fourth trees found = ⊤

-- a version that has such a table
abbrev pub HasWaits : Version → Type 0
HasWaits First = ⊥
HasWaits Second = ⊤
HasWaits Third = ⊤
HasWaits Fourth = ⊥

-- ---- links, and what was taken by them: versions 1 and 2 have no tables of them, so they have
-- none

abbrev pub FindsLinks : Version → Trees → Option (Vec LinkColumns Global) → Type 0
FindsLinks First trees found = MatchOption found ⊥ (λ all. all.items ≡ [])
FindsLinks Second trees found = MatchOption found ⊥ (λ all. all.items ≡ [])
FindsLinks Third trees found = FindsRows link_key link_cells link_places IsTypedLink link_cmp (trees old_links.tree) found
FindsLinks Fourth trees found = FindsRows link_key link_cells link_places IsTypedLink link_cmp (trees links.tree) found

abbrev pub FindsTaken : Version → Trees → Option (Vec TakenColumns Global) → Type 0
FindsTaken First trees found = MatchOption found ⊥ (λ all. all.items ≡ [])
FindsTaken Second trees found = MatchOption found ⊥ (λ all. all.items ≡ [])
FindsTaken Third trees found = FindsRows taken_key taken_cells taken_places IsTypedTaken taken_cmp (trees old_taken.tree) found
FindsTaken Fourth trees found = FindsRows taken_key taken_cells taken_places IsTypedTaken taken_cmp (trees taken.tree) found

-- a version that has such tables
abbrev pub HasLinks : Version → Type 0
HasLinks First = ⊥
HasLinks Second = ⊥
HasLinks Third = ⊤
HasLinks Fourth = ⊤
