-- From the rows that are read to whether they are those of a state, in the tables of an earlier
-- version.
use Rattle.std.proofs.Common.{◌≡◌, Bool, true, false, None, Some, Vec, refl, sym, ap, subst, ◌∙◌, true≢false}
use Rattle.std.specs.Prelude.{◌↔◌, ℕ, Option, is_some, ◌∷◌, []}
use Rattle.std.specs.declared.alloc.Global.{Global}
use Rattle.sqlite.specs.Tree.{Trees}
use Rattle.uu_core.specs.State.{State, IsWellFormed}
use Rattle.uu_core.specs.declared.job.JobHead.{JobHead}
use Rattle.uu_tables.specs.declared.earlier.BareSystem.{BareSystem}
use Rattle.uu_tables.specs.declared.earlier.LineColumns.{LineColumns}
use Rattle.uu_tables.specs.declared.earlier.RangeColumns.{RangeColumns}
use Rattle.uu_tables.specs.declared.earlier.Piece.{Piece}
use Rattle.uu_tables.specs.declared.earlier.WaitColumns.{WaitColumns}
use Rattle.uu_tables.specs.declared.rows.EntryColumns.{EntryColumns}
use Rattle.uu_tables.specs.declared.rows.LinkColumns.{LinkColumns}
use Rattle.uu_tables.specs.declared.rows.TakenColumns.{TakenColumns}
use Rattle.uu_tables.specs.Earlier.{EarlierTables, earlier_tables_of}
use Rattle.uu_tables.specs.Order.{head_cmp, entry_cmp, link_cmp, taken_cmp, bare_system_cmp, line_cmp, range_cmp, piece_cmp, wait_cmp}
use Rattle.uu_check.specs.declared.earlier.EarlierRows.{EarlierRows}
use Rattle.uu_check.specs.OfState.{AreEarlierTables, AreEarlierRowsOf as AreRowsOfTables}
use Rattle.uu_schema.specs.Earlier.{IsEarlierVersion, old_systems, lines, ranges, old_jobs, pieces, old_entries, success_waits, old_links, old_taken}
use Rattle.uu_schema.specs.declared.version.Version.{Version}
use Rattle.uu_schema.specs.declared.version.Version.TheVariants.{First, Second, Third, Fourth}
use Rattle.uu_schema.specs.Made.{spool_row_of}
use Rattle.uu_schema.specs.Held.{job_key, entry_key, link_key, taken_key, system_places, job_places, entry_places, link_places, taken_places}
use Rattle.uu_schema.specs.HeldEarlier.{HoldsEarlier, AreWaitsOf, AreLinksOf, AreTakenOf, bare_key, line_key, range_key, piece_key, wait_key, line_places, range_places, piece_places, wait_places}
use Rattle.uu_schema.specs.Cells.{job_cells, entry_cells, link_cells, taken_cells, bare_cells, line_cells, range_cells, piece_cells, wait_cells}
use Rattle.uu_schema.specs.Encoded.{HoldsRowsAs, HoldsStateAs}
use Rattle.uu_rows.specs.Readable.{IsTypedHead, IsTypedEntry}
use Rattle.uu_adopt.specs.Reading.{AreRows, FindsRows, FindsBareSystems, FindsLines, FindsRanges, FindsJobs, FindsPieces, FindsEntries, FindsNext, FindsWaits, FindsLinks, FindsTaken, jobs_at, entries_at}
use Rattle.uu_adopt.specs.Adoption.{IsOfNone}
use Rattle.uu_adopt.specs.AllRows.{AreEarlierRowsOf, FindsAllEarlier, TellsState}
use Rattle.uu_adopt.specs.declared.all_earlier.AllEarlier.{AllEarlier}
use Rattle.uu_adopt.proofs.Verdict.{there}
use Rattle.uu_adopt.proofs.Rows.{keyed, bare_apart, lines_apart, ranges_apart, heads_apart, pieces_apart, entries_apart, waits_apart, links_apart, taken_apart, bare_in_order, lines_in_order, ranges_in_order, heads_in_order, pieces_in_order, entries_in_order, waits_in_order, links_in_order, taken_in_order}

-- ---- what a version before the written one holds

pub rows_held : (v : Version) → IsEarlierVersion v → (trees : Trees) (s : State) → HoldsRowsAs v trees s → HoldsEarlier v trees (earlier_tables_of s)
rows_held First old trees s holds = holds
rows_held Second old trees s holds = holds
rows_held Third old trees s holds = holds
rows_held Fourth old trees s holds = absurd old

held_rows : (v : Version) → IsEarlierVersion v → (trees : Trees) (s : State) → HoldsEarlier v trees (earlier_tables_of s) → HoldsRowsAs v trees s
held_rows First old trees s holds = holds
held_rows Second old trees s holds = holds
held_rows Third old trees s holds = holds
held_rows Fourth old trees s holds = absurd old

jobs_are : (v : Version) → IsEarlierVersion v → jobs_at v ≡ old_jobs.tree
jobs_are First old = refl
jobs_are Second old = refl
jobs_are Third old = refl
jobs_are Fourth old = absurd old

entries_are : (v : Version) → IsEarlierVersion v → entries_at v ≡ old_entries.tree
entries_are First old = refl
entries_are Second old = refl
entries_are Third old = refl
entries_are Fourth old = absurd old

module _ (v : Version) (old : IsEarlierVersion v) (trees : Trees) where
  abbrev FindsOldJobs : Option (Vec JobHead Global) → Type 0
  FindsOldJobs found = FindsRows job_key job_cells job_places IsTypedHead head_cmp (trees old_jobs.tree) found

  abbrev FindsOldEntries : Option (Vec EntryColumns Global) → Type 0
  FindsOldEntries found = FindsRows entry_key entry_cells entry_places IsTypedEntry entry_cmp (trees old_entries.tree) found

  old_jobs_found : (found : Option (Vec JobHead Global)) → FindsJobs v trees found → FindsOldJobs found
  old_jobs_found found finds = subst (λ tree. FindsRows job_key job_cells job_places IsTypedHead head_cmp (trees tree) found) (jobs_are v old) finds

  old_entries_found : (found : Option (Vec EntryColumns Global)) → FindsEntries v trees found → FindsOldEntries found
  old_entries_found found finds = subst (λ tree. FindsRows entry_key entry_cells entry_places IsTypedEntry entry_cmp (trees tree) found) (entries_are v old) finds

  -- ---- a table whose rows aren't those of a state

  pub no_bare_systems : (found : Option (Vec BareSystem Global)) → false ≡ is_some found → FindsBareSystems trees found → IsOfNone v trees
  no_bare_systems None none finds = λ s holds. finds.only (earlier_tables_of s).systems (bare_in_order s holds.good) (rows_held v old trees s holds.tables).systems
  no_bare_systems (Some all) none finds = absurd (cc)

  pub no_lines : (found : Option (Vec LineColumns Global)) → false ≡ is_some found → FindsLines trees found → IsOfNone v trees
  no_lines None none finds = λ s holds. finds.only (earlier_tables_of s).lines (lines_in_order s holds.good) (rows_held v old trees s holds.tables).lines
  no_lines (Some all) none finds = absurd (cc)

  pub no_ranges : (found : Option (Vec RangeColumns Global)) → false ≡ is_some found → FindsRanges trees found → IsOfNone v trees
  no_ranges None none finds = λ s holds. finds.only (earlier_tables_of s).ranges (ranges_in_order s holds.good) (rows_held v old trees s holds.tables).ranges
  no_ranges (Some all) none finds = absurd (cc)

  pub no_earlier_jobs : (found : Option (Vec JobHead Global)) → false ≡ is_some found → FindsJobs v trees found → IsOfNone v trees
  no_earlier_jobs None none finds = λ s holds. (old_jobs_found None finds).only (earlier_tables_of s).jobs (heads_in_order s holds.good) (rows_held v old trees s holds.tables).jobs
  no_earlier_jobs (Some all) none finds = absurd (cc)

  pub no_pieces : (found : Option (Vec Piece Global)) → false ≡ is_some found → FindsPieces trees found → IsOfNone v trees
  no_pieces None none finds = λ s holds. finds.only (earlier_tables_of s).pieces (pieces_in_order s holds.good) (rows_held v old trees s holds.tables).pieces
  no_pieces (Some all) none finds = absurd (cc)

  pub no_earlier_entries : (found : Option (Vec EntryColumns Global)) → false ≡ is_some found → FindsEntries v trees found → IsOfNone v trees
  no_earlier_entries None none finds = λ s holds. (old_entries_found None finds).only (earlier_tables_of s).entries (entries_in_order s holds.good) (rows_held v old trees s holds.tables).entries
  no_earlier_entries (Some all) none finds = absurd (cc)

-- version 1 has no rows of success waits, in any database
waits_of_none : (v : Version) → IsEarlierVersion v → (trees : Trees) → FindsWaits v trees None → IsOfNone v trees
waits_of_none First old trees finds s holds = absurd finds
waits_of_none Second old trees finds s holds = finds.only (earlier_tables_of s).success_waits (waits_in_order s holds.good) holds.tables.success_waits
waits_of_none Third old trees finds s holds = finds.only (earlier_tables_of s).success_waits (waits_in_order s holds.good) holds.tables.success_waits
waits_of_none Fourth old trees finds s holds = absurd old

-- versions 1 and 2 have no links
links_of_none : (v : Version) → IsEarlierVersion v → (trees : Trees) → FindsLinks v trees None → IsOfNone v trees
links_of_none First old trees finds s holds = absurd finds
links_of_none Second old trees finds s holds = absurd finds
links_of_none Third old trees finds s holds = finds.only (earlier_tables_of s).links (links_in_order s holds.good) holds.tables.links
links_of_none Fourth old trees finds s holds = absurd old

taken_of_none : (v : Version) → IsEarlierVersion v → (trees : Trees) → FindsTaken v trees None → IsOfNone v trees
taken_of_none First old trees finds s holds = absurd finds
taken_of_none Second old trees finds s holds = absurd finds
taken_of_none Third old trees finds s holds = finds.only (earlier_tables_of s).taken (taken_in_order s holds.good) holds.tables.taken
taken_of_none Fourth old trees finds s holds = absurd old

module _ (v : Version) (old : IsEarlierVersion v) (trees : Trees) where
  pub no_waits : (found : Option (Vec WaitColumns Global)) → false ≡ is_some found → FindsWaits v trees found → IsOfNone v trees
  no_waits None none finds = waits_of_none v old trees finds
  no_waits (Some all) none finds = absurd (cc)

  pub no_earlier_links : (found : Option (Vec LinkColumns Global)) → false ≡ is_some found → FindsLinks v trees found → IsOfNone v trees
  no_earlier_links None none finds = links_of_none v old trees finds
  no_earlier_links (Some all) none finds = absurd (cc)

  pub no_earlier_taken : (found : Option (Vec TakenColumns Global)) → false ≡ is_some found → FindsTaken v trees found → IsOfNone v trees
  no_earlier_taken None none finds = taken_of_none v old trees finds
  no_earlier_taken (Some all) none finds = absurd (cc)

-- ---- what was read of a table that not every version has

module _ (trees : Trees) (s : State) where
  waits_only : (v : Version) → IsEarlierVersion v → (all : Vec WaitColumns Global) → FindsWaits v trees (Some all) → HoldsStateAs v trees s → all.items ≡ (earlier_tables_of s).success_waits
  waits_only First old all found holds = found ∙ sym holds.tables.success_waits
  waits_only Second old all found holds = found.only (earlier_tables_of s).success_waits (waits_in_order s holds.good) holds.tables.success_waits
  waits_only Third old all found holds = found.only (earlier_tables_of s).success_waits (waits_in_order s holds.good) holds.tables.success_waits
  waits_only Fourth old all found holds = absurd old

  waits_held : (v : Version) → IsEarlierVersion v → (all : Vec WaitColumns Global) → FindsWaits v trees (Some all) → IsWellFormed s → (earlier_tables_of s).success_waits ≡ all.items → AreWaitsOf v (earlier_tables_of s).success_waits trees
  waits_held First old all found good same = same ∙ found
  waits_held Second old all found good same = keyed wait_key wait_cells wait_places wait_cmp _ _ waits_apart (waits_in_order s good).rise (subst (λ rows. AreRows wait_cells wait_places rows (trees success_waits.tree)) (sym same) found.all.0)
  waits_held Third old all found good same = keyed wait_key wait_cells wait_places wait_cmp _ _ waits_apart (waits_in_order s good).rise (subst (λ rows. AreRows wait_cells wait_places rows (trees success_waits.tree)) (sym same) found.all.0)
  waits_held Fourth old all found good same = absurd old

  links_only : (v : Version) → IsEarlierVersion v → (all : Vec LinkColumns Global) → FindsLinks v trees (Some all) → HoldsStateAs v trees s → all.items ≡ (earlier_tables_of s).links
  links_only First old all found holds = found ∙ sym holds.tables.links
  links_only Second old all found holds = found ∙ sym holds.tables.links
  links_only Third old all found holds = found.only (earlier_tables_of s).links (links_in_order s holds.good) holds.tables.links
  links_only Fourth old all found holds = absurd old

  links_held : (v : Version) → IsEarlierVersion v → (all : Vec LinkColumns Global) → FindsLinks v trees (Some all) → IsWellFormed s → (earlier_tables_of s).links ≡ all.items → AreLinksOf v (earlier_tables_of s).links trees
  links_held First old all found good same = same ∙ found
  links_held Second old all found good same = same ∙ found
  links_held Third old all found good same = keyed link_key link_cells link_places link_cmp _ _ links_apart (links_in_order s good).rise (subst (λ rows. AreRows link_cells link_places rows (trees old_links.tree)) (sym same) found.all.0)
  links_held Fourth old all found good same = absurd old

  taken_only : (v : Version) → IsEarlierVersion v → (all : Vec TakenColumns Global) → FindsTaken v trees (Some all) → HoldsStateAs v trees s → all.items ≡ (earlier_tables_of s).taken
  taken_only First old all found holds = found ∙ sym holds.tables.taken
  taken_only Second old all found holds = found ∙ sym holds.tables.taken
  taken_only Third old all found holds = found.only (earlier_tables_of s).taken (taken_in_order s holds.good) holds.tables.taken
  taken_only Fourth old all found holds = absurd old

  taken_held : (v : Version) → IsEarlierVersion v → (all : Vec TakenColumns Global) → FindsTaken v trees (Some all) → IsWellFormed s → (earlier_tables_of s).taken ≡ all.items → AreTakenOf v (earlier_tables_of s).taken trees
  taken_held First old all found good same = same ∙ found
  taken_held Second old all found good same = same ∙ found
  taken_held Third old all found good same = keyed taken_key taken_cells taken_places taken_cmp _ _ taken_apart (taken_in_order s good).rise (subst (λ rows. AreRows taken_cells taken_places rows (trees old_taken.tree)) (sym same) found.all.0)
  taken_held Fourth old all found good same = absurd old

-- ---- the rows that are given to the verdict

module _ (v : Version) (old : IsEarlierVersion v) (trees : Trees) (all : AllEarlier) (found : FindsAllEarlier v trees all) (rows : EarlierRows) (are : AreEarlierRowsOf all rows) where
  -- of each table what was read
  the_next : (next : ℕ) × (rows.next ≡ next) × FindsNext v trees (Some next)
  the_next = there all.next (λ next. rows.next ≡ next) (FindsNext v trees) are.next found.next

  the_systems : (read : Vec BareSystem Global) × (rows.systems.now ≡ read.items) × FindsBareSystems trees (Some read)
  the_systems = there all.systems (λ read. rows.systems.now ≡ read.items) (FindsBareSystems trees) are.systems found.systems

  the_lines : (read : Vec LineColumns Global) × (rows.lines.now ≡ read.items) × FindsLines trees (Some read)
  the_lines = there all.lines (λ read. rows.lines.now ≡ read.items) (FindsLines trees) are.lines found.lines

  the_ranges : (read : Vec RangeColumns Global) × (rows.ranges.now ≡ read.items) × FindsRanges trees (Some read)
  the_ranges = there all.ranges (λ read. rows.ranges.now ≡ read.items) (FindsRanges trees) are.ranges found.ranges

  the_jobs : (read : Vec JobHead Global) × (rows.jobs.now ≡ read.items) × FindsJobs v trees (Some read)
  the_jobs = there all.jobs (λ read. rows.jobs.now ≡ read.items) (FindsJobs v trees) are.jobs found.jobs

  the_pieces : (read : Vec Piece Global) × (rows.pieces.now ≡ read.items) × FindsPieces trees (Some read)
  the_pieces = there all.pieces (λ read. rows.pieces.now ≡ read.items) (FindsPieces trees) are.pieces found.pieces

  the_entries : (read : Vec EntryColumns Global) × (rows.entries.now ≡ read.items) × FindsEntries v trees (Some read)
  the_entries = there all.entries (λ read. rows.entries.now ≡ read.items) (FindsEntries v trees) are.entries found.entries

  the_success_waits : (read : Vec WaitColumns Global) × (rows.success_waits.now ≡ read.items) × FindsWaits v trees (Some read)
  the_success_waits = there all.success_waits (λ read. rows.success_waits.now ≡ read.items) (FindsWaits v trees) are.success_waits found.success_waits

  the_links : (read : Vec LinkColumns Global) × (rows.links.now ≡ read.items) × FindsLinks v trees (Some read)
  the_links = there all.links (λ read. rows.links.now ≡ read.items) (FindsLinks v trees) are.links found.links

  the_taken : (read : Vec TakenColumns Global) × (rows.taken.now ≡ read.items) × FindsTaken v trees (Some read)
  the_taken = there all.taken (λ read. rows.taken.now ≡ read.items) (FindsTaken v trees) are.taken found.taken

  jobs_found : FindsOldJobs v old trees (Some the_jobs.0)
  jobs_found = old_jobs_found v old trees (Some the_jobs.0) the_jobs.2

  entries_found : FindsOldEntries v old trees (Some the_entries.0)
  entries_found = old_entries_found v old trees (Some the_entries.0) the_entries.2

  -- the tables as they were read
  abbrev read : EarlierTables
  read = record {
    next = the_next.0;
    systems = the_systems.0.items;
    lines = the_lines.0.items;
    ranges = the_ranges.0.items;
    jobs = the_jobs.0.items;
    pieces = the_pieces.0.items;
    entries = the_entries.0.items;
    success_waits = the_success_waits.0.items;
    links = the_links.0.items;
    taken = the_taken.0.items;
  }

  rows_of_read : AreRowsOfTables rows read
  rows_of_read = record {
    next = the_next.1;
    systems = the_systems.1;
    lines = the_lines.1;
    ranges = the_ranges.1;
    jobs = the_jobs.1;
    pieces = the_pieces.1;
    entries = the_entries.1;
    success_waits = the_success_waits.1;
    links = the_links.1;
    taken = the_taken.1;
  }

  held : (s : State) → IsWellFormed s → earlier_tables_of s ≡ read → HoldsEarlier v trees (earlier_tables_of s)
  held s good same = record {
    spool = the_next.2 ∙ ap (λ (t : EarlierTables). spool_row_of v t.next ∷ []) (sym same);
    systems = keyed bare_key bare_cells system_places bare_system_cmp _ _ bare_apart (bare_in_order s good).rise (subst (λ (t : EarlierTables). AreRows bare_cells system_places t.systems (trees old_systems.tree)) (sym same) the_systems.2.all.0);
    lines = keyed line_key line_cells line_places line_cmp _ _ lines_apart (lines_in_order s good).rise (subst (λ (t : EarlierTables). AreRows line_cells line_places t.lines (trees lines.tree)) (sym same) the_lines.2.all.0);
    ranges = keyed range_key range_cells range_places range_cmp _ _ ranges_apart (ranges_in_order s good).rise (subst (λ (t : EarlierTables). AreRows range_cells range_places t.ranges (trees ranges.tree)) (sym same) the_ranges.2.all.0);
    jobs = keyed job_key job_cells job_places head_cmp _ _ heads_apart (heads_in_order s good).rise (subst (λ (t : EarlierTables). AreRows job_cells job_places t.jobs (trees old_jobs.tree)) (sym same) jobs_found.all.0);
    pieces = keyed piece_key piece_cells piece_places piece_cmp _ _ pieces_apart (pieces_in_order s good).rise (subst (λ (t : EarlierTables). AreRows piece_cells piece_places t.pieces (trees pieces.tree)) (sym same) the_pieces.2.all.0);
    entries = keyed entry_key entry_cells entry_places entry_cmp _ _ entries_apart (entries_in_order s good).rise (subst (λ (t : EarlierTables). AreRows entry_cells entry_places t.entries (trees old_entries.tree)) (sym same) entries_found.all.0);
    success_waits = waits_held trees s v old the_success_waits.0 the_success_waits.2 good (ap (λ (t : EarlierTables). t.success_waits) same);
    links = links_held trees s v old the_links.0 the_links.2 good (ap (λ (t : EarlierTables). t.links) same);
    taken = taken_held trees s v old the_taken.0 the_taken.2 good (ap (λ (t : EarlierTables). t.taken) same);
  }

  -- if a state has the database's rows, they are those that were read
  pub rows_of_state : (s : State) → HoldsStateAs v trees s → AreRowsOfTables rows (earlier_tables_of s)
  rows_of_state s holds =
      let it = rows_held v old trees s holds.tables in
      record {
        next = (let same = sym the_next.2 ∙ it.spool in let number : the_next.0 ≡ s.next = cc in the_next.1 ∙ number);
        systems = the_systems.1 ∙ the_systems.2.only (earlier_tables_of s).systems (bare_in_order s holds.good) it.systems;
        lines = the_lines.1 ∙ the_lines.2.only (earlier_tables_of s).lines (lines_in_order s holds.good) it.lines;
        ranges = the_ranges.1 ∙ the_ranges.2.only (earlier_tables_of s).ranges (ranges_in_order s holds.good) it.ranges;
        jobs = the_jobs.1 ∙ jobs_found.only (earlier_tables_of s).jobs (heads_in_order s holds.good) it.jobs;
        pieces = the_pieces.1 ∙ the_pieces.2.only (earlier_tables_of s).pieces (pieces_in_order s holds.good) it.pieces;
        entries = the_entries.1 ∙ entries_found.only (earlier_tables_of s).entries (entries_in_order s holds.good) it.entries;
        success_waits = the_success_waits.1 ∙ waits_only trees s v old the_success_waits.0 the_success_waits.2 holds;
        links = the_links.1 ∙ links_only trees s v old the_links.0 the_links.2 holds;
        taken = the_taken.1 ∙ taken_only trees s v old the_taken.0 the_taken.2 holds;
      }

  of_a_state : AreEarlierTables read → (s : State) × HoldsStateAs v trees s
  of_a_state it = (it.state, record { tables = held_rows v old trees it.state (held it.state it.good it.same); good = it.good })

  pub tells : (good : Bool) → ((t : EarlierTables) → AreRowsOfTables rows t → (good ≡ true) ↔ AreEarlierTables t) → TellsState v trees good
  tells good verdict = (
    λ yes. of_a_state ((verdict read rows_of_read).0 yes),
    λ no s holds. true≢false (sym ((verdict (earlier_tables_of s) (rows_of_state s holds)).1 (record { state = s; good = holds.good; same = refl })) ∙ no),
  )
