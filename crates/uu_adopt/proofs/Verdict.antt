-- From the rows that are read to whether they are those of a state, in the tables of this version.
use Rattle.std.proofs.Common.{◌≡◌, List, Bool, true, false, None, Some, Vec, refl, sym, ap, subst, ◌∙◌, true≢false}
use Rattle.std.specs.Prelude.{◌↔◌, ℕ, Option, is_some, IsSomeAnd, ◌∷◌, []}
use Rattle.std.specs.declared.alloc.Global.{Global}
use Rattle.sqlite.specs.Tree.{Trees}
use Rattle.uu_core.specs.State.{State, IsWellFormed}
use Rattle.uu_core.specs.declared.job.JobHead.{JobHead}
use Rattle.uu_tables.specs.declared.rows.SystemColumns.{SystemColumns}
use Rattle.uu_tables.specs.declared.rows.BodySize.{BodySize}
use Rattle.uu_tables.specs.declared.rows.EntryColumns.{EntryColumns}
use Rattle.uu_tables.specs.declared.rows.LinkColumns.{LinkColumns}
use Rattle.uu_tables.specs.declared.rows.TakenColumns.{TakenColumns}
use Rattle.uu_tables.specs.Tables.{Tables, tables_of}
use Rattle.uu_tables.specs.Order.{system_cmp, head_cmp, body_cmp, entry_cmp, link_cmp, taken_cmp}
use Rattle.uu_check.specs.declared.spool.Rows.{Rows}
use Rattle.uu_check.specs.OfState.{AreTables, AreRowsOf as AreRowsOfTables}
use Rattle.uu_schema.specs.Schema.{spool, systems, jobs, bodies, entries, links, taken}
use Rattle.uu_schema.specs.declared.version.Version.{Version}
use Rattle.uu_schema.specs.declared.version.Version.TheVariants.{First, Second, Third, Fourth}
use Rattle.uu_schema.specs.Made.{spool_row_of}
use Rattle.uu_schema.specs.Held.{Holds, system_key, job_key, body_key, entry_key, link_key, taken_key, system_places, job_places, body_places, entry_places, link_places, taken_places}
use Rattle.uu_schema.specs.Cells.{system_cells, job_cells, body_cells, entry_cells, link_cells, taken_cells}
use Rattle.uu_schema.specs.Encoded.{HoldsStateAs}
use Rattle.uu_adopt.specs.Reading.{AreRows, FindsSystems, FindsJobs, FindsBodies, FindsEntries, FindsNext, FindsLinks, FindsTaken}
use Rattle.uu_adopt.specs.Adoption.{IsOfNone}
use Rattle.uu_adopt.specs.AllRows.{AreRowsOf, FindsAllRows, TellsState}
use Rattle.uu_adopt.specs.declared.all_rows.AllRows.{AllRows}
use Rattle.uu_adopt.proofs.Rows.{keyed, systems_apart, heads_apart, bodies_apart, entries_apart, links_apart, taken_apart, next_small, systems_in_order, heads_in_order, sizes_good, bodies_in_order, entries_in_order, links_in_order, taken_in_order}

-- ---- a table whose rows aren't those of a state

-- the row of `spool` that a state has
spool_held : (v : Version) (trees : Trees) (s : State) → HoldsStateAs v trees s → trees spool.tree ≡ spool_row_of v s.next ∷ []
spool_held First trees s holds = holds.tables.spool
spool_held Second trees s holds = holds.tables.spool
spool_held Third trees s holds = holds.tables.spool
spool_held Fourth trees s holds = holds.tables.spool

module _ (v : Version) (trees : Trees) where
  pub no_next : FindsNext v trees None → IsOfNone v trees
  no_next finds s holds = finds s.next (next_small s holds.good) (spool_held v trees s holds)

module _ (trees : Trees) where
  pub no_systems : (found : Option (Vec SystemColumns Global)) → false ≡ is_some found → FindsSystems trees found → IsOfNone Fourth trees
  no_systems None none finds = λ s holds. finds.only (tables_of s).systems (systems_in_order s holds.good) holds.tables.systems
  no_systems (Some all) none finds = absurd (cc)

  pub no_jobs : FindsJobs Fourth trees None → IsOfNone Fourth trees
  no_jobs finds = λ s holds. finds.only (tables_of s).jobs (heads_in_order s holds.good) holds.tables.jobs

  pub no_bodies : (found : Option (Vec BodySize Global)) → false ≡ is_some found → FindsBodies trees found → IsOfNone Fourth trees
  no_bodies None none finds = λ s holds. finds.only (tables_of s).bodies (sizes_good s holds.good) (bodies_in_order s holds.good) holds.tables.bodies
  no_bodies (Some all) none finds = absurd (cc)

  pub no_entries : (found : Option (Vec EntryColumns Global)) → false ≡ is_some found → FindsEntries Fourth trees found → IsOfNone Fourth trees
  no_entries None none finds = λ s holds. finds.only (tables_of s).entries (entries_in_order s holds.good) holds.tables.entries
  no_entries (Some all) none finds = absurd (cc)

  pub no_links : (found : Option (Vec LinkColumns Global)) → false ≡ is_some found → FindsLinks Fourth trees found → IsOfNone Fourth trees
  no_links None none finds = λ s holds. finds.only (tables_of s).links (links_in_order s holds.good) holds.tables.links
  no_links (Some all) none finds = absurd (cc)

  pub no_taken : (found : Option (Vec TakenColumns Global)) → false ≡ is_some found → FindsTaken Fourth trees found → IsOfNone Fourth trees
  no_taken None none finds = λ s holds. finds.only (tables_of s).taken (taken_in_order s holds.good) holds.tables.taken
  no_taken (Some all) none finds = absurd (cc)

-- ---- the rows that are given to the verdict

pub there : {X : Type 0} (found : Option X) (Same : X → Type 0) (Finds : Option X → Type 0) → IsSomeAnd found Same → Finds found → (x : X) × Same x × Finds (Some x)
there (Some x) Same Finds same finds = (x, same, finds)
there None Same Finds same finds = absurd same

module _ (trees : Trees) (all : AllRows) (found : FindsAllRows trees all) (heads : List JobHead) (read_jobs : Vec JobHead Global) (same_jobs : heads ≡ read_jobs.items) (jobs_found : FindsJobs Fourth trees (Some read_jobs)) (rows : Rows) (are : AreRowsOf all heads rows) where
  -- of each table what was read
  the_next : (next : ℕ) × (rows.next ≡ next) × FindsNext Fourth trees (Some next)
  the_next = there all.next (λ next. rows.next ≡ next) (FindsNext Fourth trees) are.next found.next

  the_systems : (read : Vec SystemColumns Global) × (rows.systems.now ≡ read.items) × FindsSystems trees (Some read)
  the_systems = there all.systems (λ read. rows.systems.now ≡ read.items) (FindsSystems trees) are.systems found.systems

  the_jobs : (read : Vec JobHead Global) × (rows.jobs.now ≡ read.items) × FindsJobs Fourth trees (Some read)
  the_jobs = (read_jobs, are.jobs ∙ same_jobs, jobs_found)

  the_bodies : (read : Vec BodySize Global) × (rows.bodies.now ≡ read.items) × FindsBodies trees (Some read)
  the_bodies = there all.bodies (λ read. rows.bodies.now ≡ read.items) (FindsBodies trees) are.bodies found.bodies

  the_entries : (read : Vec EntryColumns Global) × (rows.entries.now ≡ read.items) × FindsEntries Fourth trees (Some read)
  the_entries = there all.entries (λ read. rows.entries.now ≡ read.items) (FindsEntries Fourth trees) are.entries found.entries

  the_links : (read : Vec LinkColumns Global) × (rows.links.now ≡ read.items) × FindsLinks Fourth trees (Some read)
  the_links = there all.links (λ read. rows.links.now ≡ read.items) (FindsLinks Fourth trees) are.links found.links

  the_taken : (read : Vec TakenColumns Global) × (rows.taken.now ≡ read.items) × FindsTaken Fourth trees (Some read)
  the_taken = there all.taken (λ read. rows.taken.now ≡ read.items) (FindsTaken Fourth trees) are.taken found.taken

  -- the tables as they were read, with the bytes of their jobs
  abbrev read : Tables
  read = record {
    next = the_next.0;
    systems = the_systems.0.items;
    jobs = the_jobs.0.items;
    bodies = the_bodies.2.all.0;
    entries = the_entries.0.items;
    links = the_links.0.items;
    taken = the_taken.0.items;
  }

  rows_of_read : AreRowsOfTables rows read
  rows_of_read = record {
    next = the_next.1;
    systems = the_systems.1;
    jobs = the_jobs.1;
    bodies = the_bodies.1 ∙ sym the_bodies.2.all.2;
    entries = the_entries.1;
    links = the_links.1;
    taken = the_taken.1;
  }

  held : (s : State) → IsWellFormed s → tables_of s ≡ read → Holds trees (tables_of s)
  held s good same = record {
    spool = the_next.2 ∙ ap (λ (t : Tables). spool_row_of Fourth t.next ∷ []) (sym same);
    systems = keyed system_key system_cells system_places system_cmp _ _ systems_apart (systems_in_order s good).rise (subst (λ (t : Tables). AreRows system_cells system_places t.systems (trees systems.tree)) (sym same) the_systems.2.all.0);
    jobs = keyed job_key job_cells job_places head_cmp _ _ heads_apart (heads_in_order s good).rise (subst (λ (t : Tables). AreRows job_cells job_places t.jobs (trees jobs.tree)) (sym same) the_jobs.2.all.0);
    bodies = keyed body_key body_cells body_places body_cmp _ _ bodies_apart (bodies_in_order s good) (subst (λ (t : Tables). AreRows body_cells body_places t.bodies (trees bodies.tree)) (sym same) the_bodies.2.all.1);
    entries = keyed entry_key entry_cells entry_places entry_cmp _ _ entries_apart (entries_in_order s good).rise (subst (λ (t : Tables). AreRows entry_cells entry_places t.entries (trees entries.tree)) (sym same) the_entries.2.all.0);
    links = keyed link_key link_cells link_places link_cmp _ _ links_apart (links_in_order s good).rise (subst (λ (t : Tables). AreRows link_cells link_places t.links (trees links.tree)) (sym same) the_links.2.all.0);
    taken = keyed taken_key taken_cells taken_places taken_cmp _ _ taken_apart (taken_in_order s good).rise (subst (λ (t : Tables). AreRows taken_cells taken_places t.taken (trees taken.tree)) (sym same) the_taken.2.all.0);
  }

  -- if a state has the database's rows, they are those that were read
  rows_of_state : (s : State) → HoldsStateAs Fourth trees s → AreRowsOfTables rows (tables_of s)
  rows_of_state s holds = record {
    next = (let same = sym the_next.2 ∙ holds.tables.spool in let number : the_next.0 ≡ s.next = cc in the_next.1 ∙ number);
    systems = the_systems.1 ∙ the_systems.2.only (tables_of s).systems (systems_in_order s holds.good) holds.tables.systems;
    jobs = the_jobs.1 ∙ the_jobs.2.only (tables_of s).jobs (heads_in_order s holds.good) holds.tables.jobs;
    bodies = the_bodies.1 ∙ the_bodies.2.only (tables_of s).bodies (sizes_good s holds.good) (bodies_in_order s holds.good) holds.tables.bodies;
    entries = the_entries.1 ∙ the_entries.2.only (tables_of s).entries (entries_in_order s holds.good) holds.tables.entries;
    links = the_links.1 ∙ the_links.2.only (tables_of s).links (links_in_order s holds.good) holds.tables.links;
    taken = the_taken.1 ∙ the_taken.2.only (tables_of s).taken (taken_in_order s holds.good) holds.tables.taken;
  }

  of_a_state : AreTables read → (s : State) × HoldsStateAs Fourth trees s
  of_a_state it = (it.state, record { tables = held it.state it.good it.same; good = it.good })

  pub tells : (good : Bool) → ((t : Tables) → AreRowsOfTables rows t → (good ≡ true) ↔ AreTables t) → TellsState Fourth trees good
  tells good verdict = (
    λ yes. of_a_state ((verdict read rows_of_read).0 yes),
    λ no s holds. true≢false (sym ((verdict (tables_of s) (rows_of_state s holds)).1 (record { state = s; good = holds.good; same = refl })) ∙ no),
  )
