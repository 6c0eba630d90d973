-- What is held after one table changed and the others did not.
use Rattle.std.proofs.Common.{◌≡◌, ℕ, List, [], ◌∷◌, refl, sym, subst, ◌∙◌}
use Rattle.sqlite.specs.Tree.{Trees}
use Rattle.uu_core.specs.declared.job.JobHead.{JobHead}
use Rattle.uu_tables.specs.declared.rows.SystemColumns.{SystemColumns}
use Rattle.uu_tables.specs.declared.rows.Body.{Body}
use Rattle.uu_tables.specs.declared.rows.EntryColumns.{EntryColumns}
use Rattle.uu_tables.specs.declared.rows.LinkColumns.{LinkColumns}
use Rattle.uu_tables.specs.declared.rows.TakenColumns.{TakenColumns}
use Rattle.uu_tables.specs.Tables.{Tables}
use Rattle.uu_schema.specs.Schema.{spool, systems, jobs, bodies, entries, links, taken}
use Rattle.uu_schema.specs.Made.{KeepsOtherTables, spool_row}
use Rattle.uu_schema.specs.Held.{Holds, AreSystems, AreJobs, AreBodies, AreEntries, AreLinks, AreTaken}

-- only `systems` changed
pub holds_systems : (t : Tables) (old new : Trees) (new_systems : List SystemColumns) → KeepsOtherTables (systems.tree ∷ []) old new → Holds old t → AreSystems new_systems (new systems.tree) → Holds new (record t { systems = new_systems })
holds_systems t old new new_systems kept holds are_systems = record {
  spool = kept.0 refl ∙ holds.spool;
  systems = are_systems;
  jobs = subst (AreJobs t.jobs) (sym (kept.1.1.0 refl)) holds.jobs;
  bodies = subst (AreBodies t.bodies) (sym (kept.1.1.1.0 refl)) holds.bodies;
  entries = subst (AreEntries t.entries) (sym (kept.1.1.1.1.0 refl)) holds.entries;
  links = subst (AreLinks t.links) (sym (kept.1.1.1.1.1.0 refl)) holds.links;
  taken = subst (AreTaken t.taken) (sym (kept.1.1.1.1.1.1.0 refl)) holds.taken;
}

-- only `jobs` changed
pub holds_jobs : (t : Tables) (old new : Trees) (new_jobs : List JobHead) → KeepsOtherTables (jobs.tree ∷ []) old new → Holds old t → AreJobs new_jobs (new jobs.tree) → Holds new (record t { jobs = new_jobs })
holds_jobs t old new new_jobs kept holds are_jobs = record {
  spool = kept.0 refl ∙ holds.spool;
  systems = subst (AreSystems t.systems) (sym (kept.1.0 refl)) holds.systems;
  jobs = are_jobs;
  bodies = subst (AreBodies t.bodies) (sym (kept.1.1.1.0 refl)) holds.bodies;
  entries = subst (AreEntries t.entries) (sym (kept.1.1.1.1.0 refl)) holds.entries;
  links = subst (AreLinks t.links) (sym (kept.1.1.1.1.1.0 refl)) holds.links;
  taken = subst (AreTaken t.taken) (sym (kept.1.1.1.1.1.1.0 refl)) holds.taken;
}

-- only `bodies` changed
pub holds_bodies : (t : Tables) (old new : Trees) (new_bodies : List Body) → KeepsOtherTables (bodies.tree ∷ []) old new → Holds old t → AreBodies new_bodies (new bodies.tree) → Holds new (record t { bodies = new_bodies })
holds_bodies t old new new_bodies kept holds are_bodies = record {
  spool = kept.0 refl ∙ holds.spool;
  systems = subst (AreSystems t.systems) (sym (kept.1.0 refl)) holds.systems;
  jobs = subst (AreJobs t.jobs) (sym (kept.1.1.0 refl)) holds.jobs;
  bodies = are_bodies;
  entries = subst (AreEntries t.entries) (sym (kept.1.1.1.1.0 refl)) holds.entries;
  links = subst (AreLinks t.links) (sym (kept.1.1.1.1.1.0 refl)) holds.links;
  taken = subst (AreTaken t.taken) (sym (kept.1.1.1.1.1.1.0 refl)) holds.taken;
}

-- only `entries` changed
pub holds_entries : (t : Tables) (old new : Trees) (new_entries : List EntryColumns) → KeepsOtherTables (entries.tree ∷ []) old new → Holds old t → AreEntries new_entries (new entries.tree) → Holds new (record t { entries = new_entries })
holds_entries t old new new_entries kept holds are_entries = record {
  spool = kept.0 refl ∙ holds.spool;
  systems = subst (AreSystems t.systems) (sym (kept.1.0 refl)) holds.systems;
  jobs = subst (AreJobs t.jobs) (sym (kept.1.1.0 refl)) holds.jobs;
  bodies = subst (AreBodies t.bodies) (sym (kept.1.1.1.0 refl)) holds.bodies;
  entries = are_entries;
  links = subst (AreLinks t.links) (sym (kept.1.1.1.1.1.0 refl)) holds.links;
  taken = subst (AreTaken t.taken) (sym (kept.1.1.1.1.1.1.0 refl)) holds.taken;
}

-- only `links` changed
pub holds_links : (t : Tables) (old new : Trees) (new_links : List LinkColumns) → KeepsOtherTables (links.tree ∷ []) old new → Holds old t → AreLinks new_links (new links.tree) → Holds new (record t { links = new_links })
holds_links t old new new_links kept holds are_links = record {
  spool = kept.0 refl ∙ holds.spool;
  systems = subst (AreSystems t.systems) (sym (kept.1.0 refl)) holds.systems;
  jobs = subst (AreJobs t.jobs) (sym (kept.1.1.0 refl)) holds.jobs;
  bodies = subst (AreBodies t.bodies) (sym (kept.1.1.1.0 refl)) holds.bodies;
  entries = subst (AreEntries t.entries) (sym (kept.1.1.1.1.0 refl)) holds.entries;
  links = are_links;
  taken = subst (AreTaken t.taken) (sym (kept.1.1.1.1.1.1.0 refl)) holds.taken;
}

-- only `taken` changed
pub holds_taken : (t : Tables) (old new : Trees) (new_taken : List TakenColumns) → KeepsOtherTables (taken.tree ∷ []) old new → Holds old t → AreTaken new_taken (new taken.tree) → Holds new (record t { taken = new_taken })
holds_taken t old new new_taken kept holds are_taken = record {
  spool = kept.0 refl ∙ holds.spool;
  systems = subst (AreSystems t.systems) (sym (kept.1.0 refl)) holds.systems;
  jobs = subst (AreJobs t.jobs) (sym (kept.1.1.0 refl)) holds.jobs;
  bodies = subst (AreBodies t.bodies) (sym (kept.1.1.1.0 refl)) holds.bodies;
  entries = subst (AreEntries t.entries) (sym (kept.1.1.1.1.0 refl)) holds.entries;
  links = subst (AreLinks t.links) (sym (kept.1.1.1.1.1.0 refl)) holds.links;
  taken = are_taken;
}

-- only the next number changed
pub holds_next : (t : Tables) (old new : Trees) (next : ℕ) → KeepsOtherTables (spool.tree ∷ []) old new → Holds old t → new spool.tree ≡ spool_row next ∷ [] → Holds new (record t { next = next })
holds_next t old new next kept holds is = record {
  spool = is;
  systems = subst (AreSystems t.systems) (sym (kept.1.0 refl)) holds.systems;
  jobs = subst (AreJobs t.jobs) (sym (kept.1.1.0 refl)) holds.jobs;
  bodies = subst (AreBodies t.bodies) (sym (kept.1.1.1.0 refl)) holds.bodies;
  entries = subst (AreEntries t.entries) (sym (kept.1.1.1.1.0 refl)) holds.entries;
  links = subst (AreLinks t.links) (sym (kept.1.1.1.1.1.0 refl)) holds.links;
  taken = subst (AreTaken t.taken) (sym (kept.1.1.1.1.1.1.0 refl)) holds.taken;
}
