-- What each text that makes a table means under the schema so far, and that the tables have no row.
use Rattle.std.proofs.Common.{◌≡◌, ◌∷◌, ◌++◌, [], refl, List, ℕ, Ok, ◌∙◌}
use Rattle.std.specs.List.{AllByRecursion}
use Rattle.sqlite.specs.Table.{Table}
use Rattle.sqlite.specs.Tree.{Trees}
use Rattle.sqlite.specs.Command.TheVariants.{CreateTable}
use Rattle.sqlite.specs.Compile.{table_defined_by}
use Rattle.sqlite.specs.Change.{created}
use Rattle.sqlite_tied.specs.Compute.{everything}
use Rattle.sqlite.specs.Listing.{understood}
use Rattle.sqlite.specs.State.{State, Executes}
use Rattle.sqlite.proofs.Callers.{IsPlain, command_of, statement_of}
use Rattle.uu_schema.specs.Steps.{Stands}
use Rattle.uu_schema.specs.Schema.{no_schema, schema_with_spool, schema_with_systems, schema_with_jobs, schema_with_bodies, schema_with_entries, schema_with_links, spool_schema, spool, systems, jobs, bodies, entries, links, taken}
use Rattle.uu_schema.specs.Made.{StaysEmpty}
use Rattle.uu_schema.proofs.Texts.{create_spool, create_systems, create_jobs, create_bodies, create_entries, create_links, create_taken}
use Rattle.uu_schema.proofs.Made.{made}

-- one more table without rows
one_more : (ts : List Table) (t : Table) (old new : Trees) → AllByRecursion (λ (x : Table). new x.tree ≡ old x.tree) ts → AllByRecursion (λ (x : Table). old x.tree ≡ []) ts → new t.tree ≡ []
    → AllByRecursion (λ (x : Table). new x.tree ≡ []) (ts ++ t ∷ [])
one_more [] t old new kept none empty = (empty, tt)
one_more (x ∷ ts) t old new kept none empty = (kept.0 ∙ none.0, one_more ts t old new kept.1 none.1 empty)

spool_is : (command_of (understood no_schema create_spool) ≡ CreateTable) × (statement_of create_spool (understood no_schema create_spool) ≡ create_spool) × (table_defined_by create_spool ≡ Ok spool)
unfolding understood everything
spool_is = (refl, refl, refl)

spool_plain : IsPlain (understood no_schema create_spool)
unfolding understood everything
spool_plain = (refl, refl)

created_spool : created no_schema spool ≡ schema_with_spool
created_spool = refl

pub spool_made : (old new : State) (count : ℕ) → Stands no_schema old.now → Executes create_spool [] old new (Ok count) → Stands schema_with_spool new.now × StaysEmpty no_schema schema_with_spool old.now.trees new.now.trees
spool_made old new count stands h =
    let it = made old new no_schema schema_with_spool create_spool spool count stands spool_is spool_plain created_spool refl h in
    (it.now_stands, λ none. one_more no_schema.tables spool old.now.trees new.now.trees it.creates.others none it.creates.empty)

systems_is : (command_of (understood schema_with_spool create_systems) ≡ CreateTable) × (statement_of create_systems (understood schema_with_spool create_systems) ≡ create_systems) × (table_defined_by create_systems ≡ Ok (record systems { tree = 0 }))
unfolding understood everything
systems_is = (refl, refl, refl)

systems_plain : IsPlain (understood schema_with_spool create_systems)
unfolding understood everything
systems_plain = (refl, refl)

created_systems : created schema_with_spool (record systems { tree = 0 }) ≡ schema_with_systems
created_systems = refl

pub systems_made : (old new : State) (count : ℕ) → Stands schema_with_spool old.now → Executes create_systems [] old new (Ok count) → Stands schema_with_systems new.now × StaysEmpty schema_with_spool schema_with_systems old.now.trees new.now.trees
systems_made old new count stands h =
    let it = made old new schema_with_spool schema_with_systems create_systems (record systems { tree = 0 }) count stands systems_is systems_plain created_systems refl h in
    (it.now_stands, λ none. one_more schema_with_spool.tables systems old.now.trees new.now.trees it.creates.others none it.creates.empty)

jobs_is : (command_of (understood schema_with_systems create_jobs) ≡ CreateTable) × (statement_of create_jobs (understood schema_with_systems create_jobs) ≡ create_jobs) × (table_defined_by create_jobs ≡ Ok (record jobs { tree = 0 }))
unfolding understood everything
jobs_is = (refl, refl, refl)

jobs_plain : IsPlain (understood schema_with_systems create_jobs)
unfolding understood everything
jobs_plain = (refl, refl)

created_jobs : created schema_with_systems (record jobs { tree = 0 }) ≡ schema_with_jobs
created_jobs = refl

pub jobs_made : (old new : State) (count : ℕ) → Stands schema_with_systems old.now → Executes create_jobs [] old new (Ok count) → Stands schema_with_jobs new.now × StaysEmpty schema_with_systems schema_with_jobs old.now.trees new.now.trees
jobs_made old new count stands h =
    let it = made old new schema_with_systems schema_with_jobs create_jobs (record jobs { tree = 0 }) count stands jobs_is jobs_plain created_jobs refl h in
    (it.now_stands, λ none. one_more schema_with_systems.tables jobs old.now.trees new.now.trees it.creates.others none it.creates.empty)

bodies_is : (command_of (understood schema_with_jobs create_bodies) ≡ CreateTable) × (statement_of create_bodies (understood schema_with_jobs create_bodies) ≡ create_bodies) × (table_defined_by create_bodies ≡ Ok (record bodies { tree = 0 }))
unfolding understood everything
bodies_is = (refl, refl, refl)

bodies_plain : IsPlain (understood schema_with_jobs create_bodies)
unfolding understood everything
bodies_plain = (refl, refl)

created_bodies : created schema_with_jobs (record bodies { tree = 0 }) ≡ schema_with_bodies
created_bodies = refl

pub bodies_made : (old new : State) (count : ℕ) → Stands schema_with_jobs old.now → Executes create_bodies [] old new (Ok count) → Stands schema_with_bodies new.now × StaysEmpty schema_with_jobs schema_with_bodies old.now.trees new.now.trees
bodies_made old new count stands h =
    let it = made old new schema_with_jobs schema_with_bodies create_bodies (record bodies { tree = 0 }) count stands bodies_is bodies_plain created_bodies refl h in
    (it.now_stands, λ none. one_more schema_with_jobs.tables bodies old.now.trees new.now.trees it.creates.others none it.creates.empty)

entries_is : (command_of (understood schema_with_bodies create_entries) ≡ CreateTable) × (statement_of create_entries (understood schema_with_bodies create_entries) ≡ create_entries) × (table_defined_by create_entries ≡ Ok (record entries { tree = 0 }))
unfolding understood everything
entries_is = (refl, refl, refl)

entries_plain : IsPlain (understood schema_with_bodies create_entries)
unfolding understood everything
entries_plain = (refl, refl)

created_entries : created schema_with_bodies (record entries { tree = 0 }) ≡ schema_with_entries
created_entries = refl

pub entries_made : (old new : State) (count : ℕ) → Stands schema_with_bodies old.now → Executes create_entries [] old new (Ok count) → Stands schema_with_entries new.now × StaysEmpty schema_with_bodies schema_with_entries old.now.trees new.now.trees
entries_made old new count stands h =
    let it = made old new schema_with_bodies schema_with_entries create_entries (record entries { tree = 0 }) count stands entries_is entries_plain created_entries refl h in
    (it.now_stands, λ none. one_more schema_with_bodies.tables entries old.now.trees new.now.trees it.creates.others none it.creates.empty)

links_is : (command_of (understood schema_with_entries create_links) ≡ CreateTable) × (statement_of create_links (understood schema_with_entries create_links) ≡ create_links) × (table_defined_by create_links ≡ Ok (record links { tree = 0 }))
unfolding understood everything
links_is = (refl, refl, refl)

links_plain : IsPlain (understood schema_with_entries create_links)
unfolding understood everything
links_plain = (refl, refl)

created_links : created schema_with_entries (record links { tree = 0 }) ≡ schema_with_links
created_links = refl

pub links_made : (old new : State) (count : ℕ) → Stands schema_with_entries old.now → Executes create_links [] old new (Ok count) → Stands schema_with_links new.now × StaysEmpty schema_with_entries schema_with_links old.now.trees new.now.trees
links_made old new count stands h =
    let it = made old new schema_with_entries schema_with_links create_links (record links { tree = 0 }) count stands links_is links_plain created_links refl h in
    (it.now_stands, λ none. one_more schema_with_entries.tables links old.now.trees new.now.trees it.creates.others none it.creates.empty)

taken_is : (command_of (understood schema_with_links create_taken) ≡ CreateTable) × (statement_of create_taken (understood schema_with_links create_taken) ≡ create_taken) × (table_defined_by create_taken ≡ Ok (record taken { tree = 0 }))
unfolding understood everything
taken_is = (refl, refl, refl)

taken_plain : IsPlain (understood schema_with_links create_taken)
unfolding understood everything
taken_plain = (refl, refl)

created_taken : created schema_with_links (record taken { tree = 0 }) ≡ spool_schema
created_taken = refl

pub taken_made : (old new : State) (count : ℕ) → Stands schema_with_links old.now → Executes create_taken [] old new (Ok count) → Stands spool_schema new.now × StaysEmpty schema_with_links spool_schema old.now.trees new.now.trees
taken_made old new count stands h =
    let it = made old new schema_with_links spool_schema create_taken (record taken { tree = 0 }) count stands taken_is taken_plain created_taken refl h in
    (it.now_stands, λ none. one_more schema_with_links.tables taken old.now.trees new.now.trees it.creates.others none it.creates.empty)
