-- What each INSERT makes of the tables.
use Rattle.std.proofs.Common.{◌≡◌, ℕ, pos, [], ◌∷◌, Ok, refl, sym, ap, subst, ◌∙◌, false}
use Rattle.sqlite.specs.declared.types.Value.TheVariants.{Null, Int, Text, Blob}
use Rattle.sqlite.specs.Order.{Row, column}
use Rattle.sqlite.specs.Edit.{next_rowid}
use Rattle.sqlite_value.specs.Keys.{plain}
use Rattle.sqlite_schema.specs.Rules.{clashes}
use Rattle.sqlite_rules.specs.Lists.{Has}
use Rattle.sqlite.specs.Listing.{understood}
use Rattle.sqlite.specs.State.{State, Executes}
use Rattle.sqlite.proofs.Callers.{statement_of}
use Rattle.uu_schema.specs.Steps.{Stands}
use Rattle.uu_schema.proofs.Rows.{cast_int, cast_null}
use Rattle.uu_schema.proofs.Writes.{inserted}
use Rattle.uu_times.specs.System.{System}
use Rattle.uu_core.specs.declared.job.JobHead.{JobHead}
use Rattle.uu_tables.specs.declared.rows.Body.{Body}
use Rattle.uu_tables.specs.declared.rows.EntryColumns.{EntryColumns}
use Rattle.uu_tables.specs.declared.rows.LinkColumns.{LinkColumns}
use Rattle.uu_tables.specs.declared.rows.TakenColumns.{TakenColumns}
use Rattle.uu_tables.specs.Order.{taken_cmp}
use Rattle.uu_tables.specs.Tables.{Tables, definition_text}
use Rattle.uu_tables.specs.Changes.{insert_by, insert_at, append, new_system}
use Rattle.uu_schema.specs.Schema.{spool_schema, systems, jobs, bodies, entries, links, taken}
use Rattle.uu_schema.specs.Cells.{system_cells, job_cells, body_cells, entry_cells, link_cells, taken_cells, kind_number, first_word, second_word}
use Rattle.uu_schema.specs.Held.{Holds, system_key, job_key, body_key, entry_key, link_key, taken_key, system_places, job_places, body_places, entry_places, link_places, taken_places}
use Rattle.uu_statements.proofs.Texts.{insert_system, insert_job, insert_body, insert_entry, insert_link, insert_taken}
use Rattle.uu_statements.proofs.Meanings.{insert_system_is, insert_system_plain, insert_system_terms, insert_job_is, insert_job_plain, insert_job_terms, insert_body_is, insert_body_plain, insert_body_terms, insert_entry_is, insert_entry_plain, insert_entry_terms, insert_link_is, insert_link_plain, insert_link_terms, insert_taken_is, insert_taken_plain, insert_taken_terms}
use Rattle.uu_statements.proofs.Keyed.{put_by_name, put_in_order, put_last}
use Rattle.uu_statements.proofs.Unique.{unique_systems, unique_entries, unique_links, unique_taken, agree_text, agree_text_number}
use Rattle.uu_statements.proofs.Statements.{row_added, adds, fresh_by_index, fresh_by_number}
use Rattle.uu_statements.proofs.Holding.{holds_systems, holds_jobs, holds_bodies, holds_entries, holds_links, holds_taken}

pub system_added : (old new : State) (x : System) (count : ℕ) → Stands spool_schema old.now → Executes insert_system (Text x.name ∷ Blob (definition_text x) ∷ []) old new (Ok count)
    → Stands spool_schema new.now × ((t : Tables) → Holds old.now.trees t → Holds new.now.trees (record t { systems = insert_by (λ row. row.def.name) (new_system x) t.systems }))
system_added old new x count stands h =
    let params : Row = Text x.name ∷ Blob (definition_text x) ∷ [] in
    let row : Row = Int (next_rowid (old.now.trees systems.tree)) ∷ system_cells (new_system x) in
    let is : inserted old new spool_schema stands.schema 1 systems refl (statement_of insert_system (understood spool_schema insert_system)) params count insert_system_terms 8 ≡ adds old new stands insert_system params count 1 systems refl row =
    rw (cast_null, cast_int (pos 0)) refl in
    let it = row_added old new stands insert_system params count 1 systems refl system_key system_cells system_places insert_system_terms 8 insert_system_is insert_system_plain h (new_system x) row is refl refl
    (λ fits made free numbered. fresh_by_index system_key system_cells system_places (1 ∷ []) (new_system x) row (old.now.trees systems.tree) refl numbered free
    (λ s there. subst (λ rs. clashes plain (1 ∷ []) rs s ≡ false) made (unique_systems new.now.trees fits s (subst (λ rs. Has rs s) (sym made) there)))
    (λ y s shows same. agree_text row s x.name refl (ap (λ cs. column cs 0) shows ∙ ap Text same))) in
    (it.0, λ t held. holds_systems t old.now.trees new.now.trees _ it.2 held (it.1 t.systems _ (put_by_name (λ row. row.def.name) (new_system x) t.systems) held.systems))

pub job_added : (old new : State) (x : JobHead) (count : ℕ) → Stands spool_schema old.now → Executes insert_job (job_cells x) old new (Ok count)
    → Stands spool_schema new.now × ((t : Tables) → Holds old.now.trees t → Holds new.now.trees (record t { jobs = append x t.jobs }))
job_added old new x count stands h =
    let params : Row = job_cells x in
    let row : Row = Int (pos x.number) ∷ Null ∷ Text x.system ∷ Int (pos x.grade) ∷ Text x.user ∷ Int (pos (kind_number x.kind)) ∷ Int (pos x.queued) ∷ Text (first_word x.kind) ∷ Text (second_word x.kind) ∷ Int (pos x.size) ∷ [] in
    let is : inserted old new spool_schema stands.schema 2 jobs refl (statement_of insert_job (understood spool_schema insert_job)) params count insert_job_terms 10 ≡ adds old new stands insert_job params count 2 jobs refl row =
    rw (cast_int (pos x.number), cast_null, cast_int (pos x.grade), cast_int (pos (kind_number x.kind)), cast_int (pos x.queued), cast_int (pos x.size)) refl in
    let it = row_added old new stands insert_job params count 2 jobs refl job_key job_cells job_places insert_job_terms 10 insert_job_is insert_job_plain h x row is refl refl
    (λ fits made free numbered. fresh_by_number job_key job_cells job_places x row (old.now.trees jobs.tree) refl free (λ y s shows. ap (λ cs. column cs 0) shows)) in
    (it.0, λ t held. holds_jobs t old.now.trees new.now.trees _ it.2 held (it.1 t.jobs _ (put_last x t.jobs) held.jobs))

pub body_added : (old new : State) (x : Body) (count : ℕ) → Stands spool_schema old.now → Executes insert_body (body_cells x) old new (Ok count)
    → Stands spool_schema new.now × ((t : Tables) → Holds old.now.trees t → Holds new.now.trees (record t { bodies = append x t.bodies }))
body_added old new x count stands h =
    let params : Row = body_cells x in
    let row : Row = Int (pos x.job) ∷ Null ∷ Blob x.bytes ∷ [] in
    let is : inserted old new spool_schema stands.schema 3 bodies refl (statement_of insert_body (understood spool_schema insert_body)) params count insert_body_terms 3 ≡ adds old new stands insert_body params count 3 bodies refl row =
    rw (cast_int (pos x.job), cast_null) refl in
    let it = row_added old new stands insert_body params count 3 bodies refl body_key body_cells body_places insert_body_terms 3 insert_body_is insert_body_plain h x row is refl refl
    (λ fits made free numbered. fresh_by_number body_key body_cells body_places x row (old.now.trees bodies.tree) refl free (λ y s shows. ap (λ cs. column cs 0) shows)) in
    (it.0, λ t held. holds_bodies t old.now.trees new.now.trees _ it.2 held (it.1 t.bodies _ (put_last x t.bodies) held.bodies))

pub entry_added : (old new : State) (x : EntryColumns) (count : ℕ) → Stands spool_schema old.now → Executes insert_entry (entry_cells x) old new (Ok count)
    → Stands spool_schema new.now × ((t : Tables) → Holds old.now.trees t → Holds new.now.trees (record t { entries = insert_by (λ row. row.host) x t.entries }))
entry_added old new x count stands h =
    let params : Row = entry_cells x in
    let row : Row = Int (next_rowid (old.now.trees entries.tree)) ∷ entry_cells x in
    let is : inserted old new spool_schema stands.schema 4 entries refl (statement_of insert_entry (understood spool_schema insert_entry)) params count insert_entry_terms 3 ≡ adds old new stands insert_entry params count 4 entries refl row =
    rw (cast_null) refl in
    let it = row_added old new stands insert_entry params count 4 entries refl entry_key entry_cells entry_places insert_entry_terms 3 insert_entry_is insert_entry_plain h x row is refl refl
    (λ fits made free numbered. fresh_by_index entry_key entry_cells entry_places (1 ∷ []) x row (old.now.trees entries.tree) refl numbered free
    (λ s there. subst (λ rs. clashes plain (1 ∷ []) rs s ≡ false) made (unique_entries new.now.trees fits s (subst (λ rs. Has rs s) (sym made) there)))
    (λ y s shows same. agree_text row s x.host refl (ap (λ cs. column cs 0) shows ∙ ap Text same))) in
    (it.0, λ t held. holds_entries t old.now.trees new.now.trees _ it.2 held (it.1 t.entries _ (put_by_name (λ row. row.host) x t.entries) held.entries))

pub link_added : (old new : State) (x : LinkColumns) (count : ℕ) → Stands spool_schema old.now → Executes insert_link (link_cells x) old new (Ok count)
    → Stands spool_schema new.now × ((t : Tables) → Holds old.now.trees t → Holds new.now.trees (record t { links = insert_by (λ row. row.system) x t.links }))
link_added old new x count stands h =
    let params : Row = link_cells x in
    let row : Row = Int (next_rowid (old.now.trees links.tree)) ∷ link_cells x in
    let is : inserted old new spool_schema stands.schema 5 links refl (statement_of insert_link (understood spool_schema insert_link)) params count insert_link_terms 3 ≡ adds old new stands insert_link params count 5 links refl row =
    rw (cast_null, cast_int (pos x.below)) refl in
    let it = row_added old new stands insert_link params count 5 links refl link_key link_cells link_places insert_link_terms 3 insert_link_is insert_link_plain h x row is refl refl
    (λ fits made free numbered. fresh_by_index link_key link_cells link_places (1 ∷ []) x row (old.now.trees links.tree) refl numbered free
    (λ s there. subst (λ rs. clashes plain (1 ∷ []) rs s ≡ false) made (unique_links new.now.trees fits s (subst (λ rs. Has rs s) (sym made) there)))
    (λ y s shows same. agree_text row s x.system refl (ap (λ cs. column cs 0) shows ∙ ap Text same))) in
    (it.0, λ t held. holds_links t old.now.trees new.now.trees _ it.2 held (it.1 t.links _ (put_by_name (λ row. row.system) x t.links) held.links))

pub taken_added : (old new : State) (x : TakenColumns) (count : ℕ) → Stands spool_schema old.now → Executes insert_taken (taken_cells x) old new (Ok count)
    → Stands spool_schema new.now × ((t : Tables) → Holds old.now.trees t → Holds new.now.trees (record t { taken = insert_at taken_cmp x t.taken }))
taken_added old new x count stands h =
    let params : Row = taken_cells x in
    let row : Row = Int (next_rowid (old.now.trees taken.tree)) ∷ taken_cells x in
    let is : inserted old new spool_schema stands.schema 6 taken refl (statement_of insert_taken (understood spool_schema insert_taken)) params count insert_taken_terms 5 ≡ adds old new stands insert_taken params count 6 taken refl row =
    rw (cast_null, cast_int (pos x.taken.number), cast_int (pos x.taken.mark), cast_int (pos x.taken.job)) refl in
    let it = row_added old new stands insert_taken params count 6 taken refl taken_key taken_cells taken_places insert_taken_terms 5 insert_taken_is insert_taken_plain h x row is refl refl
    (λ fits made free numbered. fresh_by_index taken_key taken_cells taken_places (1 ∷ 2 ∷ []) x row (old.now.trees taken.tree) refl numbered free
    (λ s there. subst (λ rs. clashes plain (1 ∷ 2 ∷ []) rs s ≡ false) made (unique_taken new.now.trees fits s (subst (λ rs. Has rs s) (sym made) there)))
    (λ y s shows same. agree_text_number row s x.system (pos x.taken.number) refl (ap (λ cs. column cs 0) shows ∙ ap (λ k. Text k.0) same) refl (ap (λ cs. column cs 1) shows ∙ ap (λ k. Int (pos k.1)) same))) in
    (it.0, λ t held. holds_taken t old.now.trees new.now.trees _ it.2 held (it.1 t.taken _ (put_in_order taken_cmp x t.taken) held.taken))
