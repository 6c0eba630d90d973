-- What each UPDATE makes of the tables.
use Rattle.std.proofs.Common.{◌≡◌, ◌==◌, ℕ, ℤ, pos, List, [], ◌∷◌, Bool, true, map, filter, Ok, refl, sym, ap, subst, ◌∙◌}
use Rattle.std.specs.Prelude.{IsTrue}
use Rattle.std.specs.List.Sorted.{IsPermutation}
use Rattle.std.specs.Ordering.{is_eq}
use Rattle.std.proofs.lemmas.Map.Text.{is_eq-slice_cmp}
use Rattle.std.proofs.lemmas.Bool.{eqb-true}
use Rattle.sqlite.specs.declared.types.Value.TheVariants.{Null, Int, Text, Blob}
use Rattle.sqlite.specs.Values.{or_null}
use Rattle.sqlite.specs.Order.{Row, column, value_cmp}
use Rattle.sqlite.specs.Tree.{Trees, rowid, has_rowid}
use Rattle.sqlite.specs.View.{is_int}
use Rattle.sqlite.specs.Term.{eval_all}
use Rattle.sqlite.specs.Command.TheVariants.{Update}
use Rattle.sqlite.specs.Edit.{Edit, edit_of}
use Rattle.sqlite.specs.Rowids.TheVariants.{Given}
use Rattle.sqlite_value.specs.Keys.{joined}
use Rattle.sqlite_value.proofs.OrderLemmas.{value_cmp-Text, value_cmp-Int}
use Rattle.sqlite_schema.specs.Names.{same_name}
use Rattle.sqlite_schema.specs.declared.schema.Keys.TheVariants.{Enforced}
use Rattle.sqlite_schema.specs.declared.program.Program.{Program}
use Rattle.sqlite_rules.specs.Action.{works, Writes as WritesTrees}
use Rattle.sqlite_rules.specs.Calls.{ids_of}
use Rattle.sqlite_trees.proofs.ListLemmas.{filter_same as filter_same_on}
use Rattle.sqlite_keyed.proofs.ListLemmas.{filter_same, all_weaker}
use Rattle.sqlite.specs.Listing.{understood}
use Rattle.sqlite.specs.State.{State, Executes}
use Rattle.sqlite.proofs.Callers.{statement_of, runs_as, one_step, one_permutation}
use Rattle.uu_names.proofs.Basics.{text_from, int_eq-pos}
use Rattle.uu_schema.specs.Steps.{Stands}
use Rattle.uu_schema.proofs.Terms.{over, where_is}
use Rattle.uu_schema.proofs.Rows.{cast_int, cast_null, over_rows, at_text, at_key}
use Rattle.uu_schema.proofs.Writes.{update_ran, update_writes}
use Rattle.uu_core.specs.State.{same_text}
use Rattle.uu_core.specs.declared.job.JobHead.{JobHead}
use Rattle.uu_tables.specs.declared.rows.CallColumns.{CallColumns}
use Rattle.uu_tables.specs.declared.rows.SystemColumns.{SystemColumns}
use Rattle.uu_times.specs.System.{System}
use Rattle.uu_tables.specs.Tables.{Tables, definition_text}
use Rattle.uu_tables.specs.Changes.{alter, has_name, has_number}
use Rattle.uu_schema.specs.Schema.{spool_schema, spool, systems, jobs}
use Rattle.uu_schema.specs.Keyed.{columns}
use Rattle.uu_schema.specs.Made.{spool_row}
use Rattle.uu_schema.specs.Cells.{system_cells, job_cells, kind_number, first_word, second_word}
use Rattle.uu_schema.specs.Held.{Holds, system_key, system_places, job_key, job_places}
use Rattle.uu_schema.proofs.Keeps.{keeps_one}
use Rattle.uu_statements.proofs.Texts.{update_definition, set_calls, set_rank, set_second, set_number}
use Rattle.uu_statements.proofs.Meanings.{update_definition_is, update_definition_plain, update_definition_terms, set_calls_is, set_calls_plain, set_calls_terms, set_rank_is, set_rank_plain, set_rank_terms, set_second_is, set_second_plain, set_second_terms, set_number_is, set_number_plain, set_number_terms}
use Rattle.uu_statements.proofs.Statements.{row_altered, cast_text}
use Rattle.uu_statements.proofs.Holding.{holds_systems, holds_jobs, holds_next}

-- ---- tests on texts and numbers

-- the value is this text
abbrev pub is_text : List ℕ → ℕ → Row → Bool
is_text name at r = is_eq (value_cmp (column r at) (Text name))

pub text_test : (name text : List ℕ) → is_eq (value_cmp (Text text) (Text name)) ≡ same_text text name
text_test name text = ap is_eq (value_cmp-Text text name) ∙ is_eq-slice_cmp text name

-- the value is this number
abbrev pub is_number : ℕ → ℕ → Row → Bool
is_number n at r = is_eq (value_cmp (column r at) (Int (pos n)))

pub number_test : (n m : ℕ) → is_eq (value_cmp (Int (pos m)) (Int (pos n))) ≡ (m == n)
number_test n m = ap is_eq (value_cmp-Int (pos m) (pos n)) ∙ int_eq-pos m n

-- ---- systems

no_system_follows : (olds : List Row) (new : Row) → works spool_schema Enforced 0 1 olds (new ∷ []) ≡ []
unfolding same_name joined
no_system_follows olds new = refl

-- a system's row after its rowid
abbrev pub system_tail : List ℕ → List ℕ → CallColumns → Row
system_tail name text call = Text name ∷ Blob text ∷ Int (pos call.last) ∷ Int (pos call.failures) ∷ Int (pos call.wait) ∷ Int (pos call.outcome) ∷ or_null Text call.why ∷ []

-- the same, cast
system_casts : (db : Trees) (name text : List ℕ) (call : CallColumns) (id : ℤ) → edit_of db systems (id ∷ []) Given 1 ((Int id ∷ Int id ∷ system_tail name text call) ∷ []) ≡ record { table = systems; gone = id ∷ []; news = (Int id ∷ system_tail name text call) ∷ [] }
system_casts db name text call id = rw (cast_int id, cast_int (pos call.last), cast_int (pos call.failures), cast_int (pos call.wait), cast_int (pos call.outcome), cast_text call.why) refl

-- the columns of a system's row
at_system : (x : SystemColumns) (was : Row) → columns system_places was ≡ system_cells x
    → (column was 1 ≡ Text x.def.name) × (column was 2 ≡ Blob (definition_text x.def)) × (column was 3 ≡ Int (pos x.call.last)) × (column was 4 ≡ Int (pos x.call.failures)) × (column was 5 ≡ Int (pos x.call.wait))
    × (column was 6 ≡ Int (pos x.call.outcome)) × (column was 7 ≡ or_null Text x.call.why)
at_system x was shows = (ap (λ cs. column cs 0) shows, ap (λ cs. column cs 1) shows, ap (λ cs. column cs 2) shows, ap (λ cs. column cs 3) shows, ap (λ cs. column cs 4) shows, ap (λ cs. column cs 5) shows, ap (λ cs. column cs 6) shows)

pub definition_set : (old new : State) (def : System) (count : ℕ) → Stands spool_schema old.now → Executes update_definition (Text def.name ∷ Blob (definition_text def) ∷ []) old new (Ok count)
    → Stands spool_schema new.now × ((t : Tables) → Holds old.now.trees t → Holds new.now.trees (record t { systems = alter (has_name def.name) (λ row. record row { def = def }) t.systems }))
definition_set old new def count stands h =
    let name = def.name in
    let text = definition_text def in
    let params : Row = Text name ∷ Blob text ∷ [] in
    let f : SystemColumns → SystemColumns = λ row. record row { def = def } in
    let it = row_altered old new stands update_definition params count 1 systems refl system_key system_cells system_places (has_name name) (is_text name 1) (is_text name 0) (λ x. text_test name x.def.name) (λ r. refl)
    (λ x y h k. text_from x.def.name name h ∙ sym (text_from y.def.name name k)) f (λ x own. sym (text_from x.def.name name own)) (where_is 1 0 ∷ []) update_definition_terms update_definition_is update_definition_plain h refl
    (λ numbered. filter_same _ (is_text name 1) (at_text 1 name (Blob text ∷ [])) (old.now.trees systems.tree)) (λ x id. Int id ∷ system_tail x.def.name text x.call)
    (λ x was id key shows. let it = at_system x was shows in rw (key, it.0, it.2, it.3, it.4, it.5, it.6) refl)
    (λ x id. system_casts old.now.trees x.def.name text x.call id) (λ x id. refl) (λ x was id own key shows. ap (λ n. system_tail n text x.call) (text_from x.def.name name own)) no_system_follows in
    (it.0, λ t held. let made = it.1 t.systems held.systems in holds_systems t old.now.trees new.now.trees _ made.1 held made.0)

-- what the statement is given of a call, after the name
abbrev pub call_cells : CallColumns → Row
call_cells c = Int (pos c.last) ∷ Int (pos c.failures) ∷ Int (pos c.wait) ∷ Int (pos c.outcome) ∷ or_null Text c.why ∷ []

pub call_set : (old new : State) (name : List ℕ) (call : CallColumns) (count : ℕ) → Stands spool_schema old.now → Executes set_calls (Text name ∷ call_cells call) old new (Ok count)
    → Stands spool_schema new.now × ((t : Tables) → Holds old.now.trees t → Holds new.now.trees (record t { systems = alter (has_name name) (λ row. record row { call = call }) t.systems }))
call_set old new name call count stands h =
    let params : Row = Text name ∷ call_cells call in
    let f : SystemColumns → SystemColumns = λ row. record row { call = call } in
    let it = row_altered old new stands set_calls params count 1 systems refl system_key system_cells system_places (has_name name) (is_text name 1) (is_text name 0) (λ x. text_test name x.def.name) (λ r. refl)
    (λ x y h k. text_from x.def.name name h ∙ sym (text_from y.def.name name k)) f (λ x own. refl) (where_is 1 0 ∷ []) set_calls_terms set_calls_is set_calls_plain h refl
    (λ numbered. filter_same _ (is_text name 1) (at_text 1 name (call_cells call)) (old.now.trees systems.tree)) (λ x id. Int id ∷ system_cells (f x))
    (λ x was id key shows. let it = at_system x was shows in rw (key, it.0, it.1) refl)
    (λ x id. system_casts old.now.trees x.def.name (definition_text x.def) call id) (λ x id. refl) (λ x was id own key shows. refl) no_system_follows in
    (it.0, λ t held. let made = it.1 t.systems held.systems in holds_systems t old.now.trees new.now.trees _ made.1 held made.0)

-- ---- jobs

no_job_follows : (olds : List Row) (new : Row) → works spool_schema Enforced 0 3 olds (new ∷ []) ≡ []
unfolding same_name joined
no_job_follows olds new = refl

-- a job's row after its rowid
abbrev pub job_tail : JobHead → Row
job_tail x = Null ∷ Text x.system ∷ Int (pos x.grade) ∷ Text x.user ∷ Int (pos (kind_number x.kind)) ∷ Int (pos x.queued) ∷ Text (first_word x.kind) ∷ Text (second_word x.kind) ∷ Int (pos x.size) ∷ []

job_casts : (db : Trees) (x : JobHead) (id : ℤ) → edit_of db jobs (id ∷ []) Given 1 ((Int id ∷ Int id ∷ job_tail x) ∷ []) ≡ record { table = jobs; gone = id ∷ []; news = (Int id ∷ job_tail x) ∷ [] }
job_casts db x id = rw (cast_int id, cast_null, cast_int (pos x.grade), cast_int (pos (kind_number x.kind)), cast_int (pos x.queued), cast_int (pos x.size)) refl

at_job : (x : JobHead) (was : Row) → columns job_places was ≡ job_cells x
    → (column was 2 ≡ Text x.system) × (column was 3 ≡ Int (pos x.grade)) × (column was 4 ≡ Text x.user) × (column was 5 ≡ Int (pos (kind_number x.kind))) × (column was 6 ≡ Int (pos x.queued))
    × (column was 7 ≡ Text (first_word x.kind)) × (column was 8 ≡ Text (second_word x.kind)) × (column was 9 ≡ Int (pos x.size))
at_job x was shows = (ap (λ cs. column cs 1) shows, ap (λ cs. column cs 2) shows, ap (λ cs. column cs 3) shows, ap (λ cs. column cs 4) shows, ap (λ cs. column cs 5) shows, ap (λ cs. column cs 6) shows, ap (λ cs. column cs 7) shows, ap (λ cs. column cs 8) shows)

pub grade_set : (old new : State) (number grade count : ℕ) → Stands spool_schema old.now → Executes set_rank (Int (pos number) ∷ Int (pos grade) ∷ []) old new (Ok count)
    → Stands spool_schema new.now × ((t : Tables) → Holds old.now.trees t → Holds new.now.trees (record t { jobs = alter (has_number number) (λ row. record row { grade = grade }) t.jobs }))
grade_set old new number grade count stands h =
    let params : Row = Int (pos number) ∷ Int (pos grade) ∷ [] in
    let f : JobHead → JobHead = λ row. record row { grade = grade } in
    let it = row_altered old new stands set_rank params count 2 jobs refl job_key job_cells job_places (has_number number) (has_rowid (pos number)) (is_number number 0) (λ x. number_test number x.number) (λ r. refl)
    (λ x y h k. eqb-true x.number number h ∙ sym (eqb-true y.number number k)) f (λ x own. refl) (where_is 0 0 ∷ []) set_rank_terms set_rank_is set_rank_plain h refl
    (λ numbered. filter_same_on _ (has_rowid (pos number)) (old.now.trees jobs.tree) (all_weaker (λ r. IsTrue (is_int (rowid r))) _ (λ r int. at_key (pos number) (Int (pos grade) ∷ []) r int) (old.now.trees jobs.tree) numbered))
    (λ x id. Int id ∷ job_tail (f x)) (λ x was id key shows. let it = at_job x was shows in rw (key, it.0, it.2, it.3, it.4, it.5, it.6, it.7) refl)
    (λ x id. job_casts old.now.trees (f x) id) (λ x id. refl) (λ x was id own key shows. ap (λ v. columns job_places (v ∷ job_tail (f x))) (sym key ∙ ap (λ cs. column cs 0) shows)) no_job_follows in
    (it.0, λ t held. let made = it.1 t.jobs held.jobs in holds_jobs t old.now.trees new.now.trees _ made.1 held made.0)

pub queued_set : (old new : State) (number queued count : ℕ) → Stands spool_schema old.now → Executes set_second (Int (pos number) ∷ Int (pos queued) ∷ []) old new (Ok count)
    → Stands spool_schema new.now × ((t : Tables) → Holds old.now.trees t → Holds new.now.trees (record t { jobs = alter (has_number number) (λ row. record row { queued = queued }) t.jobs }))
queued_set old new number queued count stands h =
    let params : Row = Int (pos number) ∷ Int (pos queued) ∷ [] in
    let f : JobHead → JobHead = λ row. record row { queued = queued } in
    let it = row_altered old new stands set_second params count 2 jobs refl job_key job_cells job_places (has_number number) (has_rowid (pos number)) (is_number number 0) (λ x. number_test number x.number) (λ r. refl)
    (λ x y h k. eqb-true x.number number h ∙ sym (eqb-true y.number number k)) f (λ x own. refl) (where_is 0 0 ∷ []) set_second_terms set_second_is set_second_plain h refl
    (λ numbered. filter_same_on _ (has_rowid (pos number)) (old.now.trees jobs.tree) (all_weaker (λ r. IsTrue (is_int (rowid r))) _ (λ r int. at_key (pos number) (Int (pos queued) ∷ []) r int) (old.now.trees jobs.tree) numbered))
    (λ x id. Int id ∷ job_tail (f x)) (λ x was id key shows. let it = at_job x was shows in rw (key, it.0, it.1, it.2, it.3, it.5, it.6, it.7) refl)
    (λ x id. job_casts old.now.trees (f x) id) (λ x id. refl) (λ x was id own key shows. ap (λ v. columns job_places (v ∷ job_tail (f x))) (sym key ∙ ap (λ cs. column cs 0) shows)) no_job_follows in
    (it.0, λ t held. let made = it.1 t.jobs held.jobs in holds_jobs t old.now.trees new.now.trees _ made.1 held made.0)

-- ---- the next number

pub next_set : (old new : State) (next count : ℕ) → Stands spool_schema old.now → Executes set_number (Int (pos next) ∷ []) old new (Ok count)
    → Stands spool_schema new.now × ((t : Tables) → Holds old.now.trees t → Holds new.now.trees (record t { next = next }))
next_set old new next count stands h =
    let db = old.now.trees in
    let params : Row = Int (pos next) ∷ [] in
    let program : Program = record { lets = []; body = over 0 [] set_number_terms } in
    let w = runs_as set_number params old new spool_schema stands.schema (Update 0 program) set_number_is set_number_plain count h in
    let text = statement_of set_number (understood spool_schema set_number) in
    let ran = update_ran old new spool_schema stands.schema 0 spool refl text params count program w in
    let wrote = update_writes old new spool_schema stands.schema 0 spool refl text params count program ran in (
      ran.stands,
      λ t held.
          let row : Row = Int (pos 1) ∷ spool_row next in
          let order = over_rows db spool.tree [] set_number_terms params wrote.0 refl (wrote.1.answer Null) in
          let shown : List Row → List Row = λ rows. map (λ r. eval_all set_number_terms (params ∷ r ∷ [])) (filter (λ r. true) rows) in
          let rows : wrote.0 ≡ row ∷ [] = one_permutation row wrote.0 (subst (λ rs. IsPermutation (shown rs) wrote.0) held.spool order) in
          let did = subst (λ all. WritesTrees spool_schema Enforced db (edit_of db spool (ids_of all) Given 1 all) (Ok new.now.trees)) rows wrote.2 in
          let edit : Edit = record { table = spool; gone = pos 1 ∷ []; news = spool_row next ∷ [] } in
          let is : edit_of db spool (pos 1 ∷ []) Given 1 (row ∷ []) ≡ edit = rw (cast_int (pos 1), cast_null, cast_int (pos 4), cast_int (pos next)) in
          let a = one_step spool_schema Enforced db new.now.trees edit refl (subst (λ (e : Edit). WritesTrees spool_schema Enforced db e (Ok new.now.trees)) is did) in
          holds_next t db new.now.trees next (keeps_one edit db new.now.trees a) held (rw (held.spool, value_cmp-Int (pos 1) (pos 1)) at a.rows),
    )
