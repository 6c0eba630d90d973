-- What each DELETE makes of the tables.
use Rattle.std.proofs.Common.{◌≡◌, ℕ, ◌+◌, pos, List, [], ◌∷◌, Bool, false, Ok, refl, sym, ap, ◌∙◌}
use Rattle.std.specs.Prelude.{◌&&◌, IsTrue, nat_lt}
use Rattle.std.specs.List.{list_all}
use Rattle.std.specs.Ordering.{is_lt}
use Rattle.std.proofs.lemmas.Map.Text.{is_eq-slice_cmp}
use Rattle.sqlite_sql.specs.declared.ops.CompareOp.TheVariants.{Eq, Lt}
use Rattle.sqlite_typed.proofs.TestLemmas.{at_ints, at_texts, then_term, last_term}
use Rattle.uu_names.proofs.Basics.{int_lt-pos, int_cmp-pos, is_lt-nat_cmp}
use Rattle.sqlite.specs.declared.types.Value.TheVariants.{Int, Text}
use Rattle.sqlite.specs.Order.{Row, column, value_cmp}
use Rattle.sqlite.specs.Tree.{rowid, has_rowid}
use Rattle.sqlite.specs.View.{is_int}
use Rattle.sqlite.specs.Term.{holds}
use Rattle.sqlite_value.specs.Keys.{joined}
use Rattle.sqlite_value.proofs.OrderLemmas.{value_cmp-Int}
use Rattle.sqlite_schema.specs.Names.{same_name}
use Rattle.sqlite_schema.specs.declared.schema.Keys.TheVariants.{Enforced}
use Rattle.sqlite_rules.specs.Action.{works}
use Rattle.sqlite_trees.proofs.ListLemmas.{filter_same as filter_same_on}
use Rattle.sqlite_keyed.proofs.ListLemmas.{filter_same, all_weaker}
use Rattle.sqlite.specs.State.{State, Executes}
use Rattle.uu_schema.specs.Steps.{Stands}
use Rattle.uu_schema.proofs.Terms.{where_is}
use Rattle.uu_schema.proofs.Rows.{at_text, at_key}
use Rattle.uu_tables.specs.declared.rows.TakenColumns.{TakenColumns}
use Rattle.uu_schema.specs.Keyed.{columns}
use Rattle.uu_tables.specs.Tables.{Tables}
use Rattle.uu_tables.specs.Changes.{without, has_name, is_link_of, is_taken_of, is_forgotten, has_number, is_body_of, is_about}
use Rattle.uu_schema.specs.Schema.{spool_schema, systems, jobs, bodies, entries, links, taken}
use Rattle.uu_schema.specs.Cells.{system_cells, job_cells, body_cells, entry_cells, link_cells, taken_cells}
use Rattle.uu_schema.specs.Held.{Holds, system_key, job_key, body_key, entry_key, link_key, taken_key, system_places, job_places, body_places, entry_places, link_places, taken_places}
use Rattle.uu_statements.proofs.Texts.{delete_system, delete_job, delete_body, delete_entry, delete_link, delete_taken, forget_taken}
use Rattle.uu_statements.proofs.Meanings.{delete_system_is, delete_system_plain, delete_job_is, delete_job_plain, delete_body_is, delete_body_plain, delete_entry_is, delete_entry_plain, delete_link_is, delete_link_plain, delete_taken_is, delete_taken_plain, forget_taken_is, forget_taken_plain, forget_taken_terms}
use Rattle.uu_statements.proofs.Keyed.{all_cells}
use Rattle.uu_statements.proofs.Statements.{rows_gone}
use Rattle.uu_statements.proofs.Altered.{is_text, text_test, is_number, number_test}
use Rattle.uu_statements.proofs.Holding.{holds_systems, holds_jobs, holds_bodies, holds_entries, holds_links, holds_taken}

-- ---- no row refers to another

of_systems : (olds : List Row) → works spool_schema Enforced 0 systems.tree olds [] ≡ []
unfolding same_name joined
of_systems olds = refl

of_jobs : (olds : List Row) → works spool_schema Enforced 0 jobs.tree olds [] ≡ []
unfolding same_name joined
of_jobs olds = refl

of_bodies : (olds : List Row) → works spool_schema Enforced 0 bodies.tree olds [] ≡ []
unfolding same_name joined
of_bodies olds = refl

of_entries : (olds : List Row) → works spool_schema Enforced 0 entries.tree olds [] ≡ []
unfolding same_name joined
of_entries olds = refl

of_links : (olds : List Row) → works spool_schema Enforced 0 links.tree olds [] ≡ []
unfolding same_name joined
of_links olds = refl

of_taken : (olds : List Row) → works spool_schema Enforced 0 taken.tree olds [] ≡ []
unfolding same_name joined
of_taken olds = refl

-- ---- the tables with a name

pub system_gone : (old new : State) (name : List ℕ) (count : ℕ) → Stands spool_schema old.now → Executes delete_system (Text name ∷ []) old new (Ok count)
    → Stands spool_schema new.now × ((t : Tables) → Holds old.now.trees t → Holds new.now.trees (record t { systems = without (has_name name) t.systems }))
system_gone old new name count stands h =
    let it = rows_gone old new stands delete_system (Text name ∷ []) count 1 systems refl system_key system_cells system_places (has_name name) (is_text name 1) (is_text name 0) (λ x. text_test name x.def.name) (λ r. refl) (where_is 1 0 ∷ []) delete_system_is delete_system_plain h refl
    (λ xs held. filter_same _ (is_text name 1) (at_text 1 name []) (old.now.trees systems.tree)) of_systems in
    (it.0, λ t held. let left = it.1 t.systems held.systems in holds_systems t old.now.trees new.now.trees _ left.1 held left.0)

pub entry_gone : (old new : State) (host : List ℕ) (count : ℕ) → Stands spool_schema old.now → Executes delete_entry (Text host ∷ []) old new (Ok count)
    → Stands spool_schema new.now × ((t : Tables) → Holds old.now.trees t → Holds new.now.trees (record t { entries = without (is_about host) t.entries }))
entry_gone old new host count stands h =
    let it = rows_gone old new stands delete_entry (Text host ∷ []) count 4 entries refl entry_key entry_cells entry_places (is_about host) (is_text host 1) (is_text host 0) (λ x. text_test host x.host) (λ r. refl) (where_is 1 0 ∷ []) delete_entry_is delete_entry_plain h refl
    (λ xs held. filter_same _ (is_text host 1) (at_text 1 host []) (old.now.trees entries.tree)) of_entries in
    (it.0, λ t held. let left = it.1 t.entries held.entries in holds_entries t old.now.trees new.now.trees _ left.1 held left.0)

pub link_gone : (old new : State) (name : List ℕ) (count : ℕ) → Stands spool_schema old.now → Executes delete_link (Text name ∷ []) old new (Ok count)
    → Stands spool_schema new.now × ((t : Tables) → Holds old.now.trees t → Holds new.now.trees (record t { links = without (is_link_of name) t.links }))
link_gone old new name count stands h =
    let it = rows_gone old new stands delete_link (Text name ∷ []) count 5 links refl link_key link_cells link_places (is_link_of name) (is_text name 1) (is_text name 0) (λ x. text_test name x.system) (λ r. refl) (where_is 1 0 ∷ []) delete_link_is delete_link_plain h refl
    (λ xs held. filter_same _ (is_text name 1) (at_text 1 name []) (old.now.trees links.tree)) of_links in
    (it.0, λ t held. let left = it.1 t.links held.links in holds_links t old.now.trees new.now.trees _ left.1 held left.0)

pub taken_gone : (old new : State) (name : List ℕ) (count : ℕ) → Stands spool_schema old.now → Executes delete_taken (Text name ∷ []) old new (Ok count)
    → Stands spool_schema new.now × ((t : Tables) → Holds old.now.trees t → Holds new.now.trees (record t { taken = without (is_taken_of name) t.taken }))
taken_gone old new name count stands h =
    let it = rows_gone old new stands delete_taken (Text name ∷ []) count 6 taken refl taken_key taken_cells taken_places (is_taken_of name) (is_text name 1) (is_text name 0) (λ x. text_test name x.system) (λ r. refl) (where_is 1 0 ∷ []) delete_taken_is delete_taken_plain h refl
    (λ xs held. filter_same _ (is_text name 1) (at_text 1 name []) (old.now.trees taken.tree)) of_taken in
    (it.0, λ t held. let left = it.1 t.taken held.taken in holds_taken t old.now.trees new.now.trees _ left.1 held left.0)

-- ---- the tables with a number

pub job_gone : (old new : State) (number count : ℕ) → Stands spool_schema old.now → Executes delete_job (Int (pos number) ∷ []) old new (Ok count)
    → Stands spool_schema new.now × ((t : Tables) → Holds old.now.trees t → Holds new.now.trees (record t { jobs = without (has_number number) t.jobs }))
job_gone old new number count stands h =
    let n = pos number in
    let it = rows_gone old new stands delete_job (Int n ∷ []) count 2 jobs refl job_key job_cells job_places (has_number number) (has_rowid n) (is_number number 0) (λ x. number_test number x.number) (λ r. refl) (where_is 0 0 ∷ []) delete_job_is delete_job_plain h refl
    (λ xs held. filter_same_on _ (has_rowid n) (old.now.trees jobs.tree) (all_weaker (λ r. IsTrue (is_int (rowid r))) _ (λ r int. at_key n [] r int) (old.now.trees jobs.tree) held.numbered)) of_jobs in
    (it.0, λ t held. let left = it.1 t.jobs held.jobs in holds_jobs t old.now.trees new.now.trees _ left.1 held left.0)

pub body_gone : (old new : State) (number count : ℕ) → Stands spool_schema old.now → Executes delete_body (Int (pos number) ∷ []) old new (Ok count)
    → Stands spool_schema new.now × ((t : Tables) → Holds old.now.trees t → Holds new.now.trees (record t { bodies = without (is_body_of number) t.bodies }))
body_gone old new number count stands h =
    let n = pos number in
    let it = rows_gone old new stands delete_body (Int n ∷ []) count 3 bodies refl body_key body_cells body_places (is_body_of number) (has_rowid n) (is_number number 0) (λ x. number_test number x.job) (λ r. refl) (where_is 0 0 ∷ []) delete_body_is delete_body_plain h refl
    (λ xs held. filter_same_on _ (has_rowid n) (old.now.trees bodies.tree) (all_weaker (λ r. IsTrue (is_int (rowid r))) _ (λ r int. at_key n [] r int) (old.now.trees bodies.tree) held.numbered)) of_bodies in
    (it.0, λ t held. let left = it.1 t.bodies held.bodies in holds_bodies t old.now.trees new.now.trees _ left.1 held left.0)

-- ---- what was taken under numbers below one

-- the row is of the name, and its number below this one
abbrev is_below : List ℕ → ℕ → ℕ → Row → Bool
is_below name below at r = is_text name at r && is_lt (value_cmp (column r (at + 1)) (Int (pos below)))

below_test : (n m : ℕ) → is_lt (value_cmp (Int (pos m)) (Int (pos n))) ≡ nat_lt m n
below_test n m = ap is_lt (value_cmp-Int (pos m) (pos n) ∙ int_cmp-pos m n) ∙ is_lt-nat_cmp m n

forgotten_test : (name : List ℕ) (below : ℕ) (x : TakenColumns) → is_below name below 0 (taken_cells x) ≡ is_forgotten name below x
forgotten_test name below x = λ i. text_test name x.system i && below_test below x.taken.number i

-- the row shows a row of the list
abbrev ShowsTaken : Row → Type 0
ShowsTaken cs = (x : TakenColumns) × (cs ≡ taken_cells x)

-- the terms of the statement pass those rows
below_passes : (name : List ℕ) (below : ℕ) (r : Row) → ShowsTaken (columns taken_places r) → list_all (holds ((Text name ∷ Int (pos below) ∷ []) ∷ r ∷ [])) forget_taken_terms ≡ is_below name below 1 r
below_passes name below r it =
    let x = it.0 in
    let system : column r 1 ≡ Text x.system = ap (λ cs. column cs 0) it.1 in
    let number : column r 2 ≡ Int (pos x.taken.number) = ap (λ cs. column cs 1) it.1 in
    let own : is_below name below 1 r ≡ is_forgotten name below x = rw (system, number) (forgotten_test name below x) in
    rw (system, number) (then_term (at_texts false Eq x.system name ∙ is_eq-slice_cmp x.system name) (last_term (at_ints false Lt (pos x.taken.number) (pos below) ∙ int_lt-pos x.taken.number below))) ∙ sym own

pub taken_forgotten : (old new : State) (name : List ℕ) (below : ℕ) (count : ℕ) → Stands spool_schema old.now → Executes forget_taken (Text name ∷ Int (pos below) ∷ []) old new (Ok count)
    → Stands spool_schema new.now × ((t : Tables) → Holds old.now.trees t → Holds new.now.trees (record t { taken = without (is_forgotten name below) t.taken }))
taken_forgotten old new name below count stands h =
    let rows = old.now.trees taken.tree in
    let params : Row = Text name ∷ Int (pos below) ∷ [] in
    let it = rows_gone old new stands forget_taken params count 6 taken refl taken_key taken_cells taken_places (is_forgotten name below) (is_below name below 1) (is_below name below 0) (forgotten_test name below) (λ r. refl) forget_taken_terms forget_taken_is forget_taken_plain h refl
    (λ xs held.
    let shown = all_cells taken_key taken_cells taken_places ShowsTaken (λ x. (x, refl)) xs rows held in
    filter_same_on (λ r. list_all (holds (params ∷ r ∷ [])) forget_taken_terms) (is_below name below 1) rows (all_weaker (λ r. ShowsTaken (columns taken_places r)) (λ r. list_all (holds (params ∷ r ∷ [])) forget_taken_terms ≡ is_below name below 1 r) (below_passes name below) rows shown))
    of_taken in
    (it.0, λ t held. let left = it.1 t.taken held.taken in holds_taken t old.now.trees new.now.trees _ left.1 held left.0)
