-- What the list of jobs, a job's bytes and an entry show of a state.
use Rattle.std.proofs.Common.{◌≡◌, ℕ, pos, List, [], ◌∷◌, Bool, true, false, cond, ◌==◌, map, filter, refl, sym, ap, ap₂, ◌∙◌, ◌<◌, Less, Equal, Greater, Ordering, Option, Some, None, option_map, slice_get, Bor, nat_cmp}
use Rattle.std.specs.Prelude.{◌&&◌, IfSome, find, ⊤}
use Rattle.std.specs.List.{AllByRecursion}
use Rattle.std.specs.Ordering.{is_eq, ordering_then}
use Rattle.std.proofs.lemmas.List.Sorted.{IsPermutation-sym}
use Rattle.std.proofs.lemmas.Map.Text.{is_eq-slice_cmp}
use Rattle.std.proofs.lemmas.Option.{slice_get-map}
use Rattle.uu_names.proofs.Basics.{int_cmp-pos, int_eq-pos, lt-nat_cmp, find-map, filter_all}
use Rattle.sqlite.specs.declared.types.Value.{Value}
use Rattle.sqlite.specs.declared.types.Value.TheVariants.{Null, Int, Text}
use Rattle.sqlite.specs.Order.{Row}
use Rattle.sqlite.specs.Tree.{IsAscending}
use Rattle.sqlite.specs.Query.{Query, Output, output, output_cmp}
use Rattle.sqlite.specs.State as db
use Rattle.sqlite.specs.Collation.TheVariants.{Binary}
use Rattle.sqlite.specs.Values.{or_null, bound_value}
use Rattle.sqlite_sql.specs.Ops.{binary}
use Rattle.sqlite_sql.specs.declared.ops.BinaryOp.TheVariants.{Compare, Is, Or}
use Rattle.sqlite_sql.specs.declared.ops.CompareOp.TheVariants.{Eq}
use Rattle.sqlite_keyed.specs.Lists.{sort_by}
use Rattle.sqlite_keyed.proofs.ListLemmas.{ascending_weaker, ascending-filter, ascending-map, slice_get-filter}
use Rattle.sqlite_trees.proofs.ListLemmas.{all-permutation}
use Rattle.sqlite_typed.proofs.TestLemmas.{truth_or, at_ints, at_texts, at_or, at_is_null, then_term, last_term, then_key, last_key}
use Rattle.sqlite_value.specs.Order.{value_cmp}
use Rattle.sqlite_value.proofs.OrderLemmas.{value_cmp-Int}
use Rattle.uu_schema.proofs.Terms.{where_is}
use Rattle.uu_schema.proofs.Asks.{ordered}
use Rattle.uu_schema.proofs.Answers.{answer_of}
use Rattle.uu_schema.proofs.Sorted.{IsPermutation-insert_sorted}
use Rattle.uu_core.specs.declared.job.JobHead.{JobHead}
use Rattle.uu_core.specs.State.{State, Job, IsWellFormed, head_of, job_at, entry_at, same_text}
use Rattle.uu_tables.specs.declared.rows.EntryColumns.{EntryColumns}
use Rattle.uu_tables.specs.declared.rows.Body.{Body}
use Rattle.uu_tables.specs.Tables.{entry_columns, body_of}
use Rattle.uu_schema.specs.Schema.{spool_schema, jobs, bodies, entries}
use Rattle.uu_schema.specs.Keyed.{columns}
use Rattle.uu_schema.specs.Held.{job_places}
use Rattle.uu_schema.specs.Cells.{job_cells, body_cells, entry_cells}
use Rattle.uu_core.specs.declared.filter.Filter.{Filter}
use Rattle.uu_questions.specs.Answers.{IsStateOf}
use Rattle.uu_questions.specs.Listing.{is_wanted, fits, WantsAll, by_rank, listed_jobs}
use Rattle.uu_tables.specs.Order.{entry_cmp}
use Rattle.uu_rows.specs.Readable.{IsTypedHead}
use Rattle.uu_questions.proofs.Texts.{all_jobs_text, jobs_text, body_text, entry_text, entries_text}
use Rattle.uu_rows.proofs.Meanings.{at_places, by_places}
use Rattle.uu_questions.proofs.Meanings.{fit_terms, all_jobs_means, jobs_means, body_means, entry_means, entries_means}
use Rattle.uu_rows.proofs.Comparing.{numbered}
use Rattle.uu_rows.proofs.Typed.{typed_sorted}
use Rattle.uu_rows.proofs.InTables.{bodies_are, entries_are}
use Rattle.uu_rows.proofs.InOrder.{ascending_pairs}
use Rattle.uu_rows.proofs.Back.{same_all, same_one, head_back, head_returns, body_back, body_returns, entry_back, entry_returns}
use Rattle.uu_rows.proofs.Heads.{heads_good}
use Rattle.uu_questions.proofs.Rising.{bodies_rise}
use Rattle.uu_questions.proofs.SystemRows.{same_cells}

-- what the question is given: the system and the user, each NULL if none is wanted
abbrev pub sought : Filter → Row
sought f = or_null Text f.system ∷ or_null Text f.user ∷ []

-- what is bound of a text that may be wanted
pub wanted_bound : (text : Option (Bor (List ℕ))) (wanted : Option (List ℕ)) (value : Value) → value ≡ or_null (λ t. Text t.now) text → option_map (λ t. t.now) text ≡ wanted → bound_value value ≡ or_null Text wanted
wanted_bound None wanted value is same = ap bound_value is ∙ ap (or_null Text) same
wanted_bound (Some text) wanted value is same = ap bound_value is ∙ ap (or_null Text) same

null_first : (text : List ℕ) → value_cmp Null (Text text) ≡ Less
unfolding value_cmp
null_first text = refl

-- the term of one wanted text
wanted_test : (wanted : Option (List ℕ)) (text : List ℕ)
    → truth_or false (binary Or (binary (Is Binary) (or_null Text wanted) Null) (binary (Compare Eq Binary) (Text text) (or_null Text wanted))) ≡ is_wanted wanted text
wanted_test None text = at_or false _ _ (at_is_null Text false null_first None) refl
wanted_test (Some wanted) text = at_or false _ _ (at_is_null Text false null_first (Some wanted)) (at_texts false Eq text wanted ∙ is_eq-slice_cmp text wanted)

no_tie_then : (o p : Ordering) → is_eq p ≡ false → is_eq (ordering_then o p) ≡ false
no_tie_then Less p h = refl
no_tie_then Equal p h = h
no_tie_then Greater p h = refl

pub apart : (x y : JobHead) → x.number < y.number → is_eq (by_rank x y) ≡ false
apart x y h = no_tie_then (nat_cmp x.grade y.grade) (nat_cmp x.number y.number) (ap is_eq (lt-nat_cmp x.number y.number h))

pub numbers_rise : (s : State) → IsWellFormed s → IsAscending (λ (x y : JobHead). x.number < y.number) (map head_of s.jobs)
numbers_rise s good = ascending-map (λ (x y : JobHead). x.number < y.number) head_of s.jobs (ascending_pairs (λ (x y : Job). x.number < y.number) s.jobs good.rising)

all_kept : {X : Type 0} (P : X → Type 0) (p : X → Bool) (xs : List X) → AllByRecursion P xs → AllByRecursion P (filter p xs)
all_kept P p [] all = tt
all_kept P p (x ∷ xs) all = elim (p x) as (λ b. AllByRecursion P (cond b (x ∷ filter p xs) (filter p xs))) [ true ↦ (all.0, all_kept P p xs all.1) | false ↦ all_kept P p xs all.1 ]

all_sorted : (hs : List JobHead) → AllByRecursion IsTypedHead hs → AllByRecursion IsTypedHead (sort_by by_rank hs)
all_sorted [] all = tt
all_sorted (h ∷ hs) all = all-permutation IsTypedHead _ _ (IsPermutation-sym _ _ (IsPermutation-insert_sorted by_rank h (sort_by by_rank hs))) (all.0, all_sorted hs all.1)

pub jobs_listed : (old new : db.State) (s : State) (f : Filter) (rows : List Row) → IsStateOf s old → db.Shown jobs_text (sought f) old new rows → (found : List JobHead) → AllByRecursion IsTypedHead found → rows ≡ map job_cells found → found ≡ listed_jobs f s
jobs_listed old new s f rows of h found good read =
    let order = by_places (3 ∷ 0 ∷ []) in
    let q : Query = ordered jobs.tree fit_terms (at_places job_places) order in
    let hs = map head_of s.jobs in
    let a = answer_of spool_schema jobs_text _ _ (sought f) old new jobs_means of.stands.schema rows h in
    let out : JobHead → Output = λ j. output q (sought f ∷ numbered (job_cells j) ∷ []) in
    let is : (x y : JobHead) → output_cmp q (out x) (out y) ≡ by_rank x y = λ x y.
    then_key (value_cmp-Int (pos x.grade) (pos y.grade)) (last_key (value_cmp-Int (pos x.number) (pos y.number))) ∙ ap₂ ordering_then (int_cmp-pos x.grade y.grade) (int_cmp-pos x.number y.number) in
    let sorted = typed_sorted jobs.tree fit_terms (at_places job_places) order old.now.trees (sought f) rows refl a (columns job_places) numbered (λ r. refl) (λ r. refl) job_cells hs of.holds.jobs.same
    (fits f) (λ j. then_term (wanted_test f.system j.system) (last_term (wanted_test f.user j.user))) by_rank is
    (ascending-filter _ (fits f) hs (ascending_weaker _ (λ x y. is_eq (by_rank x y) ≡ false) apart hs (numbers_rise s of.good))) in
    same_all job_cells head_back IsTypedHead head_returns found (listed_jobs f s) good (all_sorted (filter (fits f) hs) (all_kept IsTypedHead (fits f) hs (heads_good s of.good))) (sym read ∙ sorted)

-- the same for all jobs, if the filter gives no system and no user
pub all_jobs_listed : (old new : db.State) (s : State) (f : Filter) → WantsAll f → (rows : List Row) → IsStateOf s old → db.Shown all_jobs_text [] old new rows → (found : List JobHead) → AllByRecursion IsTypedHead found → rows ≡ map job_cells found → found ≡ listed_jobs f s
all_jobs_listed old new s f all rows of h found good read =
    let order = by_places (3 ∷ 0 ∷ []) in
    let q : Query = ordered jobs.tree [] (at_places job_places) order in
    let hs = map head_of s.jobs in
    let a = answer_of spool_schema all_jobs_text _ _ [] old new all_jobs_means of.stands.schema rows h in
    let out : JobHead → Output = λ j. output q ([] ∷ numbered (job_cells j) ∷ []) in
    let is : (x y : JobHead) → output_cmp q (out x) (out y) ≡ by_rank x y = λ x y.
    then_key (value_cmp-Int (pos x.grade) (pos y.grade)) (last_key (value_cmp-Int (pos x.number) (pos y.number))) ∙ ap₂ ordering_then (int_cmp-pos x.grade y.grade) (int_cmp-pos x.number y.number) in
    let sorted = typed_sorted jobs.tree [] (at_places job_places) order old.now.trees [] rows refl a (columns job_places) numbered (λ r. refl) (λ r. refl) job_cells hs of.holds.jobs.same
    (fits f) (λ j. ap₂ (λ system user. is_wanted system j.system && is_wanted user j.user) (sym all.0) (sym all.1)) by_rank is
    (ascending-filter _ (fits f) hs (ascending_weaker _ (λ x y. is_eq (by_rank x y) ≡ false) apart hs (numbers_rise s of.good))) in
    same_all job_cells head_back IsTypedHead head_returns found (listed_jobs f s) good (all_sorted (filter (fits f) hs) (all_kept IsTypedHead (fits f) hs (heads_good s of.good))) (sym read ∙ sorted)

-- ---- an entry

any_some : {X : Type 0} (o : Option X) → IfSome o (λ _. ⊤)
any_some None = tt
any_some (Some x) = tt

pub entry_found : (old new : db.State) (s : State) (host : List ℕ) (rows : List Row) → IsStateOf s old → db.Shown entry_text (Text host ∷ []) old new rows → (found : Option EntryColumns) → option_map entry_cells found ≡ slice_get rows 0
    → found ≡ option_map entry_columns (entry_at s host)
entry_found old new s host rows of h found read =
    let es = map entry_columns s.entries in
    let p : EntryColumns → Bool = λ e. same_text e.host host in
    let rise : IsAscending (λ x y. entry_cmp x y ≡ Less) es = ascending-map (λ x y. entry_cmp x y ≡ Less) entry_columns s.entries (ascending_pairs _ s.entries of.good.by_host) in
    let is = entries_are spool_schema old new rows of.stands.schema entry_text _ (Text host ∷ []) (where_is 1 0 ∷ []) h entries.tree entry_means (λ r. refl) es of.holds.entries.same rise p (λ e. last_term (at_texts false Eq e.host host ∙ is_eq-slice_cmp e.host host)) in
    same_one entry_cells entry_back (λ _. ⊤) (λ e _. entry_returns e) found (find p es) (any_some found) (any_some (find p es))
    (read ∙ ap (λ rs. slice_get rs 0) is ∙ slice_get-map entry_cells (filter p es) 0 ∙ ap (option_map entry_cells) (slice_get-filter p es))
    ∙ find-map p entry_columns s.entries

pub entries_found : (old new : db.State) (s : State) (rows : List Row) → IsStateOf s old → db.Shown entries_text [] old new rows → (found : List EntryColumns) → rows ≡ map entry_cells found → found ≡ map entry_columns s.entries
entries_found old new s rows of h found read =
    let es = map entry_columns s.entries in
    let rise : IsAscending (λ x y. entry_cmp x y ≡ Less) es = ascending-map (λ x y. entry_cmp x y ≡ Less) entry_columns s.entries (ascending_pairs _ s.entries of.good.by_host) in
    same_cells entry_cells entry_back entry_returns found _ (sym read
    ∙ entries_are spool_schema old new rows of.stands.schema entries_text _ [] [] h entries.tree entries_means (λ r. refl) es of.holds.entries.same rise (λ x. true) (λ x. refl))
    ∙ filter_all es

-- ---- the bytes of a job

pub body_found : (old new : db.State) (s : State) (n : ℕ) (rows : List Row) → IsStateOf s old → db.Shown body_text (Int (pos n) ∷ []) old new rows → (found : Option Body) → option_map body_cells found ≡ slice_get rows 0
    → found ≡ option_map body_of (job_at s n)
body_found old new s n rows of h found read =
    let bs = map body_of s.jobs in
    let p : Body → Bool = λ b. b.job == n in
    let is = bodies_are spool_schema old new rows of.stands.schema body_text _ (Int (pos n) ∷ []) (where_is 0 0 ∷ []) h bodies.tree body_means (λ r. refl) bs of.holds.bodies.same (bodies_rise s of.good) p (λ b. last_term (at_ints false Eq (pos b.job) (pos n)) ∙ int_eq-pos b.job n) in
    same_one body_cells body_back (λ _. ⊤) (λ b _. body_returns b) found (find p bs) (any_some found) (any_some (find p bs))
    (read ∙ ap (λ rs. slice_get rs 0) is ∙ slice_get-map body_cells (filter p bs) 0 ∙ ap (option_map body_cells) (slice_get-filter p bs))
    ∙ find-map p body_of s.jobs
