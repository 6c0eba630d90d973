-- What the answers of the questions before a command say of the state.
use Rattle.std.proofs.Common.{◌≡◌, ℕ, pos, List, [], ◌∷◌, Bool, true, false, not, ◌==◌, nat_eq, length, map, filter, refl, ap, subst, ◌∙◌, arith, Less, ◌<◌, Option, option_map, slice_get, take}
use Rattle.std.specs.Prelude.{find, IfSome}
use Rattle.std.proofs.lemmas.Option.{slice_get-map}
use Rattle.std.specs.List.{list_all}
use Rattle.std.specs.List.Sorted.{IsPermutation}
use Rattle.std.proofs.lemmas.Bool.Decides.{nat_tests}
use Rattle.std.proofs.lemmas.List.{length-map}
use Rattle.std.proofs.lemmas.List.Sorted.{length_permutation}
use Rattle.std.proofs.lemmas.Map.Text.{is_eq-slice_cmp}
use Rattle.sqlite.specs.declared.types.Value.TheVariants.{Int, Text}
use Rattle.sqlite.specs.Order.{Row}
use Rattle.sqlite.specs.Tree.{IsAscending}
use Rattle.sqlite.specs.Term.{eval_all, holds}
use Rattle.sqlite.specs.Query.{Query, IsAnswer, Output, output, output_cmp}
use Rattle.sqlite.specs.Program.{overlay}
use Rattle.sqlite.specs.State as db
use Rattle.sqlite_sql.specs.declared.ops.CompareOp.TheVariants.{Eq}
use Rattle.sqlite.proofs.Callers.{one_permutation}
use Rattle.sqlite_keyed.proofs.ListLemmas.{none_counted, slice_get-filter, ascending_weaker, ascending-filter, ascending-map}
use Rattle.sqlite_typed.proofs.TestLemmas.{at_ints, at_texts, last_term, last_key}
use Rattle.sqlite_value.proofs.OrderLemmas.{value_cmp-Int}
use Rattle.uu_names.proofs.Basics.{any_mapped, int_cmp-pos, lt-nat_cmp, int_eq-pos, find-map}
use Rattle.uu_schema.proofs.Terms.{where_is}
use Rattle.uu_schema.proofs.Asks.{ordered}
use Rattle.uu_schema.proofs.Answers.{answer_of, answer_moved}
use Rattle.uu_core.specs.declared.job.JobHead.{JobHead}
use Rattle.uu_core.specs.State.{State, Job, has_system, is_waiting, job_at, head_of, same_text}
use Rattle.uu_tables.specs.declared.rows.SystemColumns.{SystemColumns}
use Rattle.uu_tables.specs.Tables.{system_columns}
use Rattle.uu_schema.specs.Schema.{spool_schema, spool, systems, jobs}
use Rattle.uu_schema.specs.Keyed.{columns}
use Rattle.uu_schema.specs.Made.{spool_row}
use Rattle.uu_schema.specs.Held.{system_places, job_places}
use Rattle.uu_schema.specs.Cells.{system_cells, job_cells}
use Rattle.uu_questions.specs.Answers.{IsStateOf}
use Rattle.uu_questions.proofs.Texts.{next_text, known_text, waiting_text, head_text}
use Rattle.uu_rows.proofs.Meanings.{at_places, by_places, is_first}
use Rattle.uu_questions.proofs.Meanings.{next_means, known_means, waiting_means, head_means}
use Rattle.uu_rows.proofs.Comparing.{beside, numbered}
use Rattle.uu_rows.proofs.Typed.{typed_moved, typed_only}
use Rattle.uu_rows.specs.Readable.{IsTypedHead}
use Rattle.uu_rows.proofs.InOrder.{ascending_pairs}
use Rattle.uu_rows.proofs.Back.{same_one, head_back, head_returns}
use Rattle.uu_rows.proofs.Heads.{heads_good}
use Rattle.uu_questions.proofs.Finding.{found_good}

-- ---- the next number

pub next_rows : (old new : db.State) (s : State) (rows : List Row) → IsStateOf s old → db.Shown next_text [] old new rows → rows ≡ (Int (pos s.next) ∷ []) ∷ []
next_rows old new s rows of h =
    let trees = old.now.trees in
    let a = answer_of spool_schema next_text _ _ [] old new next_means of.stands.schema rows h in
    let row = spool_row s.next in
    let passes : list_all (holds ([] ∷ row ∷ [])) (is_first ∷ []) ≡ true = last_term (at_ints false Eq (pos 1) (pos 1)) in
    let moved = answer_moved spool.tree (is_first ∷ []) (at_places (3 ∷ [])) [] trees [] rows refl a in
    let shown : List Row → List Row = λ rs. map (λ r. eval_all (at_places (3 ∷ [])) ([] ∷ r ∷ [])) (filter (λ r. list_all (holds ([] ∷ r ∷ [])) (is_first ∷ [])) rs) in
    let one : shown (row ∷ []) ≡ (Int (pos s.next) ∷ []) ∷ [] = rw passes refl in
    one_permutation _ rows (subst (λ l. IsPermutation l rows) (ap shown of.holds.spool ∙ one) moved)

-- ---- a system

abbrev pub has_name : List ℕ → SystemColumns → Bool
has_name name row = same_text row.def.name name

pub known_rows : (old new : db.State) (s : State) (name : List ℕ) (rows : List Row) → IsStateOf s old → db.Shown known_text (Text name ∷ []) old new rows → nat_eq (length rows) 0 ≡ not (has_system s name)
known_rows old new s name rows of h =
    let trees = old.now.trees in
    let params : Row = Text name ∷ [] in
    let tests = where_is 1 0 ∷ [] in
    let rs = map system_columns s.systems in
    let a = answer_of spool_schema known_text _ _ params old new known_means of.stands.schema rows h in
    let moved = typed_moved systems.tree tests (at_places (1 ∷ [])) [] trees params rows refl a (columns system_places) beside (λ r. refl) (λ r. refl) system_cells rs of.holds.systems.same
    (has_name name) (λ x. last_term (at_texts false Eq x.def.name name ∙ is_eq-slice_cmp x.def.name name)) in
    let lengths : length rows ≡ length (filter (has_name name) rs) = length_permutation _ _ moved ∙ length-map (filter (has_name name) rs) _ in
    ap (λ n. nat_eq n 0) lengths ∙ none_counted (has_name name) rs ∙ ap not (any_mapped (has_name name) system_columns s.systems)

-- ---- a job that waits for a system

-- the first row shows whether there is one
first_shows : (rows : List Row) → nat_eq (length (take 1 rows)) 0 ≡ nat_eq (length rows) 0
first_shows [] = refl
first_shows (r ∷ rows) = grind (arith, nat_tests)

abbrev waits_for : List ℕ → JobHead → Bool
waits_for name j = same_text j.system name

pub waiting_rows : (old new : db.State) (s : State) (name : List ℕ) (rows : List Row) → IsStateOf s old → db.Shown waiting_text (Text name ∷ []) old new rows → nat_eq (length rows) 0 ≡ not (is_waiting s name)
waiting_rows old new s name rows of h =
    let trees = old.now.trees in
    let params : Row = Text name ∷ [] in
    let tests = where_is 2 0 ∷ [] in
    let hs = map head_of s.jobs in
    let a = answer_of spool_schema waiting_text _ _ params old new waiting_means of.stands.schema rows h in
    let all : List Row = map (λ (o : Output). o.1) a.ordered in
    let whole : IsAnswer (ordered jobs.tree tests (at_places (0 ∷ [])) []) (overlay trees []) params all = record { staged = a.staged; grouped = a.grouped; kept = a.kept; distinct = a.distinct; ordered = a.ordered; same = a.same; sorted = a.sorted; shown = refl } in
    let moved = typed_moved jobs.tree tests (at_places (0 ∷ [])) [] trees params all refl whole (columns job_places) numbered (λ r. refl) (λ r. refl) job_cells hs of.holds.jobs.same
    (waits_for name) (λ j. last_term (at_texts false Eq j.system name ∙ is_eq-slice_cmp j.system name)) in
    let lengths : length all ≡ length (filter (waits_for name) hs) = length_permutation _ _ moved ∙ length-map (filter (waits_for name) hs) _ in
    ap (λ (rs : List Row). nat_eq (length rs) 0) a.shown ∙ first_shows all ∙ ap (λ n. nat_eq n 0) lengths ∙ none_counted (waits_for name) hs ∙ ap not (any_mapped (waits_for name) head_of s.jobs)

-- ---- the head of a job

abbrev pub has_number : ℕ → JobHead → Bool
has_number n j = j.number == n

pub head_rows : (old new : db.State) (s : State) (n : ℕ) (rows : List Row) → IsStateOf s old → db.Shown head_text (Int (pos n) ∷ []) old new rows → rows ≡ map job_cells (filter (has_number n) (map head_of s.jobs))
head_rows old new s n rows of h =
    let trees = old.now.trees in
    let params : Row = Int (pos n) ∷ [] in
    let tests = where_is 0 0 ∷ [] in
    let q : Query = ordered jobs.tree tests (at_places job_places) (by_places (0 ∷ [])) in
    let a = answer_of spool_schema head_text _ _ params old new head_means of.stands.schema rows h in
    let out : JobHead → Output = λ j. output q (params ∷ numbered (job_cells j) ∷ []) in
    let less : (x y : JobHead) → x.number < y.number → output_cmp q (out x) (out y) ≡ Less = λ x y k.
    last_key (value_cmp-Int (pos x.number) (pos y.number)) ∙ int_cmp-pos x.number y.number ∙ lt-nat_cmp x.number y.number k in
    let rising : IsAscending (λ (x y : JobHead). x.number < y.number) (map head_of s.jobs) = ascending-map (λ (x y : JobHead). x.number < y.number) head_of s.jobs (ascending_pairs (λ (x y : Job). x.number < y.number) s.jobs of.good.rising) in
    typed_only jobs.tree tests (at_places job_places) (by_places (0 ∷ [])) trees params rows refl a (columns job_places) numbered (λ r. refl) (λ r. refl) job_cells (map head_of s.jobs) of.holds.jobs.same
    (has_number n) (λ j. last_term (at_ints false Eq (pos j.number) (pos n)) ∙ int_eq-pos j.number n)
    (ascending_weaker _ (λ x y. output_cmp q (out x) (out y) ≡ Less) less _ (ascending-filter _ (has_number n) (map head_of s.jobs) rising))

-- the first of the rows is the head of the job of this number
pub head_found : (old new : db.State) (s : State) (n : ℕ) (rows : List Row) (found : Option JobHead) → IsStateOf s old → db.Shown head_text (Int (pos n) ∷ []) old new rows
    → IfSome found IsTypedHead → option_map job_cells found ≡ slice_get rows 0 → found ≡ option_map head_of (job_at s n)
head_found old new s n rows found of h good is =
    let first = ap (λ rs. slice_get rs 0) (head_rows old new s n rows of h) ∙ slice_get-map job_cells (filter (has_number n) (map head_of s.jobs)) 0 ∙ ap (option_map job_cells) (slice_get-filter (has_number n) (map head_of s.jobs)) in
    same_one job_cells head_back IsTypedHead head_returns found (find (has_number n) (map head_of s.jobs)) good (found_good IsTypedHead (has_number n) (map head_of s.jobs) (heads_good s of.good)) (is ∙ first)
    ∙ find-map (has_number n) head_of s.jobs
