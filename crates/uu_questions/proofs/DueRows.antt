-- The systems that may be called, and the walk along the jobs.
use Rattle.std.proofs.Common.{◌≡◌, ◌<◌, ℕ, zero, suc, pos, Bool, true, false, not, cond, ◌&&◌, ◌||◌, List, [], ◌∷◌, ◌++◌, map, filter, get_or, AllPairs, All, Option, None, refl, ap, sym, subst, ◌∙◌, arith, append-nil, append_assoc, Ordering, Less, Equal, Greater, nat_cmp, IsPermutation}
use Rattle.std.specs.List.{AllByRecursion}
use Rattle.std.specs.Cmp.{IsTotalOrder, ranked}
use Rattle.std.specs.Ordering.{is_eq, is_gt, ordering_then, MatchOrdering}
use Rattle.std.proofs.lemmas.Cmp.{nat_cmp_total, then_total}
use Rattle.std.proofs.lemmas.Bool.Decides.{nat_tests}
use Rattle.std.proofs.lemmas.List.{length-append, get_or_append_left}
use Rattle.std.proofs.lemmas.List.Kept.{AllPairs-cons}
use Rattle.std.proofs.lemmas.List.Sorted.{IsPermutation-sym}
use Rattle.std.proofs.Math.Bool.{or-false, and-true}
use Rattle.sqlite.specs.Order.{Row}
use Rattle.sqlite.specs.Tree.{IsAscending}
use Rattle.sqlite.specs.State as db
use Rattle.sqlite_value.proofs.OrderLemmas.{value_cmp-Int}
use Rattle.sqlite_typed.proofs.TestLemmas.{then_key, last_key}
use Rattle.sqlite_keyed.specs.Lists.{sort_by, insert_sorted}
use Rattle.sqlite_keyed.proofs.ListLemmas.{ascending_weaker, ascending-filter}
use Rattle.sqlite_keyed.proofs.SortLemmas.{IsPermutation-sort_by}
use Rattle.uu_names.proofs.Basics.{any_push, int_cmp-pos, filter_all}
use Rattle.uu_schema.proofs.Answers.{answer_of}
use Rattle.uu_schema.proofs.Sorted.{rises_insert_sorted}
use Rattle.uu_times.specs.declared.moment.Moment.{Moment}
use Rattle.uu_core.specs.declared.job.JobHead.{JobHead}
use Rattle.uu_core.specs.declared.due.Due.{Due}
use Rattle.uu_core.specs.declared.filter.Filter.{Filter}
use Rattle.uu_core.specs.declared.system.SystemRow.{SystemRow}
use Rattle.uu_core.specs.State.{State, IsWellFormed, same_text, head_of}
use Rattle.uu_core.specs.Due.{is_within, may_be_called, may_go, goes_before, due_of, is_listed, AreInOrder, AreDue}
use Rattle.uu_schema.specs.Schema.{spool_schema, jobs}
use Rattle.uu_schema.specs.Keyed.{columns}
use Rattle.uu_schema.specs.Held.{job_places}
use Rattle.uu_schema.specs.Cells.{job_cells}
use Rattle.uu_questions.specs.Answers.{IsStateOf}
use Rattle.uu_questions.specs.Listing.{by_rank, fits, listed_jobs}
use Rattle.uu_questions.specs.Dues.{IsLeft, TakesRow, due_cells}
use Rattle.uu_questions.specs.Walks.{Took}
use Rattle.uu_questions.proofs.Texts.{due_jobs_text}
use Rattle.uu_rows.proofs.Meanings.{at_places, by_places}
use Rattle.uu_questions.proofs.Meanings.{due_jobs_means}
use Rattle.uu_rows.proofs.Typed.{typed_sorted}
use Rattle.uu_rows.proofs.Comparing.{numbered}
use Rattle.uu_questions.proofs.Listed.{apart, numbers_rise}

-- ---- one job more

-- what is let go is free no more
pub let_go : (may gone same : Bool) (grade : ℕ) (old new : Option ℕ) → is_within old grade ≡ (may && not gone) → new ≡ cond same None old → is_within new grade ≡ (may && not (gone || same))
let_go may gone same grade old new h e = ap (λ o. is_within o grade) e ∙ by_same same
  where
    never : (a b : Bool) → a && not (b || true) ≡ false
    never true true = refl
    never true false = refl
    never false b = refl

    by_same : (t : Bool) → is_within (cond t None old) grade ≡ (may && not (gone || t))
    by_same true = sym (never may gone)
    by_same false = h ∙ ap (λ b. may && not b) (sym (or-false gone))

-- so is the system of a job that is listed
pub left_after : (may : Bool) (dues : List Due) (due : Due) (name : List ℕ) (grade : ℕ) (old new : Option ℕ) → is_within old grade ≡ (may && not (is_listed dues name)) → new ≡ cond (same_text due.system name) None old
    → is_within new grade ≡ (may && not (is_listed (dues ++ due ∷ []) name))
left_after may dues due name grade old new h e =
    let_go may (is_listed dues name) (same_text due.system name) grade old new h e ∙ ap (λ b. may && not b) (sym (any_push (λ (d : Due). same_text d.system name) dues due))

-- ---- the whole walk

-- the first of jobs in order
in_front : (front behind : List JobHead) → AreInOrder (front ++ behind) → AreInOrder front
in_front front behind order i j d below within =
    let long = length-append front behind in
    subst (λ a. goes_before a (get_or front j d) ≡ true) (get_or_append_left front behind d i (omega (arith, below, within)))
    (subst (λ b. goes_before (get_or (front ++ behind) i d) b ≡ true) (get_or_append_left front behind d j within) (order i j d below (omega (arith, long, within))))

-- what is due after one more job (`dues_are_found_job_by_job`)
abbrev pub More : Type 0
More = (rows : List SystemRow) (at : Moment) (jobs : List JobHead) (job : JobHead) (dues : List Due) → AreInOrder (jobs ++ job ∷ []) → AreDue rows jobs at dues
    → AreDue rows (jobs ++ job ∷ []) at (cond (may_go rows at job && not (is_listed dues job.system)) (dues ++ due_of job ∷ []) dues)

module _ {X : Type 0} (limit : X → List ℕ → Option ℕ) (dues : X → List Due) where
  abbrev pub Walked : X → Row → X → Type 0
  Walked old row new = TakesRow (limit old) (dues old) row (limit new) (dues new)

  pub walked_on : More → (rows : List SystemRow) (at : Moment) (seen rest : List JobHead) (before after : X) → AreInOrder (seen ++ rest) → Took Walked before (map (λ j. due_cells (due_of j)) rest) after
      → IsLeft (may_be_called rows at) (limit before) (dues before) → AreDue rows seen at (dues before) → AreDue rows (seen ++ rest) at (dues after)
  walked_on more rows at seen [] before after order h free due = subst (λ l. AreDue rows l at (dues after)) (sym (append-nil seen)) (subst (λ x. AreDue rows seen at (dues x)) h due)
  walked_on more rows at seen (j ∷ rest) before after order h free due =
      let one = h.1 (may_be_called rows at) (due_of j) refl free in
      let placed : AreInOrder ((seen ++ j ∷ []) ++ rest) = subst AreInOrder (sym (append_assoc seen (j ∷ []) rest)) order in
      let next : AreDue rows (seen ++ j ∷ []) at (dues h.0) = subst (AreDue rows (seen ++ j ∷ []) at) (sym one.1) (more rows at seen j (dues before) (in_front (seen ++ j ∷ []) rest placed) due) in
      subst (λ l. AreDue rows l at (dues after)) (append_assoc seen (j ∷ []) rest) (walked_on more rows at (seen ++ j ∷ []) rest h.0 after placed h.2 one.0 next)

-- ---- the jobs by grade and number

abbrev by_grade : List JobHead → List JobHead
by_grade = sort_by by_rank

grades_total : IsTotalOrder (λ (a b : JobHead). nat_cmp a.grade b.grade)
grades_total = record { antisymm = λ x y. nat_cmp_total.antisymm x.grade y.grade; trans = λ x y z. nat_cmp_total.trans x.grade y.grade z.grade; congr = λ x y z. nat_cmp_total.congr x.grade y.grade z.grade }

numbers_total : IsTotalOrder (λ (a b : JobHead). nat_cmp a.number b.number)
numbers_total = record { antisymm = λ x y. nat_cmp_total.antisymm x.number y.number; trans = λ x y z. nat_cmp_total.trans x.number y.number z.number; congr = λ x y z. nat_cmp_total.congr x.number y.number z.number }

ranks_total : IsTotalOrder by_rank
ranks_total = then_total grades_total numbers_total

all_inserted : (P : JobHead → Type 0) (new : JobHead) (xs : List JobHead) → P new → AllByRecursion P xs → AllByRecursion P (insert_sorted by_rank new xs)
all_inserted P new [] h all = (h, tt)
all_inserted P new (x ∷ xs) h all =
    elim (is_gt (by_rank new x)) as (λ b. AllByRecursion P (cond b (x ∷ insert_sorted by_rank new xs) (new ∷ x ∷ xs))) [ true ↦ (all.0, all_inserted P new xs h all.1) | false ↦ (h, all) ]

all_sorted : (P : JobHead → Type 0) (xs : List JobHead) → AllByRecursion P xs → AllByRecursion P (by_grade xs)
all_sorted P [] all = tt
all_sorted P (x ∷ xs) all = all_inserted P x (by_grade xs) all.0 (all_sorted P xs all.1)

rises_sorted : (xs : List JobHead) → IsAscending (λ a b. is_eq (by_rank a b) ≡ false) xs → IsAscending (λ a b. by_rank a b ≡ Less) (by_grade xs)
rises_sorted [] apart = tt
rises_sorted (x ∷ xs) apart = rises_insert_sorted by_rank ranks_total x (by_grade xs) (all_sorted _ xs apart.0) (rises_sorted xs apart.1)

before_is : (a b : JobHead) → by_rank a b ≡ Less → goes_before a b ≡ true
before_is a b h = go (nat_cmp a.grade b.grade) (ranked a.grade b.grade _ refl) (nat_cmp a.number b.number) (ranked a.number b.number _ refl) h
  where
    go : (o : Ordering) → MatchOrdering o (a.grade < b.grade) (a.grade ≡ b.grade) (b.grade < a.grade) → (n : Ordering) → MatchOrdering n (a.number < b.number) (a.number ≡ b.number) (b.number < a.number) → ordering_then o n ≡ Less → goes_before a b ≡ true
    go Less k n l e = grind (arith, nat_tests, k)
    go Equal k Less l e = grind (arith, nat_tests, k, l)
    go Equal k Equal l e = absurd (cc)
    go Equal k Greater l e = absurd (cc)
    go Greater k n l e = absurd (cc)

all_places : {X : Type 0} (P : X → Type 0) (xs : List X) → AllByRecursion P xs → All P xs
all_places P [] h i d within = absurd (omega (arith, within))
all_places P (x ∷ xs) h zero d within = h.0
all_places P (x ∷ xs) h (suc i) d within = all_places P xs h.1 i d (omega (arith, within))

pairs_of : {X : Type 0} (R : X → X → Type 0) (xs : List X) → IsAscending R xs → AllPairs R xs
pairs_of R [] h = λ i j d below within. absurd (omega (arith, within))
pairs_of R (x ∷ xs) h = AllPairs-cons R x xs (all_places (R x) xs h.0) (pairs_of R xs h.1)

pub in_order : (s : State) → IsWellFormed s → AreInOrder (by_grade (map head_of s.jobs))
in_order s good =
    pairs_of (λ a b. goes_before a b ≡ true) _ (ascending_weaker _ (λ a b. goes_before a b ≡ true) before_is _
    (rises_sorted (map head_of s.jobs) (ascending_weaker _ (λ a b. is_eq (by_rank a b) ≡ false) apart _ (numbers_rise s good))))

-- and those of them that fit
pub fitting_in_order : (wanted : Filter) (s : State) → IsWellFormed s → AreInOrder (listed_jobs wanted s)
fitting_in_order wanted s good =
    pairs_of (λ a b. goes_before a b ≡ true) _ (ascending_weaker _ (λ a b. goes_before a b ≡ true) before_is _
    (rises_sorted (filter (fits wanted) (map head_of s.jobs))
    (ascending-filter _ (fits wanted) _ (ascending_weaker _ (λ a b. is_eq (by_rank a b) ≡ false) apart _ (numbers_rise s good)))))

pub fitting_same : (wanted : Filter) (s : State) → IsPermutation (filter (fits wanted) (map head_of s.jobs)) (listed_jobs wanted s)
fitting_same wanted s = IsPermutation-sym _ _ (IsPermutation-sort_by by_rank ranks_total (filter (fits wanted) (map head_of s.jobs)))

pub due_rows : (old new : db.State) (s : State) (rows : List Row) → IsStateOf s old → db.Shown due_jobs_text [] old new rows → rows ≡ map (λ j. due_cells (due_of j)) (by_grade (map head_of s.jobs))
due_rows old new s rows of h =
    let a = answer_of spool_schema due_jobs_text _ _ [] old new due_jobs_means of.stands.schema rows h in
    typed_sorted jobs.tree [] (at_places (2 ∷ 3 ∷ 0 ∷ [])) (by_places (3 ∷ 0 ∷ [])) old.now.trees [] rows refl a (columns job_places) numbered (λ r. refl) (λ r. refl) job_cells (map head_of s.jobs) of.holds.jobs.same
    (λ j. true) (λ j. refl)
    by_rank (λ x y. then_key (value_cmp-Int (pos x.grade) (pos y.grade) ∙ int_cmp-pos x.grade y.grade) (last_key (value_cmp-Int (pos x.number) (pos y.number) ∙ int_cmp-pos x.number y.number)))
    (ascending_weaker _ (λ x y. is_eq (by_rank x y) ≡ false) apart _ (ascending-filter _ (λ j. true) _ (numbers_rise s of.good)))
    ∙ ap (λ l. map (λ j. due_cells (due_of j)) (by_grade l)) (filter_all (map head_of s.jobs))

module _ {X : Type 0} (limit : X → List ℕ → Option ℕ) (dues : X → List Due)
    (none : (rows : List SystemRow) (at : Moment) → AreDue rows [] at [])
    (more : More)
    (any_order : (rows : List SystemRow) (at : Moment) (jobs ordered : List JobHead) (dues : List Due) → IsPermutation jobs ordered → AreDue rows ordered at dues → AreDue rows jobs at dues) where
  pub are_due : (old new : db.State) (s : State) (shown : List Row) (before after : X) → IsStateOf s old → db.Shown due_jobs_text [] old new shown → Took (Walked limit dues) before shown after → dues before ≡ []
      → (rows : List SystemRow) (at : Moment) → ((name : List ℕ) (grade : ℕ) → is_within (limit before name) grade ≡ may_be_called rows at name grade) → AreDue rows (map head_of s.jobs) at (dues after)
  are_due old new s shown before after of h took start rows at callable =
      let heads = map head_of s.jobs in
      let ordered = by_grade heads in
      let left : IsLeft (may_be_called rows at) (limit before) (dues before) = λ name grade. callable name grade ∙ sym (and-true (may_be_called rows at name grade)) ∙ ap (λ l. may_be_called rows at name grade && not (is_listed l name)) (sym start) in
      let went = subst (λ rs. Took (Walked limit dues) before rs after) (due_rows old new s shown of h) took in
      any_order rows at heads ordered (dues after) (IsPermutation-sym _ _ (IsPermutation-sort_by by_rank ranks_total heads))
      (walked_on limit dues more rows at [] ordered before after (in_order s of.good) went left (subst (AreDue rows [] at) (sym start) (none rows at)))
