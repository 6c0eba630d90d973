-- The walk along the jobs in order, step by step, and what it lists.
use Rattle.std.proofs.Common.{◌≡◌, IsPermutation, All, Bor, nat_cmp, ℕ, zero, suc, ◌-◌, ◌+◌, ◌<◌, ◌≤◌, Bool, true, false, not, cond, leb, ◌&&◌, ◌||◌, max, List, [], ◌∷◌, ◌++◌, length, take, drop, map, filter, get_or, Contains, AllPairs, Option, Some, None, refl, ap, sym, ◌∙◌, subst, arith, append_assoc, nat_eq}
use Rattle.std.specs.List.{list_any, list_all, IsDistinct}
use Rattle.std.proofs.lemmas.Map.Keys.{apart_from_distinct, IsDistinct-IsPermutation}
use Rattle.std.proofs.lemmas.List.Kept.{AllPairs-filter}
use Rattle.std.proofs.lemmas.List.Elements.{All-head, All-tail, All-contains, Contains-append_right}
use Rattle.std.specs.Ordering.{is_lt, ordering_then}
use Rattle.std.proofs.lemmas.Bool.Decides.{nat_tests}
use Rattle.std.proofs.lemmas.List.{take_more, drop_more, length-map, append-nil, get_or-map}
use Rattle.std.proofs.lemmas.List.Sorted.{IsPermutation-sym, IsPermutation-map, Contains-permutation, list_any-IsPermutation}
use Rattle.std.proofs.Math.Bool.{and-true, or-false, or_assoc}
use Rattle.std.proofs.lemmas.Cmp.{nat_eq_equiv}
use Rattle.uu_names.proofs.Basics.{first_of, in_filter, from_filter, in_map, from_map, and_first, pairs_first, pairs_rest, any_push, text_from}
use Rattle.uu_times.specs.declared.moment.Moment.{Moment}
use Rattle.uu_core.specs.declared.job.JobHead.{JobHead}
use Rattle.uu_core.specs.declared.system.SystemRow.{SystemRow}
use Rattle.uu_core.specs.declared.due.Due.{Due}
use Rattle.uu_core.specs.State.{same_text, is_system}
use Rattle.uu_core.specs.Due.{limit_now, is_within, may_be_called, may_go, goes_before, is_due, due_of, ComesFirst, AreDue, HaveNumbers, is_listed, AreInOrder}

-- ---- the walk

-- it lists a job whose system may be called for it and for none of the jobs seen before it
abbrev pub is_next : List SystemRow → Moment → List JobHead → JobHead → Bool
is_next rows at seen job = may_go rows at job && not (list_any (λ other. same_text other.system job.system && may_go rows at other) seen)

abbrev pub walk_after : List SystemRow → Moment → List JobHead → List JobHead → List Due
walk_after rows at seen [] = []
walk_after rows at seen (job ∷ jobs) =
    cond (is_next rows at seen job) (due_of job ∷ walk_after rows at (seen ++ job ∷ []) jobs) (walk_after rows at (seen ++ job ∷ []) jobs)

abbrev pub walk : List SystemRow → List JobHead → Moment → List Due
walk rows jobs at = walk_after rows at [] jobs

-- what is listed after one more job
abbrev pub with_next : List SystemRow → Moment → List Due → JobHead → List Due
with_next rows at dues job = cond (may_go rows at job && not (is_listed dues job.system)) (dues ++ due_of job ∷ []) dues

-- ---- limits

-- the greater of a limit that is there and another one
abbrev pub with_limit : Option ℕ → ℕ → ℕ
with_limit None lowest = lowest
with_limit (Some other) lowest = max lowest other

-- a job before was one for which this system may be called
abbrev pub is_called_before : List SystemRow → Moment → List JobHead → List ℕ → Bool
is_called_before rows at seen name = list_any (λ other. same_text other.system name && may_go rows at other) seen

-- ---- one more system

pub limits_more : (rows : List SystemRow) (i : ℕ) (d : SystemRow) (at : Moment) (name : List ℕ) (grade : ℕ) → i < length rows → may_be_called (take (i + 1) rows) at name grade ≡ may_be_called (take i rows) at name grade || (is_system name (get_or rows i d) && is_within (limit_now (get_or rows i d) at) grade)
limits_more rows i d at name grade h =
    ap (λ t. may_be_called t at name grade) (take_more rows i d h) ∙ any_push (λ row. is_system name row && is_within (limit_now row at) grade) (take i rows) (get_or rows i d)

-- ---- one more job

-- the system of a job that is listed is free no more
pub free_listed : (rows : List SystemRow) (at : Moment) (seen : List JobHead) (job : JobHead) (name : List ℕ) (grade : ℕ) (old new : Option ℕ) → is_within old grade ≡ (may_be_called rows at name grade && not (is_called_before rows at seen name)) → new ≡ cond (same_text job.system name) None old → may_go rows at job ≡ true → is_within new grade ≡ (may_be_called rows at name grade && not (is_called_before rows at (seen ++ job ∷ []) name))
free_listed rows at seen job name grade old new h e may =
    ap (λ o. is_within o grade) e ∙ by_same (same_text job.system name) ∙ ap (λ b. may_be_called rows at name grade && not b) (sym pushed)
  where
    pushed : is_called_before rows at (seen ++ job ∷ []) name ≡ is_called_before rows at seen name || same_text job.system name
    pushed = any_push (λ other. same_text other.system name && may_go rows at other) seen job ∙ ap (λ b. is_called_before rows at seen name || (same_text job.system name && b)) may ∙ ap (λ b. is_called_before rows at seen name || b) (and-true (same_text job.system name))

    by_same : (t : Bool) → is_within (cond t None old) grade ≡ (may_be_called rows at name grade && not (is_called_before rows at seen name || t))
    by_same true = sym (never (may_be_called rows at name grade) (is_called_before rows at seen name))
      where
        never : (a b : Bool) → a && not (b || true) ≡ false
        never true true = refl
        never true false = refl
        never false b = refl
    by_same false = h ∙ ap (λ b. may_be_called rows at name grade && not b) (sym (or-false (is_called_before rows at seen name)))

-- a job that isn't listed leaves the systems as they are
pub free_passed : (rows : List SystemRow) (at : Moment) (seen : List JobHead) (job : JobHead) (name : List ℕ) (grade : ℕ) → (may_go rows at job && not (is_called_before rows at seen job.system)) ≡ false → is_called_before rows at (seen ++ job ∷ []) name ≡ is_called_before rows at seen name
free_passed rows at seen job name grade passed =
    any_push (λ other. same_text other.system name && may_go rows at other) seen job ∙ by_same (same_text job.system name) refl
  where
    by_same : (t : Bool) → same_text job.system name ≡ t → is_called_before rows at seen name || (t && may_go rows at job) ≡ is_called_before rows at seen name
    by_same false e = or-false (is_called_before rows at seen name)
    by_same true e = absorbed (may_go rows at job) (is_called_before rows at seen name) (subst (λ (n : List ℕ). (may_go rows at job && not (is_called_before rows at seen n)) ≡ false) (text_from job.system name e) passed)
      where
        absorbed : (may before : Bool) → (may && not before) ≡ false → before || may ≡ before
        absorbed true true h = refl
        absorbed true false h = h
        absorbed false true h = refl
        absorbed false false h = refl

pub step_listed : (rows : List SystemRow) (at : Moment) (jobs : List JobHead) (i : ℕ) (d : JobHead) (dues : List Due) (whole : List Due) → i < length jobs → is_next rows at (take i jobs) (get_or jobs i d) ≡ true → dues ++ walk_after rows at (take i jobs) (drop i jobs) ≡ whole → (dues ++ due_of (get_or jobs i d) ∷ []) ++ walk_after rows at (take (i + 1) jobs) (drop (i + 1) jobs) ≡ whole
step_listed rows at jobs i d dues whole h listed e =
    append_assoc dues (due_of (get_or jobs i d) ∷ []) _ ∙ ap (λ t. dues ++ t) (sym (opened ∙ rw listed)) ∙ e
  where
    opened : walk_after rows at (take i jobs) (drop i jobs) ≡ cond (is_next rows at (take i jobs) (get_or jobs i d)) (due_of (get_or jobs i d) ∷ walk_after rows at (take (i + 1) jobs) (drop (i + 1) jobs)) (walk_after rows at (take (i + 1) jobs) (drop (i + 1) jobs))
    opened = ap (walk_after rows at (take i jobs)) (drop_more jobs i d h) ∙ ap (λ t. cond (is_next rows at (take i jobs) (get_or jobs i d)) (due_of (get_or jobs i d) ∷ walk_after rows at t (drop (i + 1) jobs)) (walk_after rows at t (drop (i + 1) jobs))) (sym (take_more jobs i d h))

pub step_passed : (rows : List SystemRow) (at : Moment) (jobs : List JobHead) (i : ℕ) (d : JobHead) (dues : List Due) (whole : List Due) → i < length jobs → is_next rows at (take i jobs) (get_or jobs i d) ≡ false → dues ++ walk_after rows at (take i jobs) (drop i jobs) ≡ whole → dues ++ walk_after rows at (take (i + 1) jobs) (drop (i + 1) jobs) ≡ whole
step_passed rows at jobs i d dues whole h passed e =
    ap (λ t. dues ++ t) (sym (opened ∙ rw passed)) ∙ e
  where
    opened : walk_after rows at (take i jobs) (drop i jobs) ≡ cond (is_next rows at (take i jobs) (get_or jobs i d)) (due_of (get_or jobs i d) ∷ walk_after rows at (take (i + 1) jobs) (drop (i + 1) jobs)) (walk_after rows at (take (i + 1) jobs) (drop (i + 1) jobs))
    opened = ap (walk_after rows at (take i jobs)) (drop_more jobs i d h) ∙ ap (λ t. cond (is_next rows at (take i jobs) (get_or jobs i d)) (due_of (get_or jobs i d) ∷ walk_after rows at t (drop (i + 1) jobs)) (walk_after rows at t (drop (i + 1) jobs))) (sym (take_more jobs i d h))

-- ---- a walk one job at a time

walk_append : (rows : List SystemRow) (at : Moment) (seen jobs more : List JobHead) → walk_after rows at seen (jobs ++ more) ≡ walk_after rows at seen jobs ++ walk_after rows at (seen ++ jobs) more
walk_append rows at seen [] more = ap (λ (s : List JobHead). walk_after rows at s more) (sym (append-nil seen))
walk_append rows at seen (job ∷ jobs) more =
    by_next (is_next rows at seen job) (walk_append rows at (seen ++ job ∷ []) jobs more ∙ ap (λ (s : List JobHead). walk_after rows at (seen ++ job ∷ []) jobs ++ walk_after rows at s more) (append_assoc seen (job ∷ []) jobs))
  where
    whole : List Due
    whole = walk_after rows at (seen ++ job ∷ []) (jobs ++ more)

    first : List Due
    first = walk_after rows at (seen ++ job ∷ []) jobs

    by_next : (t : Bool) → whole ≡ first ++ walk_after rows at (seen ++ job ∷ jobs) more → cond t (due_of job ∷ whole) whole ≡ cond t (due_of job ∷ first) first ++ walk_after rows at (seen ++ job ∷ jobs) more
    by_next true e = ap (λ l. due_of job ∷ l) e
    by_next false e = e

-- the systems of the jobs that may go are those that are listed
listed : (rows : List SystemRow) (at : Moment) (seen jobs : List JobHead) (name : List ℕ) → is_called_before rows at (seen ++ jobs) name ≡ is_called_before rows at seen name || is_listed (walk_after rows at seen jobs) name
listed rows at seen [] name = ap (λ (s : List JobHead). is_called_before rows at s name) (append-nil seen) ∙ sym (or-false (is_called_before rows at seen name))
listed rows at seen (job ∷ jobs) name =
    ap (λ (s : List JobHead). is_called_before rows at s name) (sym (append_assoc seen (job ∷ []) jobs))
    ∙ listed rows at (seen ++ job ∷ []) jobs name
    ∙ by_next (is_next rows at seen job) refl
  where
    rest : List Due
    rest = walk_after rows at (seen ++ job ∷ []) jobs

    by_next : (t : Bool) → is_next rows at seen job ≡ t → is_called_before rows at (seen ++ job ∷ []) name || is_listed rest name ≡ is_called_before rows at seen name || is_listed (cond t (due_of job ∷ rest) rest) name
    by_next true e =
        let may : may_go rows at job ≡ true = and_first (may_go rows at job) _ e in
        ap (λ b. b || is_listed rest name) (any_push (λ other. same_text other.system name && may_go rows at other) seen job)
        ∙ ap (λ b. (is_called_before rows at seen name || (same_text job.system name && b)) || is_listed rest name) may
        ∙ ap (λ b. (is_called_before rows at seen name || b) || is_listed rest name) (and-true (same_text job.system name))
        ∙ or_assoc (is_called_before rows at seen name) (same_text job.system name) (is_listed rest name)
    by_next false e = ap (λ b. b || is_listed rest name) (free_passed rows at seen job name job.grade e)

pub walk_step : (rows : List SystemRow) (at : Moment) (jobs : List JobHead) (job : JobHead) → walk rows (jobs ++ job ∷ []) at ≡ with_next rows at (walk rows jobs at) job
walk_step rows at jobs job =
    walk_append rows at [] jobs (job ∷ [])
    ∙ ap (λ t. walk rows jobs at ++ cond t (due_of job ∷ []) []) (ap (λ b. may_go rows at job && not b) (listed rows at [] jobs job.system))
    ∙ by_next (may_go rows at job && not (is_listed (walk rows jobs at) job.system))
  where
    by_next : (t : Bool) → walk rows jobs at ++ cond t (due_of job ∷ []) [] ≡ cond t (walk rows jobs at ++ due_of job ∷ []) (walk rows jobs at)
    by_next true = refl
    by_next false = append-nil (walk rows jobs at)

-- ---- what the walk lists

pub not_itself : (a : JobHead) → goes_before a a ≡ false
not_itself a = grind (arith, nat_tests)

pub not_back : (a b : JobHead) → goes_before a b ≡ true → goes_before b a ≡ false
not_back a b h = grind (arith, nat_tests)

abbrev not_after : List SystemRow → Moment → JobHead → JobHead → Bool
not_after rows at job other = not (same_text other.system job.system && may_go rows at other && goes_before other job)

-- no job that comes later goes before
none_later : (rows : List SystemRow) (at : Moment) (job : JobHead) (later : List JobHead) → All (λ other. goes_before job other ≡ true) later → list_all (not_after rows at job) later ≡ true
none_later rows at job [] h = refl
none_later rows at job (other ∷ later) h =
    let first = not_back job other (All-head (λ o. goes_before job o ≡ true) other later h) in
    let rest = none_later rows at job later (All-tail (λ o. goes_before job o ≡ true) other later h) in
    rw (first, rest) (closed (same_text other.system job.system && may_go rows at other))
  where
    closed : (b : Bool) → not (b && false) && true ≡ true
    closed true = refl
    closed false = refl

-- the jobs before one in the order are those that go before it
is_last : (rows : List SystemRow) (at : Moment) (seen later : List JobHead) (job : JobHead) → AreInOrder (seen ++ job ∷ later) → list_all (not_after rows at job) (seen ++ job ∷ later) ≡ not (is_called_before rows at seen job.system)
is_last rows at [] later job order =
    rw (not_itself job, none_later rows at job later (pairs_first (λ a b. goes_before a b ≡ true) job later order)) (closed (same_text job.system job.system && may_go rows at job))
  where
    closed : (b : Bool) → not (b && false) && true ≡ true
    closed true = refl
    closed false = refl
is_last rows at (other ∷ seen) later job order =
    let before : goes_before other job ≡ true = All-contains (λ o. goes_before other o ≡ true) (seen ++ job ∷ later) job (pairs_first (λ a b. goes_before a b ≡ true) other (seen ++ job ∷ later) order) (Contains-append_right seen (job ∷ later) job (first_of job later)) in
    rw (before, is_last rows at seen later job (pairs_rest (λ a b. goes_before a b ≡ true) other (seen ++ job ∷ later) order)) (both (same_text other.system job.system && may_go rows at other) (is_called_before rows at seen job.system))
  where
    both : (a b : Bool) → not (a && true) && not b ≡ not (a || b)
    both true b = refl
    both false b = refl

-- so the walk lists the jobs that are due
walk_lists : (rows : List SystemRow) (at : Moment) (seen rest : List JobHead) → AreInOrder (seen ++ rest) → walk_after rows at seen rest ≡ map due_of (filter (is_due rows (seen ++ rest) at) rest)
walk_lists rows at seen [] order = refl
walk_lists rows at seen (job ∷ rest) order =
    by_next (is_next rows at seen job) (walk_lists rows at (seen ++ job ∷ []) rest (subst AreInOrder (sym (append_assoc seen (job ∷ []) rest)) order) ∙ ap (λ (all : List JobHead). map due_of (filter (is_due rows all at) rest)) (append_assoc seen (job ∷ []) rest)) ∙ ap (λ t. map due_of (cond t (job ∷ filter p rest) (filter p rest))) next_is
  where
    p : JobHead → Bool
    p = is_due rows (seen ++ job ∷ rest) at

    next_is : is_next rows at seen job ≡ p job
    next_is = ap (λ b. may_go rows at job && b) (sym (is_last rows at seen rest job order))

    by_next : (t : Bool) → walk_after rows at (seen ++ job ∷ []) rest ≡ map due_of (filter p rest) → cond t (due_of job ∷ walk_after rows at (seen ++ job ∷ []) rest) (walk_after rows at (seen ++ job ∷ []) rest) ≡ map due_of (cond t (job ∷ filter p rest) (filter p rest))
    by_next true again = ap (λ t. due_of job ∷ t) again
    by_next false again = again

-- a test of all elements is the same in another order
not_any : {X : Type 0} (p : X → Bool) (zs : List X) → list_all p zs ≡ not (list_any (λ x. not (p x)) zs)
not_any p [] = refl
not_any p (z ∷ zs) = by-test (p z) (not_any p zs)
  where
    by-test : (t : Bool) → list_all p zs ≡ not (list_any (λ x. not (p x)) zs) → t && list_all p zs ≡ not (not t || list_any (λ x. not (p x)) zs)
    by-test true e = e
    by-test false e = refl

all_permutation : {X : Type 0} (p : X → Bool) (xs ys : List X) → IsPermutation xs ys → list_all p xs ≡ list_all p ys
all_permutation p xs ys same = not_any p xs ∙ ap not (list_any-IsPermutation (λ x. not (p x)) xs ys same) ∙ sym (not_any p ys)

pub due_same : (rows : List SystemRow) (at : Moment) (jobs ordered : List JobHead) (job : JobHead) → IsPermutation jobs ordered → is_due rows jobs at job ≡ is_due rows ordered at job
due_same rows at jobs ordered job same = ap (λ b. may_go rows at job && b) (all_permutation (not_after rows at job) jobs ordered same)

pairs_map : (jobs : List JobHead) → AreInOrder jobs → AllPairs ComesFirst (map due_of jobs)
pairs_map [] order i j d below within = absurd (omega arith)
pairs_map (job ∷ jobs) order i j d below within =
    let count : length (map due_of (job ∷ jobs)) ≡ length (job ∷ jobs) = length-map (job ∷ jobs) due_of in
    let a = get_or-map due_of (job ∷ jobs) i job d (omega arith) in
    let b = get_or-map due_of (job ∷ jobs) j job d (omega arith) in
    rw (a, b) (order i j job below (omega arith))

pub walk_is_due : (rows : List SystemRow) (at : Moment) (jobs ordered : List JobHead) → IsPermutation jobs ordered → AreInOrder ordered → AreDue rows jobs at (walk rows ordered at)
walk_is_due rows at jobs ordered same order = subst (AreDue rows jobs at) (sym (walk_lists rows at [] ordered order)) (record {
  sound = λ due h. let m = from_map due_of (filter p ordered) due h in let f = from_filter p ordered m.0 m.1 in
      record { job = m.0; there = Contains-permutation ordered jobs m.0 (IsPermutation-sym jobs ordered same) f.0; first = due_same rows at jobs ordered m.0 same ∙ f.1; is = sym m.2 };
  complete = λ due h. subst (Contains (map due_of (filter p ordered))) (sym h.is)
      (in_map due_of (filter p ordered) h.job (in_filter p ordered h.job (Contains-permutation jobs ordered h.job same h.there) (sym (due_same rows at jobs ordered h.job same) ∙ h.first)));
  in_order = pairs_map (filter p ordered) (AllPairs-filter (λ a b. goes_before a b ≡ true) p ordered order);
})
  where
    p : JobHead → Bool
    p = is_due rows ordered at

-- ---- the order after a sort

goes_on : (a b c : JobHead) → goes_before a b ≡ true → goes_before b c ≡ true → goes_before a c ≡ true
goes_on a b c h k = grind (arith, nat_tests)

far : (jobs : List JobHead) → ((k : ℕ) (d : JobHead) → k + 1 < length jobs → goes_before (get_or jobs k d) (get_or jobs (k + 1) d) ≡ true) → (n i : ℕ) (d : JobHead) → i + (n + 1) < length jobs → goes_before (get_or jobs i d) (get_or jobs (i + (n + 1)) d) ≡ true
far jobs near zero i d h = near i d (omega arith)
far jobs near (suc n) i d h =
    let m : i + (suc n + 1) ≡ (i + (n + 1)) + 1 = omega arith in
    rw m (goes_on (get_or jobs i d) (get_or jobs (i + (n + 1)) d) (get_or jobs ((i + (n + 1)) + 1) d) (far jobs near n i d (omega arith)) (near (i + (n + 1)) d (omega arith)))

in_pairs : (jobs : List JobHead) → ((k : ℕ) (d : JobHead) → k + 1 < length jobs → goes_before (get_or jobs k d) (get_or jobs (k + 1) d) ≡ true) → AreInOrder jobs
in_pairs jobs near i j d below within =
    let m : j ≡ i + (j - i - 1 + 1) = omega arith in
    rw m (far jobs near (j - i - 1) i d (omega arith))

not_less : (a b : JobHead) → is_lt (ordering_then (nat_cmp b.grade a.grade) (nat_cmp b.number a.number)) ≡ false → nat_eq a.number b.number ≡ false → goes_before a b ≡ true
not_less a b h distinct = grind (arith, nat_tests)

pub order_from_sort : (items : List (Bor JobHead)) (jobs : List JobHead) → ((k : ℕ) (d : Bor JobHead) → 0 ≤ k → k + 1 < length items → is_lt (ordering_then (nat_cmp (get_or items (k + 1) d).now.grade (get_or items k d).now.grade) (nat_cmp (get_or items (k + 1) d).now.number (get_or items k d).now.number)) ≡ false) → IsPermutation jobs (map (λ job. job.now) items) → HaveNumbers jobs → AreInOrder (map (λ job. job.now) items)
order_from_sort [] jobs sorted same distinct = λ i j d below within. absurd (omega arith)
order_from_sort (item ∷ items) jobs sorted same distinct = in_pairs (map now (item ∷ items)) near
  where
    now : Bor JobHead → JobHead
    now job = job.now

    numbers : List ℕ
    numbers = map (λ (job : JobHead). job.number) (map now (item ∷ items))

    apart : IsDistinct nat_eq numbers
    apart = IsDistinct-IsPermutation nat_eq nat_eq_equiv.symm _ _ (IsPermutation-map (λ (job : JobHead). job.number) jobs (map now (item ∷ items)) same) distinct

    near : (k : ℕ) (d : JobHead) → k + 1 < length (map now (item ∷ items)) → goes_before (get_or (map now (item ∷ items)) k d) (get_or (map now (item ∷ items)) (k + 1) d) ≡ true
    near k d h =
        let count : length (map now (item ∷ items)) ≡ length (item ∷ items) = length-map (item ∷ items) now in
        let all : length numbers ≡ length (map now (item ∷ items)) = length-map (map now (item ∷ items)) (λ (job : JobHead). job.number) in
        let a = get_or-map now (item ∷ items) k item d (omega arith) in
        let b = get_or-map now (item ∷ items) (k + 1) item d (omega arith) in
        let differ = apart_from_distinct nat_eq numbers k (k + 1) 0 apart (omega arith) (omega arith) in
        let na = get_or-map (λ (job : JobHead). job.number) (map now (item ∷ items)) k d 0 (omega arith) in
        let nb = get_or-map (λ (job : JobHead). job.number) (map now (item ∷ items)) (k + 1) d 0 (omega arith) in
        let e : nat_eq (get_or (map now (item ∷ items)) k d).number (get_or (map now (item ∷ items)) (k + 1) d).number ≡ false = (λ i. nat_eq (sym na i) (sym nb i)) ∙ differ in
        let less = sorted k item (omega arith) (omega arith) in
        not_less (get_or (map now (item ∷ items)) k d) (get_or (map now (item ∷ items)) (k + 1) d) ((λ i. is_lt (ordering_then (nat_cmp (b i).grade (a i).grade) (nat_cmp (b i).number (a i).number))) ∙ less) e

-- ---- one more limit

pub lowered : (old new : Option ℕ) (lowest now : ℕ) (same : Bool) (grade : ℕ) (found : Option ℕ) → new ≡ cond same (Some now) old → (same ≡ true → found ≡ old) → now ≡ with_limit found lowest → is_within new grade ≡ (is_within old grade || (same && leb grade lowest))
lowered old new lowest now false grade found e f g = ap (λ o. is_within o grade) e ∙ sym (or-false (is_within old grade))
lowered old new lowest now true grade found e f g =
    ap (λ o. is_within o grade) e ∙ ap (λ n. leb grade n) (g ∙ ap (λ o. with_limit o lowest) (f refl)) ∙ by_old old
  where
    by_old : (o : Option ℕ) → leb grade (with_limit o lowest) ≡ (is_within o grade || leb grade lowest)
    by_old None = refl
    by_old (Some other) = grind (arith, nat_tests)

-- a system that may not be called adds nothing
pub not_more : (a b : Bool) (limit : Option ℕ) (grade : ℕ) → limit ≡ None → (a || (b && is_within limit grade)) ≡ a
not_more a b limit grade e = ap (λ o. a || (b && is_within o grade)) e ∙ closed a b
  where
    closed : (a b : Bool) → (a || (b && false)) ≡ a
    closed true b = refl
    closed false true = refl
    closed false false = refl
