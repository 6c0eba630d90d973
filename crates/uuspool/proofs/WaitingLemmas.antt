-- The jobs that wait for a system, as they are found among those that are listed.
use Rattle.std.proofs.Common.{◌≡◌, ◌∙◌, ℕ, zero, suc, ◌<◌, get_or, ◌==◌, min, Bool, true, false, true≢false, cond, ◌&&◌, ◌||◌, List, [], ◌∷◌, map, filter, find, All, AllPairs, IsPermutation, Option, Some, None, option_map, unwrap_or, ap, arith, refl, subst}
use Rattle.std.specs.Prelude.{nat_le}
use Rattle.std.specs.List.{fold, list_any}
use Rattle.std.specs.Ordering.{is_gt}
use Rattle.std.specs.declared.cmp.Ordering.{Ordering}
use Rattle.std.proofs.lemmas.Bool.Decides.{nat_tests}
use Rattle.std.proofs.lemmas.List.Elements.{All-cons, All-filter, All-head, All-nil, All-tail, filter_agree}
use Rattle.std.proofs.lemmas.List.Kept.{AllPairs-filter}
use Rattle.std.proofs.lemmas.List.Sorted.{All-permutation, IsPermutation-cons, IsPermutation-middle, IsPermutation-refl, IsPermutation-sym, IsPermutation-trans}
use Rattle.std.proofs.lemmas.Bool.{eq-eqb}
use Rattle.std.proofs.Math.Bool.{and_comm}
use Rattle.uu_names.proofs.Basics.{filter_all, find_same, lt-eqb, find-map}
use Rattle.sqlite_keyed.specs.Lists.{insert_sorted, sort_by}
use Rattle.sqlite_keyed.proofs.ListLemmas.{filter-map}
use Rattle.sqlite_keyed.proofs.SortLemmas.{sort_by-map}
use Rattle.uu_handover.specs.Bundles.{Told, below_of, is_behind, is_up_to, jobs_to, named_job}
use Rattle.uu_handover.specs.Custody.{parcel_of}
use Rattle.uu_core.specs.Due.{AreInOrder, goes_before}
use Rattle.uu_core.specs.State.{IsWellFormed, Job, State, head_of, is_job, job_at, same_text}
use Rattle.uu_core.specs.declared.filter.Filter.{Filter}
use Rattle.uu_core.specs.declared.job.JobHead.{JobHead}
use Rattle.uu_questions.specs.Listing.{by_rank, fits, listed_jobs}
use Rattle.uu_request.specs.declared.request.Packing.{Packing}
use Rattle.uuspool.specs.Bundles.{AreToGo, AreToGoUnless, mark_for}
use Rattle.uuspool.specs.Internal.Asked.{is_job_told}
use Rattle.uuspool.specs.Internal.Choice.{heads_to_go, is_head_behind, is_to_go, named_head}

-- ---- lists that are sorted, and then filtered

module _ {X : Type 0} (cmp : X → X → Ordering) (p : X → Bool) where
  inserted_kept : (new : X) (xs : List X) → IsPermutation (filter p (insert_sorted cmp new xs)) (filter p (new ∷ xs))
  inserted_kept new [] = IsPermutation-refl (filter p (new ∷ []))
  inserted_kept new (x ∷ xs) =
      elim (is_gt (cmp new x)) as (λ b. IsPermutation (filter p (cond b (x ∷ insert_sorted cmp new xs) (new ∷ x ∷ xs))) (filter p (new ∷ x ∷ xs))) [
        | true ↦ behind (p x) (p new) (inserted_kept new xs)
        | false ↦ IsPermutation-refl (filter p (new ∷ x ∷ xs))
      ]
    where
      behind : (kept added : Bool) → IsPermutation (filter p (insert_sorted cmp new xs)) (cond added (new ∷ filter p xs) (filter p xs))
          → IsPermutation (cond kept (x ∷ filter p (insert_sorted cmp new xs)) (filter p (insert_sorted cmp new xs)))
          (cond added (new ∷ cond kept (x ∷ filter p xs) (filter p xs)) (cond kept (x ∷ filter p xs) (filter p xs)))
      behind false added same = same
      behind true false same = IsPermutation-cons x _ _ same
      behind true true same = IsPermutation-trans _ _ _ (IsPermutation-cons x _ _ same) (IsPermutation-middle (x ∷ []) new (filter p xs))

  sorted_kept : (xs : List X) → IsPermutation (filter p (sort_by cmp xs)) (filter p xs)
  sorted_kept [] = IsPermutation-refl []
  sorted_kept (x ∷ xs) = IsPermutation-trans _ _ _ (inserted_kept x (sort_by cmp xs)) (with_first (p x) (sorted_kept xs))
    where
      with_first : (kept : Bool) → IsPermutation (filter p (sort_by cmp xs)) (filter p xs)
          → IsPermutation (cond kept (x ∷ filter p (sort_by cmp xs)) (filter p (sort_by cmp xs))) (cond kept (x ∷ filter p xs) (filter p xs))
      with_first true same = IsPermutation-cons x _ _ same
      with_first false same = same

all_sorted : {X : Type 0} (cmp : X → X → Ordering) (xs : List X) → IsPermutation (sort_by cmp xs) xs
all_sorted cmp xs =
    subst (λ l. IsPermutation (sort_by cmp xs) l) (filter_all xs)
    (subst (λ l. IsPermutation l (filter (λ x. true) xs)) (filter_all (sort_by cmp xs))
    (sorted_kept cmp (λ x. true) xs))

-- ---- the least number of a list

module _ {X : Type 0} (n : X → ℕ) where
  abbrev least : ℕ → List X → ℕ
  least most xs = fold min most (map n xs)

  swapped : (a b c : ℕ) → min (min a b) c ≡ min (min a c) b
  swapped a b c = omega arith

  least_inserted : (cmp : X → X → Ordering) (most : ℕ) (new : X) (xs : List X) → least most (insert_sorted cmp new xs) ≡ least most (new ∷ xs)
  least_inserted cmp most new [] = refl
  least_inserted cmp most new (x ∷ xs) =
      elim (is_gt (cmp new x)) as (λ b. least most (cond b (x ∷ insert_sorted cmp new xs) (new ∷ x ∷ xs)) ≡ least most (new ∷ x ∷ xs)) [
        | true ↦ least_inserted cmp (min most (n x)) new xs ∙ ap (λ m. least m xs) (swapped most (n x) (n new))
        | false ↦ refl
      ]

  pub least_sorted : (cmp : X → X → Ordering) (most : ℕ) (xs : List X) → least most (sort_by cmp xs) ≡ least most xs
  least_sorted cmp most [] = refl
  least_sorted cmp most (x ∷ xs) = least_inserted cmp most x (sort_by cmp xs) ∙ least_sorted cmp (min most (n x)) xs

  none_less : (most : ℕ) (xs : List X) → All (λ x. most < n x) xs → least most xs ≡ most
  none_less most [] all = refl
  none_less most (x ∷ xs) all =
      let first : min most (n x) ≡ most = omega (arith, All-head (λ x. most < n x) x xs all) in
      ap (λ m. least m xs) first ∙ none_less most xs (All-tail (λ x. most < n x) x xs all)

  -- of those that rise, and are less than this one, it is the first
  pub least_is_first : (p : X → Bool) (most : ℕ) (xs : List X) → AllPairs (λ a b. n a < n b) xs → All (λ x. n x < most) xs
      → least most (filter p xs) ≡ unwrap_or (option_map n (find p xs)) most
  least_is_first p most [] rise all = refl
  least_is_first p most (x ∷ xs) rise all =
      elim (p x) as (λ b. least most (cond b (x ∷ filter p xs) (filter p xs)) ≡ unwrap_or (option_map n (cond b (Some x) (find p xs))) most) [
        | true ↦ ap (λ m. least m (filter p xs)) less ∙ none_less (n x) (filter p xs) (All-filter p (λ y. n x < n y) xs behind)
        | false ↦ least_is_first p most xs later (All-tail (λ y. n y < most) x xs all)
      ]
    where
      less : min most (n x) ≡ n x
      less = omega (arith, All-head (λ y. n y < most) x xs all)

      behind : All (λ y. n x < n y) xs
      behind = λ k d within. rise zero (suc k) d (omega arith) (omega (arith, within))

      later : AllPairs (λ a b. n a < n b) xs
      later = λ i j d below within. rise (suc i) (suc j) d (omega (arith, below)) (omega (arith, within))

-- ---- jobs by their numbers

-- of jobs whose numbers rise each is found by its own
pub all_found : (jobs : List Job) → AllPairs (λ a b. a.number < b.number) jobs → All (λ job. find (is_job job.number) jobs ≡ Some job) jobs
all_found [] rise = All-nil (λ (job : Job). find (is_job job.number) [] ≡ Some job)
all_found (first ∷ jobs) rise =
    All-cons (λ (job : Job). find (is_job job.number) (first ∷ jobs) ≡ Some job) first jobs
    (itself first.number (find (is_job first.number) jobs))
    (λ k d within.
    let job = get_or jobs k d in
    other first.number job.number (find (is_job job.number) jobs) (Some job) (rise zero (suc k) d (omega arith) (omega (arith, within)))
    (all_found jobs (λ i j d below inside. rise (suc i) (suc j) d (omega (arith, below)) (omega (arith, inside))) k d within))
  where
    itself : (number : ℕ) (rest : Option Job) → cond (number == number) (Some first) rest ≡ Some first
    itself number rest = ap (λ b. cond b (Some first) rest) (eq-eqb number number refl)

    other : (one number : ℕ) (rest found : Option Job) → one < number → rest ≡ found → cond (one == number) (Some first) rest ≡ found
    other one number rest found less is = ap (λ b. cond b (Some first) rest) (lt-eqb one number less) ∙ is

-- ---- one of a number, in a list that is sorted

module _ {X : Type 0} (p : X → Bool) where
  find_kept : (q : X → Bool) (xs : List X) → find p (filter q xs) ≡ find (λ x. q x && p x) xs
  find_kept q [] = refl
  find_kept q (x ∷ xs) =
      elim (q x) as (λ b. find p (cond b (x ∷ filter q xs) (filter q xs)) ≡ cond (b && p x) (Some x) (find (λ y. q y && p y) xs)) [
        | true ↦ ap (λ rest. cond (p x) (Some x) rest) (find_kept q xs)
        | false ↦ find_kept q xs
      ]

  module _ (cmp : X → X → Ordering) where
    found_inserted : (new : X) (xs : List X) → All (λ x. p new ≡ true → p x ≡ false) xs → find p (insert_sorted cmp new xs) ≡ find p (new ∷ xs)
    found_inserted new [] none = refl
    found_inserted new (x ∷ xs) none =
        elim (is_gt (cmp new x)) as (λ b. find p (cond b (x ∷ insert_sorted cmp new xs) (new ∷ x ∷ xs)) ≡ find p (new ∷ x ∷ xs)) [
          | true ↦
              ap (λ rest. cond (p x) (Some x) rest) (found_inserted new xs (All-tail (λ y. p new ≡ true → p y ≡ false) x xs none))
              ∙ swapped_tests (p x) (p new) (Some x) (Some new) (find p xs) (All-head (λ y. p new ≡ true → p y ≡ false) x xs none)
          | false ↦ refl
        ]
      where
        swapped_tests : (a b : Bool) (one other rest : Option X) → (b ≡ true → a ≡ false) → cond a one (cond b other rest) ≡ cond b other (cond a one rest)
        swapped_tests true true one other rest apart = absurd (true≢false (apart refl))
        swapped_tests true false one other rest apart = refl
        swapped_tests false true one other rest apart = refl
        swapped_tests false false one other rest apart = refl

    found_sorted : (xs : List X) → AllPairs (λ a b. p a ≡ true → p b ≡ false) xs → find p (sort_by cmp xs) ≡ find p xs
    found_sorted [] apart = refl
    found_sorted (x ∷ xs) apart =
        found_inserted x (sort_by cmp xs)
        (All-permutation (λ y. p x ≡ true → p y ≡ false) xs (sort_by cmp xs) (IsPermutation-sym _ _ (all_sorted cmp xs)) (λ k d within. apart zero (suc k) d (omega arith) (omega (arith, within))))
        ∙ ap (λ rest. cond (p x) (Some x) rest) (found_sorted xs (λ i j d below within. apart (suc i) (suc j) d (omega (arith, below)) (omega (arith, within))))

-- ---- the jobs that wait

abbrev pub all_for : List ℕ → Filter
all_for system = record { system = Some system; user = None }

abbrev waits : List ℕ → Job → Bool
waits system job = fits (all_for system) (head_of job)

abbrev by_heads : Job → Job → Ordering
by_heads a b = by_rank (head_of a) (head_of b)

abbrev sorted_jobs : List ℕ → State → List Job
sorted_jobs system s = sort_by by_heads (filter (waits system) s.jobs)

-- the job goes into a bundle, if there is room
abbrev goes : Packing → ℕ → State → Job → Bool
goes it lowest s job = is_to_go lowest (named_head it.after (listed_jobs (all_for it.system) s)) (head_of job)

abbrev waiting_jobs : Packing → ℕ → State → List Job
waiting_jobs it lowest s = filter (goes it lowest s) (sorted_jobs it.system s)

-- those that go into it
abbrev pub jobs_to_go : Packing → ℕ → State → List Job
jobs_to_go it lowest s = cond it.no_jobs [] (waiting_jobs it lowest s)

waits_is : (system : List ℕ) (job : Job) → waits system job ≡ same_text job.system system
waits_is system job = elim (same_text job.system system) as (λ b. (b && true) ≡ b) [ true ↦ refl | false ↦ refl ]

numbers_of : (jobs : List Job) → map (λ (head : JobHead). head.number) (map head_of jobs) ≡ map (λ (job : Job). job.number) jobs
numbers_of [] = refl
numbers_of (job ∷ jobs) = ap (λ ns. job.number ∷ ns) (numbers_of jobs)

heads_are : (system : List ℕ) (s : State) → listed_jobs (all_for system) s ≡ map head_of (sorted_jobs system s)
heads_are system s = ap (sort_by by_rank) (filter-map (fits (all_for system)) head_of s.jobs) ∙ sort_by-map by_rank head_of (filter (waits system) s.jobs)

module _ (it : Packing) (lowest : ℕ) (s : State) where
  kept_heads : filter (is_to_go lowest (named_head it.after (listed_jobs (all_for it.system) s))) (listed_jobs (all_for it.system) s) ≡ map head_of (waiting_jobs it lowest s)
  kept_heads =
      ap (filter (is_to_go lowest (named_head it.after (listed_jobs (all_for it.system) s)))) (heads_are it.system s)
      ∙ filter-map (is_to_go lowest (named_head it.after (listed_jobs (all_for it.system) s))) head_of (sorted_jobs it.system s)

  -- their numbers are those of the heads
  pub numbers_are : map (λ (head : JobHead). head.number) (heads_to_go it lowest (listed_jobs (all_for it.system) s)) ≡ map (λ (job : Job). job.number) (jobs_to_go it lowest s)
  numbers_are =
      elim it.no_jobs as (λ b. map (λ (head : JobHead). head.number) (cond b [] (filter (is_to_go lowest (named_head it.after (listed_jobs (all_for it.system) s))) (listed_jobs (all_for it.system) s)))
      ≡ map (λ (job : Job). job.number) (cond b [] (waiting_jobs it lowest s))) [
        | true ↦ refl
        | false ↦ ap (map (λ (head : JobHead). head.number)) kept_heads ∙ numbers_of (waiting_jobs it lowest s)
      ]

  -- the job that is named, and its head
  named_is : IsWellFormed s → (after : Option ℕ) → named_head after (listed_jobs (all_for it.system) s) ≡ option_map head_of (named_job it.system after s)
  named_is good None = refl
  named_is good (Some number) =
      ap (find (λ (head : JobHead). head.number == number)) (heads_are it.system s)
      ∙ find-map (λ (head : JobHead). head.number == number) head_of (sorted_jobs it.system s)
      ∙ ap (option_map head_of)
      (found_sorted (λ (job : Job). job.number == number) by_heads (filter (waits it.system) s.jobs)
      (AllPairs-filter (λ (a b : Job). (a.number == number) ≡ true → (b.number == number) ≡ false) (waits it.system) s.jobs
      (λ i j d below within. apart (get_or s.jobs i d).number (get_or s.jobs j d).number (good.rising i j d below within)))
      ∙ find_kept (λ (job : Job). job.number == number) (waits it.system) s.jobs
      ∙ find_same (λ (job : Job). waits it.system job && job.number == number) (λ (job : Job). job.number == number && same_text job.system it.system)
      (λ job. ap (λ b. b && job.number == number) (waits_is it.system job) ∙ and_comm (same_text job.system it.system) (job.number == number)) s.jobs)
    where
      apart : (a b : ℕ) → a < b → (a == number) ≡ true → (b == number) ≡ false
      apart a b less is = grind (arith, nat_tests, less, is)

  behind_is : (named : Option Job) (job : Job) → is_head_behind (option_map head_of named) (head_of job) ≡ is_behind named job
  behind_is None job = refl
  behind_is (Some first) job = refl

  pub are_to_go : IsWellFormed s → AreInOrder (listed_jobs (all_for it.system) s) → AreToGo it lowest s (jobs_to_go it lowest s)
  are_to_go good order =
      elim it.no_jobs as (λ b. AreToGoUnless b it lowest s (cond b [] (waiting_jobs it lowest s))) [
        | true ↦ refl
        | false ↦ record {
          these =
              subst (λ jobs. IsPermutation jobs (waiting_jobs it lowest s)) chosen
              (IsPermutation-sym _ _ (sorted_kept by_heads (goes it lowest s) (filter (waits it.system) s.jobs)));
          in_order = subst AreInOrder kept_heads (AllPairs-filter (λ a b. goes_before a b ≡ true) (is_to_go lowest (named_head it.after (listed_jobs (all_for it.system) s))) (listed_jobs (all_for it.system) s) order);
        }
      ]
    where
      chosen : filter (goes it lowest s) (filter (waits it.system) s.jobs) ≡ jobs_to it.system (Some lowest) it.after s
      chosen =
          filter_agree (goes it lowest s) (λ (job : Job). is_up_to (Some lowest) job.grade && is_behind (named_job it.system it.after s) job)
          (λ job. ap (λ named. nat_le job.grade lowest && is_head_behind named (head_of job)) (named_is good it.after) ∙ ap (λ b. nat_le job.grade lowest && b) (behind_is (named_job it.system it.after s) job))
          (filter (waits it.system) s.jobs)
          ∙ ap (filter (λ (job : Job). is_up_to (Some lowest) job.grade && is_behind (named_job it.system it.after s) job))
          (filter_agree (waits it.system) (λ (job : Job). same_text job.system it.system) (waits_is it.system) s.jobs)

  -- each is there under its number
  pub are_there : IsWellFormed s → All (λ job. job_at s job.number ≡ Some job) (jobs_to_go it lowest s)
  are_there good =
      elim it.no_jobs as (λ b. All (λ (job : Job). job_at s job.number ≡ Some job) (cond b [] (waiting_jobs it lowest s))) [
        | true ↦ All-nil (λ (job : Job). job_at s job.number ≡ Some job)
        | false ↦
            let P : Job → Type 0 = λ job. job_at s job.number ≡ Some job in
            All-filter (goes it lowest s) P (sorted_jobs it.system s)
            (All-permutation P (filter (waits it.system) s.jobs) (sorted_jobs it.system s)
            (IsPermutation-sym _ _ (all_sorted by_heads (filter (waits it.system) s.jobs)))
            (All-filter (waits it.system) P s.jobs (all_found s.jobs good.rising)))
      ]

  -- and the least number is that of the first of them
  pub below_is : IsWellFormed s → fold min s.next (map (λ (head : JobHead). head.number) (listed_jobs (all_for it.system) s)) ≡ below_of it.system s
  below_is good =
      ap (λ heads. fold min s.next (map (λ (head : JobHead). head.number) heads)) (heads_are it.system s)
      ∙ ap (fold min s.next) (numbers_of (sorted_jobs it.system s))
      ∙ least_sorted (λ (job : Job). job.number) by_heads s.next (filter (waits it.system) s.jobs)
      ∙ ap (λ jobs. fold min s.next (map (λ (job : Job). job.number) jobs)) (filter_agree (waits it.system) (λ (job : Job). same_text job.system it.system) (waits_is it.system) s.jobs)
      ∙ least_is_first (λ (job : Job). job.number) (λ (job : Job). same_text job.system it.system) s.next s.jobs good.rising good.below_next

-- ---- what is settled

-- among jobs whose numbers rise, the one of a number settles what the bundle says about it
module _ (from to spool : List ℕ) (told : Told) where
  abbrev pub test : Job → Bool
  test job = same_text job.system to && job.number == told.number && mark_for from to spool (parcel_of job) == told.mark

  no_later : (jobs : List Job) → All (λ job. told.number < job.number) jobs → list_any test jobs ≡ false
  no_later [] all = refl
  no_later (job ∷ jobs) all =
      let less = All-head (λ (other : Job). told.number < other.number) job jobs all in
      none (same_text job.system to) (job.number == told.number) (mark_for from to spool (parcel_of job) == told.mark) (differ job.number less)
      (no_later jobs (All-tail (λ (other : Job). told.number < other.number) job jobs all))
    where
      differ : (number : ℕ) → told.number < number → (number == told.number) ≡ false
      differ number less = grind (arith, nat_tests, less)

      none : (a b c : Bool) {rest : Bool} → b ≡ false → rest ≡ false → (a && b && c) || rest ≡ false
      none true b c is same = rw (is, same) refl
      none false b c is same = same

  pub settled_by_number : (jobs : List Job) → AllPairs (λ a b. a.number < b.number) jobs
      → list_any test jobs ≡ is_job_told from to spool told.mark (find (is_job told.number) jobs)
  settled_by_number [] rise = refl
  settled_by_number (job ∷ jobs) rise =
      go (job.number == told.number) refl (settled_by_number jobs (λ i j d below within. rise (suc i) (suc j) d (omega (arith, below)) (omega (arith, within))))
    where
      plain : (a c : Bool) → (a && true && c) || false ≡ a && c
      plain true true = refl
      plain true false = refl
      plain false c = refl

      other : (a c : Bool) → (a && false && c) || list_any test jobs ≡ list_any test jobs
      other true c = refl
      other false c = refl

      go : (is : Bool) → (job.number == told.number) ≡ is → list_any test jobs ≡ is_job_told from to spool told.mark (find (is_job told.number) jobs)
          → (same_text job.system to && is && mark_for from to spool (parcel_of job) == told.mark) || list_any test jobs
          ≡ is_job_told from to spool told.mark (cond is (Some job) (find (is_job told.number) jobs))
      go true same later =
          let equal : job.number ≡ told.number = grind (arith, nat_tests, same) in
          ap (λ rest. (same_text job.system to && true && mark_for from to spool (parcel_of job) == told.mark) || rest)
          (no_later jobs (λ k d within. subst (λ n. n < (get_or jobs k d).number) equal (rise zero (suc k) d (omega arith) (omega (arith, within)))))
          ∙ plain (same_text job.system to) (mark_for from to spool (parcel_of job) == told.mark)
      go false same later = other (same_text job.system to) (mark_for from to spool (parcel_of job) == told.mark) ∙ later
