-- The sums over all systems are those over all jobs.
use Rattle.std.proofs.Common.{◌≡◌, ℕ, ◌+◌, ◌<◌, Bool, true, false, cond, List, [], ◌∷◌, length, map, get_or, sum_by, All, AllPairs, Contains, refl, ap, sym, ◌∙◌, subst, arith, ◌⊎◌, inl, inr}
use Rattle.std.specs.Cmp.Lexicographic.{bytes_decides}
use Rattle.std.proofs.lemmas.List.{length-map, get_or-map}
use Rattle.std.proofs.lemmas.List.Elements.{All-head, All-tail}
use Rattle.std.proofs.lemmas.List.Sums.{sum_by-cons}
use Rattle.std.proofs.lemmas.Bool.{both_ways}
use Rattle.uu_names.proofs.Basics.{first_of, later_of, first_or_later, none_in, pairs_first, pairs_rest}
use Rattle.uu_core.specs.declared.job.JobHead.{JobHead}
use Rattle.uu_core.specs.declared.queue.Queue.{Queue}
use Rattle.uu_core.specs.State.{same_text, ComesBefore}
use Rattle.uu_core.specs.Queues.{jobs_for, AreQueues}
use Rattle.uu_core.proofs.NextCallLemmas.{not_same}

sum_same : {X : Type 0} (f g : X → ℕ) (xs : List X) → All (λ x. f x ≡ g x) xs → sum_by f xs ≡ sum_by g xs
sum_same f g [] same = refl
sum_same f g (x ∷ xs) same =
    sum_by-cons f x xs ∙ (λ i. All-head (λ y. f y ≡ g y) x xs same i + sum_same f g xs (All-tail (λ y. f y ≡ g y) x xs same) i) ∙ sym (sum_by-cons g x xs)

sum_mapped : {X Y : Type 0} (f : Y → ℕ) (h : X → Y) (xs : List X) → sum_by f (map h xs) ≡ sum_by (λ x. f (h x)) xs
sum_mapped f h [] = refl
sum_mapped f h (x ∷ xs) = sum_by-cons f (h x) (map h xs) ∙ ap (λ n. f (h x) + n) (sum_mapped f h xs) ∙ sym (sum_by-cons (λ y. f (h y)) x xs)

sum_none : {X : Type 0} (xs : List X) → sum_by (λ x. 0) xs ≡ 0
sum_none [] = refl
sum_none {X} (x ∷ xs) = sum_by-cons (λ (y : X). 0) x xs ∙ (let rest = sum_none xs in omega (arith, rest))

sum_both : {X : Type 0} (f g : X → ℕ) (xs : List X) → sum_by (λ x. f x + g x) xs ≡ sum_by f xs + sum_by g xs
sum_both f g [] = refl
sum_both f g (x ∷ xs) =
    let rest = sum_both f g xs in
    sum_by-cons (λ y. f y + g y) x xs ∙ (let here = sum_by-cons f x xs in let there = sum_by-cons g x xs in omega (arith, rest, here, there))

-- of names that differ, one is that of a text
abbrev counted : List ℕ → ℕ → List ℕ → ℕ
counted text value name = cond (same_text text name) value 0

none_counted : (text : List ℕ) (value : ℕ) (names : List (List ℕ)) → All (λ name. same_text text name ≡ false) names → sum_by (counted text value) names ≡ 0
none_counted text value names apart =
    sum_same (counted text value) (λ name. 0) names (λ k d h. ap (λ t. cond t value 0) (apart k d h)) ∙ sum_none names

one_counted : (text : List ℕ) (value : ℕ) (names : List (List ℕ)) → AllPairs (λ a b. same_text a b ≡ false) names → Contains names text → sum_by (counted text value) names ≡ value
one_counted text value [] apart there = absurd (none_in text there)
one_counted text value (name ∷ names) apart there =
    sum_by-cons (counted text value) name names
    ∙ by-place (one_counted text value names (pairs_rest (λ a b. same_text a b ≡ false) name names apart)) (first_or_later name text names there)
  where
    by-place : (Contains names text → sum_by (counted text value) names ≡ value) → (name ≡ text) ⊎ Contains names text → counted text value name + sum_by (counted text value) names ≡ value
    by-place others_counted (inl same) =
        let here : same_text text name ≡ true = (bytes_decides text name).1 (sym same) in
        let others : sum_by (counted text value) names ≡ 0 =
        none_counted text value names (subst (λ (n : List ℕ). All (λ other. same_text n other ≡ false) names) same (pairs_first (λ a b. same_text a b ≡ false) name names apart)) in
        let first : counted text value name ≡ value = ap (λ t. cond t value 0) here in
        omega (arith, first, others)
    by-place others_counted (inr later) =
        let rest = others_counted later in
        let first : counted text value name ≡ 0 = ap (λ t. cond t value 0) (by-test (same_text text name) refl) in
        omega (arith, first, rest)
      where
        apart_from : (other : List ℕ) → Contains names other → same_text name other ≡ false
        apart_from other (k, within, is) = subst (λ (n : List ℕ). same_text name n ≡ false) is (pairs_first (λ a b. same_text a b ≡ false) name names apart k other within)

        by-test : (t : Bool) → same_text text name ≡ t → t ≡ false
        by-test false e = refl
        by-test true e = absurd (both_ways _ (apart_from text later) ((bytes_decides name text).1 (sym ((bytes_decides text name).0 e))))

-- sums by different names that include each job's system are the sums of all jobs
by_names : (f : JobHead → ℕ) (names : List (List ℕ)) → AllPairs (λ a b. same_text a b ≡ false) names → (jobs : List JobHead)
    → ((job : JobHead) → Contains jobs job → Contains names job.system) → sum_by (λ name. sum_by f (jobs_for name jobs)) names ≡ sum_by f jobs
by_names f names apart [] named = sum_none names
by_names f names apart (job ∷ jobs) named =
    sum_same (λ name. sum_by f (jobs_for name (job ∷ jobs))) (λ name. counted job.system (f job) name + sum_by f (jobs_for name jobs)) names (λ k d h. split (get_or names k d))
    ∙ sum_both (counted job.system (f job)) (λ name. sum_by f (jobs_for name jobs)) names
    ∙ (λ i. one_counted job.system (f job) names apart (named job (first_of job jobs)) i + by_names f names apart jobs (λ other there. named other (later_of job other jobs there)) i)
    ∙ sym (sum_by-cons f job jobs)
  where
    split : (name : List ℕ) → sum_by f (jobs_for name (job ∷ jobs)) ≡ counted job.system (f job) name + sum_by f (jobs_for name jobs)
    split name = by-test (same_text job.system name)
      where
        by-test : (t : Bool) → sum_by f (cond t (job ∷ jobs_for name jobs) (jobs_for name jobs)) ≡ cond t (f job) 0 + sum_by f (jobs_for name jobs)
        by-test true = sum_by-cons f job (jobs_for name jobs)
        by-test false = omega arith

ones : {X : Type 0} (xs : List X) → sum_by (λ x. 1) xs ≡ length xs
ones [] = refl
ones {X} (x ∷ xs) = sum_by-cons (λ (y : X). 1) x xs ∙ (let rest = ones xs in omega (arith, rest))

module _ (jobs : List JobHead) (queues : List Queue) (are : AreQueues jobs queues) where
  abbrev names : List (List ℕ)
  names = map (λ (queue : Queue). queue.system) queues

  apart : AllPairs (λ a b. same_text a b ≡ false) names
  apart i j d below within =
      let count : length names ≡ length queues = length-map queues (λ (queue : Queue). queue.system) in
      not_same (get_or names i d) (get_or names j d) (at i j d below (omega arith))
    where
      at : (i j : ℕ) (d : List ℕ) → i < j → j < length queues → ComesBefore (get_or names i d) (get_or names j d)
      at i j d below inside = of_queues queues are.by_name i j d below inside
        where
          of_queues : (qs : List Queue) → AllPairs (λ (a b : Queue). ComesBefore a.system b.system) qs → (i j : ℕ) (d : List ℕ) → i < j → j < length qs
              → ComesBefore (get_or (map (λ (queue : Queue). queue.system) qs) i d) (get_or (map (λ (queue : Queue). queue.system) qs) j d)
          of_queues [] h i j d below inside = absurd (omega arith)
          of_queues (q ∷ qs) h i j d below inside =
              let pair = h i j q below inside in
              subst (λ (a : List ℕ). ComesBefore a (get_or (map (λ (queue : Queue). queue.system) (q ∷ qs)) j d)) (sym (get_or-map (λ (queue : Queue). queue.system) (q ∷ qs) i q d (omega arith)))
              (subst (λ (b : List ℕ). ComesBefore (get_or (q ∷ qs) i q).system b) (sym (get_or-map (λ (queue : Queue). queue.system) (q ∷ qs) j q d inside)) pair)

  summed : (f : JobHead → ℕ) (g : Queue → ℕ) → All (λ queue. g queue ≡ sum_by f (jobs_for queue.system jobs)) queues → sum_by g queues ≡ sum_by f jobs
  summed f g each =
      sum_same g (λ queue. sum_by f (jobs_for queue.system jobs)) queues each ∙ sym (sum_mapped (λ name. sum_by f (jobs_for name jobs)) (λ (queue : Queue). queue.system) queues)
      ∙ by_names f names apart jobs are.each

  pub jobs_summed : sum_by (λ (queue : Queue). queue.sums.jobs) queues ≡ length jobs
  jobs_summed =
      summed (λ job. 1) (λ queue. queue.sums.jobs) (λ k d h. (are.sums k d h).count ∙ sym (ones (jobs_for (get_or queues k d).system jobs))) ∙ ones jobs

  pub bytes_summed : sum_by (λ (queue : Queue). queue.sums.bytes) queues ≡ sum_by (λ (job : JobHead). job.size) jobs
  bytes_summed = summed (λ job. job.size) (λ queue. queue.sums.bytes) (λ k d h. (are.sums k d h).bytes)
