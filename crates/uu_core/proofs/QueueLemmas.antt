-- What jobs come to, one more at a time, and what waits for each system.
use Rattle.std.proofs.Common.{◌≡◌, ◌≢◌, ℕ, ◌+◌, ◌<◌, ◌≤◌, Bool, true, false, cond, ◌||◌, ◌&&◌, ◌==◌, min, ltb, List, [], ◌∷◌, ◌++◌, length, map, take, get_or, Option, Some, None, IfSome, is_some, Contains, refl, ap, sym, ◌∙◌, subst, arith, append-nil, length-append}
use Rattle.std.specs.List.{reduce, fold}
use Rattle.std.specs.Ordering.{nat_cmp}
use Rattle.std.specs.Cmp.Lexicographic.{slice_cmp, bytes_decides}
use Rattle.std.specs.BTreeMap.{BTreeMap, get, keys, IsOrdered}
use Rattle.std.specs.List.Sorted.{IsStrictlySortedBy}
use Rattle.std.specs.declared.cmp.Ordering.TheVariants.{Less}
use Rattle.std.proofs.lemmas.Cmp.{nat_list_cmp_total}
use Rattle.std.proofs.lemmas.Bool.Decides.{nat_tests}
use Rattle.std.proofs.lemmas.List.{map-append, length-map, get_or-map}
use Rattle.std.proofs.lemmas.Map.Keys.{Less-from_sorted}
use Rattle.std.proofs.lemmas.Map.Lookups.{exact_bytes}
use Rattle.std.proofs.lemmas.Map.Views.{All-found, btree_map_contains_key_iff}
use Rattle.std.proofs.lemmas.List.Sums.{fold_push, sum_by_push, length-filter, count_by-le-length}
use Rattle.std.proofs.lemmas.List.Elements.{All-push, All-weaker, Contains-push, Contains-append_left, filter_more}
use Rattle.uu_names.proofs.Basics.{in_filter, none_in}
use Rattle.uu_core.specs.declared.job.JobHead.{JobHead}
use Rattle.uu_core.specs.declared.queue.Sums.{Sums}
use Rattle.uu_core.specs.declared.queue.Queue.{Queue}
use Rattle.uu_core.specs.State.{same_text}
use Rattle.uu_core.specs.Due.{goes_before}
use Rattle.uu_core.specs.Queues.{jobs_for, IsFirstJob, AreSums, AreSumsOf, AreQueues}
use Rattle.uu_core.proofs.DueLemmas.{not_itself}

-- ---- one job, and one more

reduce_push : (f : ℕ → ℕ → ℕ) (xs : List ℕ) (x least : ℕ) → Some least ≡ reduce f xs → Some (f least x) ≡ reduce f (xs ++ x ∷ [])
reduce_push f [] x least e = absurd (cc)
reduce_push f (y ∷ ys) x least e = ap Some (ap (λ m. f m x) same ∙ sym (fold_push f y ys x))
  where
    same : least ≡ fold f y ys
    same = cc

-- a job that goes before the first one goes before all that this one went before
goes_first : (other first job : JobHead) → goes_before job first ≡ true → goes_before other first ≡ false → goes_before other job ≡ false
goes_first other first job h k = grind (arith, nat_tests)

-- the first of some jobs and one more
first_more : (jobs : List JobHead) (job : JobHead) (old new : Sums) (before : Bool) → IsFirstJob jobs old.grade old.number
    → before ≡ (ltb job.grade old.grade || (job.grade == old.grade && ltb job.number old.number))
    → new.grade ≡ cond before job.grade old.grade → new.number ≡ cond before job.number old.number → IsFirstJob (jobs ++ job ∷ []) new.grade new.number
first_more jobs job old new before first is grade number = by-test before refl
  where
    as_job : before ≡ goes_before job first.job
    as_job = is ∙ (λ i. ltb job.grade (first.grade_is i) || (job.grade == first.grade_is i && ltb job.number (first.number_is i)))

    by-test : (t : Bool) → before ≡ t → IsFirstJob (jobs ++ job ∷ []) new.grade new.number
    by-test true e = record {
      job = job;
      there = Contains-push jobs job;
      grade_is = grade ∙ ap (λ b. cond b job.grade old.grade) e;
      number_is = number ∙ ap (λ b. cond b job.number old.number) e;
      first = All-push (λ (other : JobHead). goes_before other job ≡ false) jobs job
          (All-weaker (λ (other : JobHead). goes_before other first.job ≡ false) (λ (other : JobHead). goes_before other job ≡ false) (λ other h. goes_first other first.job job (sym as_job ∙ e) h) jobs first.first)
          (not_itself job);
    }
    by-test false e = record {
      job = first.job;
      there = Contains-append_left jobs (job ∷ []) first.job first.there;
      grade_is = grade ∙ ap (λ b. cond b job.grade old.grade) e ∙ first.grade_is;
      number_is = number ∙ ap (λ b. cond b job.number old.number) e ∙ first.number_is;
      first = All-push (λ (other : JobHead). goes_before other first.job ≡ false) jobs job first.first (sym as_job ∙ e);
    }

pub one_more_job : (jobs : List JobHead) (job : JobHead) (old new : Sums) (before : Bool) → AreSums jobs old
    → before ≡ (ltb job.grade old.grade || (job.grade == old.grade && ltb job.number old.number))
    → new.jobs ≡ old.jobs + 1 → new.bytes ≡ old.bytes + job.size → new.grade ≡ cond before job.grade old.grade → new.number ≡ cond before job.number old.number
    → new.oldest ≡ min old.oldest job.queued → AreSums (jobs ++ job ∷ []) new
one_more_job jobs job old new before h is count bytes grade number oldest = record {
  count = count ∙ ap (λ n. n + 1) h.count ∙ sym (length-append jobs (job ∷ []));
  bytes = bytes ∙ ap (λ n. n + job.size) h.bytes ∙ sym (sum_by_push (λ (j : JobHead). j.size) jobs job);
  first = first_more jobs job old new before h.first is grade number;
  oldest = ap Some oldest ∙ reduce_push min (map (λ (j : JobHead). j.queued) jobs) job.queued old.oldest h.oldest
      ∙ ap (reduce min) (sym (map-append (λ (j : JobHead). j.queued) jobs (job ∷ [])));
}

-- ---- by systems

-- one more job of a list
pub jobs_more : (name : List ℕ) (jobs : List JobHead) (i : ℕ) (d : JobHead) → i < length jobs
    → jobs_for name (take (i + 1) jobs) ≡ jobs_for name (take i jobs) ++ cond (same_text (get_or jobs i d).system name) (get_or jobs i d ∷ []) []
jobs_more name jobs i d h = filter_more (λ (job : JobHead). same_text job.system name) jobs i d h

-- there are no more jobs of a system than jobs
pub jobs_within : (name : List ℕ) (jobs : List JobHead) → length (jobs_for name jobs) ≤ length jobs
jobs_within name jobs =
    let p : JobHead → Bool = λ job. same_text job.system name in
    omega (arith, length-filter p jobs, count_by-le-length p jobs)

-- what a system's jobs and one more come to
pub sums_step : (jobs : List JobHead) (i : ℕ) (job : JobHead) (name : List ℕ) (old new : Option Sums) (sums : Sums) → i < length jobs → job ≡ get_or jobs i job → AreSumsOf (jobs_for name (take i jobs)) old
    → (name ≡ job.system → AreSums (jobs_for name (take i jobs) ++ job ∷ []) sums) → new ≡ cond (same_text job.system name) (Some sums) old → AreSumsOf (jobs_for name (take (i + 1) jobs)) new
sums_step jobs i job name old new sums within is before more new_is =
    subst (λ (o : Option Sums). AreSumsOf (jobs_for name (take (i + 1) jobs)) o) (sym new_is) (subst (λ (l : List JobHead). AreSumsOf l (cond (same_text job.system name) (Some sums) old)) (sym longer) (by-test (same_text job.system name) refl))
  where
    longer : jobs_for name (take (i + 1) jobs) ≡ jobs_for name (take i jobs) ++ cond (same_text job.system name) (job ∷ []) []
    longer = jobs_more name jobs i job within ∙ ap (λ (j : JobHead). jobs_for name (take i jobs) ++ cond (same_text j.system name) (j ∷ []) []) (sym is)

    by-test : (t : Bool) → same_text job.system name ≡ t → AreSumsOf (jobs_for name (take i jobs) ++ cond t (job ∷ []) []) (cond t (Some sums) old)
    by-test true e = more (sym ((bytes_decides job.system name).0 e))
    by-test false e = subst (λ (l : List JobHead). AreSumsOf l old) (sym (append-nil (jobs_for name (take i jobs)))) before

pub small_step : (job : JobHead) (name : List ℕ) (old new : Option Sums) (sums : Sums) (most : ℕ) → IfSome old (λ s. s.bytes ≤ most) → sums.bytes ≤ most + 4294967296
    → new ≡ cond (same_text job.system name) (Some sums) old → IfSome new (λ s. s.bytes ≤ most + 4294967296)
small_step job name old new sums most before small new_is = subst (λ (o : Option Sums). IfSome o (λ s. s.bytes ≤ most + 4294967296)) (sym new_is) (by-test (same_text job.system name))
  where
    widened : (o : Option Sums) → IfSome o (λ s. s.bytes ≤ most) → IfSome o (λ s. s.bytes ≤ most + 4294967296)
    widened None h = tt
    widened (Some s) h = omega (arith, h)

    by-test : (t : Bool) → IfSome (cond t (Some sums) old) (λ s. s.bytes ≤ most + 4294967296)
    by-test true = small
    by-test false = widened old before

-- a system that has jobs has sums
pub has_sums : (jobs : List JobHead) (found : Option Sums) → AreSumsOf jobs found → jobs ≢ [] → is_some found ≡ true
has_sums jobs None none some = absurd (some none)
has_sums jobs (Some sums) sums_are some = refl

-- what waits for each system, of a map from systems to what their jobs come to
abbrev entry_of : Queue → List ℕ × Sums
entry_of queue = (queue.system, queue.sums)

abbrev name_of : Queue → List ℕ
name_of queue = queue.system

names_of : (queues : List Queue) → map (λ (e : List ℕ × Sums). e.0) (map entry_of queues) ≡ map name_of queues
names_of [] = refl
names_of (queue ∷ queues) = ap (λ names. queue.system ∷ names) (names_of queues)

-- a job is among those of its system
pub among_its_own : (jobs : List JobHead) (job : JobHead) → Contains jobs job → Contains (jobs_for job.system jobs) job
among_its_own jobs job h = in_filter (λ (other : JobHead). same_text other.system job.system) jobs job h ((bytes_decides job.system job.system).1 refl)

pub of_map : (jobs : List JobHead) (queues : List Queue) (m : BTreeMap (List ℕ) Sums) → IsOrdered (slice_cmp nat_cmp) m
    → ((name : List ℕ) → AreSumsOf (jobs_for name jobs) (get (slice_cmp nat_cmp) m name)) → map entry_of queues ≡ m.entries → AreQueues jobs queues
of_map jobs queues m ordered sums same = record {
  sums = λ k d h.
      let there : k < length m.entries = subst (λ (es : List (List ℕ × Sums)). k < length es) same (omega (arith, length-map queues entry_of)) in
      let at : get_or m.entries k (entry_of d) ≡ entry_of (get_or queues k d) = ap (λ (es : List (List ℕ × Sums)). get_or es k (entry_of d)) (sym same) ∙ get_or-map entry_of queues k d (entry_of d) h in
      let found = All-found nat_list_cmp_total m ordered k (entry_of d) there in
      let here : get (slice_cmp nat_cmp) m (get_or queues k d).system ≡ Some (get_or queues k d).sums =
      subst (λ (e : List ℕ × Sums). get (slice_cmp nat_cmp) m e.0 ≡ Some e.1) at found in
      subst (AreSumsOf (jobs_for (get_or queues k d).system jobs)) here (sums (get_or queues k d).system);
  each = λ job h. subst (λ (names : List (List ℕ)). Contains names job.system) names (has_key job h (get (slice_cmp nat_cmp) m job.system) refl (sums job.system));
  by_name = λ i j d below within.
      let count : length (map name_of queues) ≡ length queues = length-map queues name_of in
      let less = Less-from_sorted (slice_cmp nat_cmp) (map name_of queues) i j d.system (subst (IsStrictlySortedBy (slice_cmp nat_cmp)) names ordered) below (omega arith) in
      subst (λ (b : List ℕ). slice_cmp nat_cmp (get_or queues i d).system b ≡ Less) (get_or-map name_of queues j d d.system within)
      (subst (λ (a : List ℕ). slice_cmp nat_cmp a (get_or (map name_of queues) j d.system) ≡ Less) (get_or-map name_of queues i d d.system (omega arith)) less);
}
  where
    names : map (λ (e : List ℕ × Sums). e.0) m.entries ≡ map name_of queues
    names = ap (map (λ (e : List ℕ × Sums). e.0)) (sym same) ∙ names_of queues

    has_key : (job : JobHead) → Contains jobs job → (found : Option Sums) → get (slice_cmp nat_cmp) m job.system ≡ found → AreSumsOf (jobs_for job.system jobs) found → Contains (keys m) job.system
    has_key job h None e none = absurd (none_in job (subst (λ (l : List JobHead). Contains l job) none (among_its_own jobs job h)))
    has_key job h (Some sums) e some = (btree_map_contains_key_iff nat_list_cmp_total exact_bytes m job.system).0 (ap is_some e)
