-- Only the jobs that a report names decide on it.
use Rattle.std.proofs.Common.{◌≡◌, ℕ, suc, ◌≤◌, Bool, true, false, not, cond, nat_eq, ltb, ◌==◌, ◌&&◌, ◌||◌, List, [], ◌∷◌, length, Contains, refl, ap, ◌∙◌, arith}
use Rattle.std.specs.Cmp.{both_ways}
use Rattle.std.specs.List.{list_any}
use Rattle.std.specs.Set.{distinct_count, unique_keys}
use Rattle.std.proofs.lemmas.Map.Made.{distinct_count-le}
use Rattle.std.proofs.lemmas.Bool.Decides.{nat_tests}
use Rattle.std.proofs.lemmas.Cmp.{nat_eq_equiv}
use Rattle.uu_names.proofs.Basics.{first_of, later_of, some_passes, passing_one, and_first}
use Rattle.uu_core.specs.declared.job.JobHead.{JobHead}
use Rattle.uu_core.specs.declared.refusal.Refusal.TheVariants.{NoSystem, NoJob, JobTwice, OtherSystem, TooLarge}
use Rattle.uu_core.specs.State.{same_text}
use Rattle.uu_core.specs.Verdict.{has_number, is_missing_one, has_repeat, has_other, done_reasons}
use Rattle.uu_core.specs.Laws.{is_named, AreFound}

any_agrees : {X : Type 0} (p q : X → Bool) (xs : List X) → ((x : X) → Contains xs x → p x ≡ q x) → list_any p xs ≡ list_any q xs
any_agrees p q [] h = refl
any_agrees p q (x ∷ xs) h =
    ap (λ b. b || list_any p xs) (h x (first_of x xs)) ∙ ap (λ b. q x || b) (any_agrees p q xs (λ y there. h y (later_of x y xs there)))

-- ---- numbers that occur twice

-- a number occurs again among those after it
abbrev pub repeats : List ℕ → Bool
repeats [] = false
repeats (number ∷ numbers) = list_any (λ other. other == number) numbers || repeats numbers

pub repeats_is : (numbers : List ℕ) → repeats numbers ≡ has_repeat numbers
repeats_is [] = refl
repeats_is (number ∷ numbers) =
    ap (λ b. list_any (λ other. other == number) numbers || b) (repeats_is numbers)
    ∙ ap (λ b. b || has_repeat numbers) (any_agrees (λ other. other == number) (nat_eq number) numbers (λ other there. nat_eq_equiv.symm other number))
    ∙ by-test (list_any (nat_eq number) numbers) (distinct_count-le nat_eq numbers)
  where
    more : (a b : ℕ) → a ≤ b → true ≡ ltb a (suc b)
    more a b h = grind (arith, nat_tests)

    both : (a b : ℕ) → ltb a b ≡ ltb (suc a) (suc b)
    both a b = grind (arith, nat_tests)

    by-test : (t : Bool) → distinct_count nat_eq numbers ≤ length numbers → t || has_repeat numbers ≡ ltb (length (cond t (unique_keys nat_eq numbers) (number ∷ unique_keys nat_eq numbers))) (suc (length numbers))
    by-test true h = more (distinct_count nat_eq numbers) (length numbers) h
    by-test false h = both (distinct_count nat_eq numbers) (length numbers)

-- ---- jobs that were found

module _ (numbers : List ℕ) (jobs found : List JobHead) (h : AreFound numbers jobs found) where
  -- a test that passes only if a job is named finds one among those found if it finds one at all
  found_any : (p : JobHead → Bool) → ((job : JobHead) → p job ≡ true → is_named numbers job ≡ true) → list_any p found ≡ list_any p jobs
  found_any p named =
      both_ways (list_any p found) (list_any p jobs)
      (λ e. let r = passing_one p found e in some_passes p jobs r.0 (h.there r.0 r.1) r.2)
      (λ e. let r = passing_one p jobs e in some_passes p found r.0 (h.all r.0 r.1 (named r.0 r.2)) r.2)

  missing_same : is_missing_one numbers found ≡ is_missing_one numbers jobs
  missing_same =
      any_agrees (λ number. not (has_number found number)) (λ number. not (has_number jobs number)) numbers
      (λ number there. ap not (found_any (λ (job : JobHead). job.number == number) (λ job e. some_passes (λ n. n == job.number) numbers number there (nat_eq_equiv.symm number job.number ∙ e))))

  other_same : (system : List ℕ) → has_other system numbers found ≡ has_other system numbers jobs
  other_same system =
      found_any (λ (job : JobHead). is_named numbers job && not (same_text job.system system)) (λ job e. and_first (is_named numbers job) (not (same_text job.system system)) e)

  pub named_decide : (known : Bool) (system : List ℕ) → done_reasons known system numbers found ≡ done_reasons known system numbers jobs
  named_decide known system =
      ap (λ missing. (ltb 256 (length numbers), TooLarge) ∷ (not known, NoSystem) ∷ (missing, NoJob) ∷ (has_repeat numbers, JobTwice) ∷ (has_other system numbers found, OtherSystem) ∷ []) missing_same
      ∙ ap (λ other. (ltb 256 (length numbers), TooLarge) ∷ (not known, NoSystem) ∷ (is_missing_one numbers jobs, NoJob) ∷ (has_repeat numbers, JobTwice) ∷ (other, OtherSystem) ∷ []) (other_same system)
