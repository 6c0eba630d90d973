-- The jobs that go when a bundle is settled.
use Rattle.std.proofs.Common.{◌≡◌, ◌∙◌, ◌==◌, ◌&&◌, ◌||◌, not, ℕ, Bool, true, false, cond, List, [], ◌∷◌, map, filter, find, All, Some, ap, ap₂, arith, refl, sym}
use Rattle.std.specs.List.{list_any}
use Rattle.std.proofs.lemmas.Bool.Decides.{nat_tests}
use Rattle.std.proofs.lemmas.List.Elements.{All-head, All-tail, All-weaker}
use Rattle.uu_names.proofs.Basics.{filter_all}
use Rattle.uu_bundle.specs.declared.bundle.Told.{Told}
use Rattle.uu_core.specs.After.{is_released}
use Rattle.uu_handover.specs.Bundles.{is_settled, settled_of}
use Rattle.uu_handover.specs.Bundles as handover
use Rattle.uu_handover.specs.Custody.{Parcel, parcel_of}
use Rattle.uu_core.specs.Run.{state_after}
use Rattle.uu_core.specs.State.{IsWellFormed, Job, State, is_job, same_text}
use Rattle.uu_request.specs.declared.request.Settling.{Settling}
use Rattle.uuspool.specs.Bundles.{as_told, is_had, mark_for, release_of, rising, settled_by}
use Rattle.uuspool.specs.Internal.Asked.{is_job_told}
use Rattle.uuspool.proofs.WaitingLemmas.{all_found, settled_by_number}

-- ---- the command

-- what is let go, if there is anything, goes
released : (s : State) (system numbers : List ℕ) → state_after s (release_of system numbers) ≡ record s { jobs = filter (λ job. not (is_released system numbers job)) s.jobs }
released s system [] = ap (λ jobs. record s { jobs = jobs }) (sym (filter_all s.jobs))
released s system (number ∷ numbers) = refl

-- ---- tests of lists

module _ {X : Type 0} (p q : X → Bool) where
  same_filtered : (xs : List X) → All (λ x. p x ≡ q x) xs → filter p xs ≡ filter q xs
  same_filtered [] same = refl
  same_filtered (x ∷ xs) same = ap₂ (λ b rest. cond b (x ∷ rest) rest) (All-head (λ y. p y ≡ q y) x xs same) (same_filtered xs (All-tail (λ y. p y ≡ q y) x xs same))

-- one of the numbers of those that pass
any_kept : (number : ℕ) (p : handover.Told → Bool) (told : List Told)
    → list_any (λ n. n == number) (map (λ (t : handover.Told). t.number) (filter p (map as_told told))) ≡ list_any (λ one. p (as_told one) && one.number == number) told
any_kept number p [] = refl
any_kept number p (one ∷ told) =
    elim (p (as_told one)) as (λ b. list_any (λ n. n == number) (map (λ (t : handover.Told). t.number) (cond b (as_told one ∷ filter p (map as_told told)) (filter p (map as_told told))))
    ≡ ((b && one.number == number) || list_any (λ t. p (as_told t) && t.number == number) told)) [
      | true ↦ ap (λ rest. (one.number == number) || rest) (any_kept number p told)
      | false ↦ any_kept number p told
    ]

-- a test that all have in common
any_with : (both : Bool) (p q : Told → Bool) → ((one : Told) → p one ≡ (both && q one)) → (told : List Told) → list_any p told ≡ (both && list_any q told)
any_with true p q same [] = refl
any_with false p q same [] = refl
any_with both p q same (one ∷ told) = ap₂ (λ a b. a || b) (same one) (any_with both p q same told) ∙ spread both (q one) (list_any q told)
  where
    spread : (a b c : Bool) → ((a && b) || (a && c)) ≡ (a && (b || c))
    spread true b c = refl
    spread false b c = refl

-- ---- the jobs

module _ (from : List ℕ) (it : Settling) (s : State) (good : IsWellFormed s) where
  abbrev mark : Parcel → ℕ
  mark = mark_for from it.system it.spool

  -- what the bundle says about a job of the state
  told_of : (job : Job) → find (is_job job.number) s.jobs ≡ Some job → (one : Told)
      → (is_settled it.system mark s (as_told one) && one.number == job.number) ≡ (same_text job.system it.system && (one.number == job.number && mark (parcel_of job) == one.mark))
  told_of job found one = by_number (one.number == job.number) refl
    where
      other : (a b : Bool) → (a && false) ≡ (b && false)
      other true true = refl
      other true false = refl
      other false true = refl
      other false false = refl

      same : (a b : Bool) → ((a && b) && true) ≡ (a && b)
      same true true = refl
      same true false = refl
      same false b = refl

      by_number : (is : Bool) → (one.number == job.number) ≡ is
          → (is_settled it.system mark s (as_told one) && is) ≡ (same_text job.system it.system && (is && mark (parcel_of job) == one.mark))
      by_number true equal =
          let number : one.number ≡ job.number = grind (arith, nat_tests, equal) in
          ap (λ b. b && true) (settled_by_number from it.system it.spool (as_told one) s.jobs good.rising
          ∙ ap (is_job_told from it.system it.spool one.mark) (ap (λ n. find (is_job n) s.jobs) number ∙ found))
          ∙ same (same_text job.system it.system) (mark (parcel_of job) == one.mark)
      by_number false differ = other (is_settled it.system mark s (as_told one)) (same_text job.system it.system)

  -- it goes exactly if the bundle has it
  goes : (job : Job) → find (is_job job.number) s.jobs ≡ Some job → not (is_released it.system (settled_by from it s) job) ≡ not (is_had from it job)
  goes job found =
      ap (λ b. not (b && same_text job.system it.system))
      (any_kept job.number (is_settled it.system mark s) (rising 0 it.has)
      ∙ any_with (same_text job.system it.system) (λ one. is_settled it.system mark s (as_told one) && one.number == job.number) (λ one. one.number == job.number && mark (parcel_of job) == one.mark)
      (told_of job found) (rising 0 it.has))
      ∙ ap not (twice (same_text job.system it.system) (list_any (λ one. one.number == job.number && mark (parcel_of job) == one.mark) (rising 0 it.has)))
    where
      twice : (a b : Bool) → ((a && b) && a) ≡ (a && b)
      twice true true = refl
      twice true false = refl
      twice false b = refl

  pub had_goes : state_after s (release_of it.system (settled_by from it s)) ≡ record s { jobs = filter (λ job. not (is_had from it job)) s.jobs }
  had_goes =
      released s it.system (settled_by from it s)
      ∙ ap (λ jobs. record s { jobs = jobs })
      (same_filtered (λ job. not (is_released it.system (settled_by from it s) job)) (λ job. not (is_had from it job)) s.jobs
      (All-weaker (λ (job : Job). find (is_job job.number) s.jobs ≡ Some job) (λ job. not (is_released it.system (settled_by from it s) job) ≡ not (is_had from it job)) goes s.jobs (all_found s.jobs good.rising)))
