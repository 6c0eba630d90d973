-- Jobs that a system has go, and no others.
use Rattle.std.proofs.Common.{◌≡◌, ℕ, ◌<◌, ◌==◌, ◌&&◌, Bool, true, not, cond, List, [], ◌∷◌, filter, AllPairs, Contains, refl, sym, ap, ◌∙◌}
use Rattle.std.specs.Cmp.{both_ways}
use Rattle.std.proofs.lemmas.Bool.{eqb-true, and_from}
use Rattle.std.proofs.lemmas.Cmp.{nat_eq_equiv}
use Rattle.uu_names.proofs.Basics.{in_filter, from_filter, some_passes, passing_one, first_of, later_of, and_first, and_second, one_of_number}
use Rattle.uu_core.specs.declared.command.Command.TheVariants.{Release}
use Rattle.uu_core.specs.State.{State, Job, same_text}
use Rattle.uu_core.specs.After.{accept, is_among, is_released}
use Rattle.uu_tables.specs.Tables.{tables_of}
use Rattle.uu_tables.specs.Changes.{without}
use Rattle.uu_tables.specs.Parts.{without_jobs}
use Rattle.uu_tables.specs.Plans.{waits_under}
use Rattle.uu_tables.proofs.ReportLemmas.{jobs_are_gone}

-- two tests that agree at each job keep the same jobs
same_without : (p q : Job → Bool) (jobs : List Job) → ((job : Job) → Contains jobs job → p job ≡ q job) → without p jobs ≡ without q jobs
same_without p q [] same = refl
same_without p q (job ∷ jobs) same =
    ap (λ t. cond (not t) (job ∷ without p jobs) (without p jobs)) (same job (first_of job jobs)) ∙ ap (λ l. cond (not (q job)) (job ∷ l) l) (same_without p q jobs (λ other there. same other (later_of job other jobs there)))

-- ---- what goes

module _ (s : State) (system numbers : List ℕ) (rising : AllPairs (λ (a b : Job). a.number < b.number) s.jobs) where
  abbrev found : List ℕ
  found = filter (waits_under s system) numbers

  -- of the state's jobs those have a number that was found that are released
  released : (job : Job) → Contains s.jobs job → is_among found job ≡ is_released system numbers job
  released job there = both_ways (is_among found job) (is_released system numbers job) onward back
    where
      onward : is_among found job ≡ true → is_released system numbers job ≡ true
      onward e =
          let one = passing_one (λ number. number == job.number) found e in
          let inside = from_filter (waits_under s system) numbers one.0 one.1 in
          let other = passing_one (λ (j : Job). j.number == one.0 && same_text j.system system) s.jobs inside.1 in
          let number = and_first (other.0.number == one.0) (same_text other.0.system system) other.2 in
          let own = and_second (other.0.number == one.0) (same_text other.0.system system) other.2 in
          let same : other.0 ≡ job = one_of_number (λ (j : Job). j.number) s.jobs other.0 job rising other.1 there (eqb-true other.0.number one.0 number ∙ eqb-true one.0 job.number one.2) in
          and_from (is_among numbers job) (same_text job.system system) (some_passes (λ number. number == job.number) numbers one.0 inside.0 one.2) (ap (λ (j : Job). same_text j.system system) (sym same) ∙ own)

      back : is_released system numbers job ≡ true → is_among found job ≡ true
      back e =
          let own = and_second (is_among numbers job) (same_text job.system system) e in
          let one = passing_one (λ number. number == job.number) numbers (and_first (is_among numbers job) (same_text job.system system) e) in
          let waits : waits_under s system one.0 ≡ true = some_passes (λ (j : Job). j.number == one.0 && same_text j.system system) s.jobs job there (and_from (job.number == one.0) (same_text job.system system) (nat_eq_equiv.symm job.number one.0 ∙ one.2) own) in
          some_passes (λ number. number == job.number) found one.0 (in_filter (waits_under s system) numbers one.0 one.1 waits) one.2

  pub release : without_jobs found (tables_of s) ≡ tables_of (accept s (Release system numbers))
  release = jobs_are_gone s found ∙ ap (λ jobs. tables_of (record s { jobs = jobs })) (same_without (is_among found) (is_released system numbers) s.jobs released)
