use Rattle.std.proofs.Common.{◌≡◌, ◌&&◌, Bool, true, false, ℕ, List, [], ◌∷◌, cond, filter, map, IsPermutation, None, Some, ap, refl, subst}
use Rattle.uu_core.specs.Due.{all_due}
use Rattle.uu_core.specs.Queues.{jobs_for}
use Rattle.uu_core.specs.State.{head_of, same_text}
use Rattle.uu_core.specs.declared.filter.Filter.{Filter}
use Rattle.uu_core.specs.declared.job.JobHead.{JobHead}
use Rattle.uu_questions.specs.Listing.{fits, listed_jobs}
use Rattle.uuspool.proofs.laws.the_first_line_is_what_is_due.Goals as goal

-- a job of the system matches if no user is given
with_any_user : (name : List ℕ) (jobs : List JobHead) → filter (fits (record { system = Some name; user = None })) jobs ≡ jobs_for name jobs
with_any_user name [] = refl
with_any_user name (job ∷ jobs) = by-test (same_text job.system name) (with_any_user name jobs)
  where
    by-test : (t : Bool) → filter (fits (record { system = Some name; user = None })) jobs ≡ jobs_for name jobs
        → cond (t && true) (job ∷ filter (fits (record { system = Some name; user = None })) jobs) (filter (fits (record { system = Some name; user = None })) jobs)
        ≡ cond t (job ∷ jobs_for name jobs) (jobs_for name jobs)
    by-test true rest = ap (λ (l : List JobHead). job ∷ l) rest
    by-test false rest = rest

pub returns : goal.returns
returns c settings state name at output all status told good printed printed_all =
    let wanted : Filter = record { system = Some name; user = None } in
    let heads = map head_of state.jobs in
    let own = listed_jobs wanted state in
    let same : IsPermutation (jobs_for name heads) own = subst (λ (l : List JobHead). IsPermutation l own) (with_any_user name heads) (c.jobs_are_listed_in_order.ensures.same wanted state) in (
      printed.0,
      all_due state.systems own at,
      printed.2,
      printed_all.0,
      c.the_first_to_go_is_due.ensures state.systems at heads own name printed.0 same (c.jobs_are_listed_in_order.ensures.order wanted state good) printed.1,
    )
