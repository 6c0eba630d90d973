-- The oldest of jobs that are within the moments is so too, and picked systems stay in their order.
use Rattle.std.proofs.Common.{◌≡◌, ℕ, ◌≤◌, min, List, [], ◌∷◌, map, get_or, Option, None, Some, All, arith}
use Rattle.std.specs.List.{fold, reduce, AllByRecursion}
use Rattle.std.proofs.lemmas.List.Elements.{All-filter, All-from_recursion, All-head, All-map, All-weaker}
use Rattle.uu_times.specs.Moment.{last_second}
use Rattle.std.proofs.lemmas.List.Kept.{AllPairs-filter}
use Rattle.uu_core.specs.State.{ComesBefore, is_system, same_text}
use Rattle.uu_core.specs.Definitions.{picked}
use Rattle.uu_core.specs.Order.{AreByName}
use Rattle.uu_core.specs.Queues.{AreQueues, jobs_for}
use Rattle.uu_core.specs.declared.job.JobHead.{JobHead}
use Rattle.uu_core.specs.declared.queue.Queue.{Queue}
use Rattle.uu_core.specs.declared.system.SystemRow.{SystemRow}
use Rattle.uu_store.specs.HandedOut.{IsBounded}

least_below : (first : ℕ) (others : List ℕ) → fold min first others ≤ first
least_below first [] = omega arith
least_below first (other ∷ others) = let below = least_below (min first other) others in omega (arith, below)

least_within : (xs : List ℕ) (least most : ℕ) → Some least ≡ reduce min xs → All (λ x. x ≤ most) xs → least ≤ most
least_within [] least most is all = absurd (cc)
least_within (x ∷ xs) least most is all =
    let same : least ≡ fold min x xs = cc in
    let first = All-head (λ y. y ≤ most) x xs all in
    omega (arith, same, first, least_below x xs)

pub oldest_within : (jobs : List JobHead) (queues : List Queue) → AreQueues jobs queues → AllByRecursion IsBounded jobs → All (λ queue. queue.sums.oldest ≤ last_second) queues
oldest_within jobs queues are bounded k d within =
    let sums = are.sums k d within in
    least_within (map (λ (job : JobHead). job.queued) (jobs_for (get_or queues k d).system jobs)) (get_or queues k d).sums.oldest last_second sums.oldest
    (All-map (λ x. x ≤ last_second) (λ (job : JobHead). job.queued) (jobs_for (get_or queues k d).system jobs)
    (All-filter (λ (job : JobHead). same_text job.system (get_or queues k d).system) (λ (job : JobHead). job.queued ≤ last_second) jobs
    (All-weaker IsBounded (λ (job : JobHead). job.queued ≤ last_second) (λ job is. is.queued) jobs (All-from_recursion IsBounded jobs bounded))))

pub picked_by_name : (name : Option (List ℕ)) (rows : List SystemRow) → AreByName (λ (row : SystemRow). row.def.name) rows → AreByName (λ (row : SystemRow). row.def.name) (picked name rows)
picked_by_name None rows by_name = by_name
picked_by_name (Some name) rows by_name = AllPairs-filter (λ (a b : SystemRow). ComesBefore a.def.name b.def.name) (is_system name) rows by_name
