-- The references are to the jobs, in the order of the sort.
use Rattle.std.proofs.Common.{List, map, IsPermutation, subst, Bor, rules}
use Rattle.std.proofs.lemmas.List.Sorted.{IsPermutation-map, answers_always}
use Rattle.uu_core.specs.declared.job.JobHead.{JobHead}
use Rattle.uu_core.proofs.DueLemmas.{order_from_sort}
use Rattle.uu_core.proofs.due.in_order.Goals as goal

pub returns-clause-same : goal.returns-clause-same
returns-clause-same c =
    let now = λ (job : Bor JobHead). job.now in
    subst (λ (l : List JobHead). IsPermutation l (map now c.sort_by_key.new.self.items)) c.in_ok-ordered.ensures (IsPermutation-map now _ _ c.sort_by_key.ensures.permutation)

pub returns-clause-order : goal.returns-clause-order
returns-clause-order c =
    let now = λ (job : Bor JobHead). job.now in
    order_from_sort c.sort_by_key.new.self.items c.args.jobs.now
    (c.in_ok-sort_by_key.ensures.sorted (λ job. (job.now.grade, job.now.number)) (answers_always _ _ _ (λ f a r q k. search rules)))
    (subst (λ (l : List JobHead). IsPermutation l (map now c.sort_by_key.new.self.items)) c.in_ok-ordered.ensures (IsPermutation-map now _ _ c.sort_by_key.ensures.permutation))
