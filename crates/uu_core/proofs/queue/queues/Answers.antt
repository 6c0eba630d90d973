-- The queues are the entries of the map, in their order.
use Rattle.std.proofs.Common.{◌≡◌, ◌∙◌, ◌++◌, [], ℕ, List, ap, sym, map, append-nil}
use Rattle.std.proofs.lemmas.Map.Iter.{rest_all}
use Rattle.uu_core.specs.declared.queue.Queue.{Queue}
use Rattle.uu_core.specs.declared.queue.Sums.{Sums}
use Rattle.uu_core.proofs.QueueLemmas.{of_map}
use Rattle.uu_core.proofs.queue.queues.Goals as goal

pub returns : goal.returns
returns c =
    let gives = c.into_iter-system-iterator.ensures.into_iter_gives in
    let entries = map (λ (queue : Queue). let e : List ℕ × Sums = (queue.system, queue.sums) in e) c.loop-system.queues.items in
    let left : c.loop-system.system-iterator ≡ [] = rest_all (λ (e : List ℕ × Sums). e) c.loop-system.system-iterator c.next.new.self c.next.result c.in-None.is c.next.ensures.steps in
    of_map c.args.jobs.now c.loop-system.queues.items c.in_ok-by_system.by_system gives.5 c.in_ok-by_system.ensures
    (sym (append-nil entries) ∙ ap (λ t. entries ++ t) (sym left) ∙ c.loop-system.invariant ∙ gives.0)
