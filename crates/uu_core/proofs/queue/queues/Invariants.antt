use Rattle.std.proofs.Common.{◌≡◌, ◌++◌, map}
use Rattle.uu_core.proofs.queue.queues.Given as goal

abbrev pub invariant-loop-system : goal.invariant-loop-system
invariant-loop-system l = map (λ queue. (queue.system, queue.sums)) l.queues.items ++ l.system-iterator ≡ l.initial.system-iterator
