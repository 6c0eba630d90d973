use Rattle.std.proofs.Common.{ℕ, ◌*◌, ◌≤◌, List, take, IfSome}
use Rattle.std.specs.Ordering.{nat_cmp}
use Rattle.std.specs.Cmp.Lexicographic.{slice_cmp}
use Rattle.std.specs.BTreeMap.{get}
use Rattle.uu_core.specs.Queues.{AreSumsOf, jobs_for}
use Rattle.uu_core.proofs.queue.sums_by_system.Given as goal

abbrev pub invariant-loop-job : goal.invariant-loop-job
invariant-loop-job l = record {
  sums : (name : List ℕ) → AreSumsOf (jobs_for name (take l.job-index l.jobs)) (get (slice_cmp nat_cmp) l.by_system name);
  small : (name : List ℕ) → IfSome (get (slice_cmp nat_cmp) l.by_system name) (λ sums. sums.bytes ≤ l.job-index * 4294967296);
}
