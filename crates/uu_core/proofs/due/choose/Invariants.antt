use Rattle.std.proofs.Common.{◌≡◌, ◌++◌, ◌&&◌, ℕ, List, take, drop, map, not}
use Rattle.std.specs.Ordering.{nat_cmp}
use Rattle.std.specs.Cmp.Lexicographic.{slice_cmp}
use Rattle.std.specs.BTreeMap.{get}
use Rattle.uu_core.specs.Due.{may_be_called, is_within}
use Rattle.uu_core.proofs.DueLemmas.{walk, walk_after, is_called_before}
use Rattle.uu_core.proofs.due.choose.Given as goal

abbrev pub invariant-loop-job : goal.invariant-loop-job
invariant-loop-job l = record {
  free : (name : List ℕ) (grade : ℕ) → is_within (get (slice_cmp nat_cmp) l.free name) grade
      ≡ (may_be_called l.rows l.at name grade && not (is_called_before l.rows l.at (take l.job-index (map (λ job. job.now) l.job-items)) name));
  listed : l.dues.items ++ walk_after l.rows l.at (take l.job-index (map (λ job. job.now) l.job-items)) (drop l.job-index (map (λ job. job.now) l.job-items))
      ≡ walk l.rows (map (λ job. job.now) l.job-items) l.at;
}
