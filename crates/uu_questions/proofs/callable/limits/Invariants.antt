use Rattle.std.proofs.Common.{◌≡◌, ℕ, List, take}
use Rattle.std.specs.Ordering.{nat_cmp}
use Rattle.std.specs.Cmp.Lexicographic.{slice_cmp}
use Rattle.std.specs.BTreeMap.{get}
use Rattle.uu_core.specs.Due.{may_be_called, is_within}
use Rattle.uu_questions.proofs.callable.limits.Given as goal

abbrev pub invariant-loop-row : goal.invariant-loop-row
invariant-loop-row l = (name : List ℕ) (grade : ℕ) → is_within (get (slice_cmp nat_cmp) l.limits name) grade ≡ may_be_called (take l.row-index l.rows) l.at name grade
