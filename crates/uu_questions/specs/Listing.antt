-- Which jobs are listed, and in which order. (This project's choice.)
use Rattle.std.specs.Prelude.{◌≡◌, ℕ, Bool, true, ◌&&◌, List, map, filter, Option, None, Some, Vec}
use Rattle.std.specs.declared.alloc.Global.{Global}
use Rattle.std.specs.declared.cmp.Ordering.{Ordering}
use Rattle.std.specs.Ordering.{nat_cmp, ordering_then}
use Rattle.sqlite_keyed.specs.Lists.{sort_by}
use Rattle.uu_core.specs.declared.job.JobHead.{JobHead}
use Rattle.uu_core.specs.State.{State, Job, head_of, same_text}
use Rattle.uu_core.specs.declared.filter.Filter.{Filter}

-- the text is the given one, or none is given
abbrev pub is_wanted : Option (List ℕ) → List ℕ → Bool
is_wanted None text = true
is_wanted (Some wanted) text = same_text text wanted

-- the job matches the filter's system and user
abbrev pub fits : Filter → JobHead → Bool
fits f job = is_wanted f.system job.system && is_wanted f.user job.user

-- by grade, the highest first, and in one grade by number
abbrev pub by_rank : JobHead → JobHead → Ordering
by_rank a b = ordering_then (nat_cmp a.grade b.grade) (nat_cmp a.number b.number)

-- the filter gives no system and no user
abbrev pub WantsAll : Filter → Type 0
WantsAll f = (f.system ≡ None) × (f.user ≡ None)

-- the jobs that match, without their bytes
abbrev pub listed_jobs : Filter → State → List JobHead
listed_jobs f s = sort_by by_rank (filter (fits f) (map head_of s.jobs))

-- a job in the answer as the state has it: its head, and its bytes
abbrev pub handed_out : JobHead × Vec ℕ Global → JobHead × List ℕ
handed_out job = (job.0, job.1.items)

abbrev pub head_and_bytes : Job → JobHead × List ℕ
head_and_bytes job = (head_of job, job.bytes)
