-- Which systems may be called now, and for which job. (That a grade limits a call: Taylor UUCP 1.07
-- manual, on the time commands of the sys file; that each system is listed once, and in which
-- order, is this project's choice.)
use Rattle.std.specs.Prelude.{◌≡◌, ℕ, nat_eq, true, Contains, Bool, not, ◌&&◌, ◌||◌, ◌==◌, nat_le, nat_lt, List, map, filter, Option, Some, None, AllPairs, IsTrue, false, if◌then◌else◌}
use Rattle.std.specs.List.{list_any, list_all, IsDistinct}
use Rattle.uu_times.specs.declared.moment.Moment.{Moment}
use Rattle.uu_core.specs.declared.job.JobHead.{JobHead}
use Rattle.uu_core.specs.declared.system.SystemRow.{SystemRow}
use Rattle.uu_core.specs.declared.due.Due.{Due}
use Rattle.uu_core.specs.State.{same_text, is_system}
use Rattle.uu_core.specs.Waiting.{limit_at, is_held}

-- the lowest grade for which the system may be called now, if it may
abbrev pub limit_now : SystemRow → Moment → Option ℕ
limit_now row at = if is_held row.call at.second then None else limit_at row.def.lines at.week

abbrev pub is_within : Option ℕ → ℕ → Bool
is_within None grade = false
is_within (Some limit) grade = nat_le grade limit

-- the system of this name may be called now for this grade
abbrev pub may_be_called : List SystemRow → Moment → List ℕ → ℕ → Bool
may_be_called rows at name grade = list_any (λ row. is_system name row && is_within (limit_now row at) grade) rows

-- the job's system may be called for it now
abbrev pub may_go : List SystemRow → Moment → JobHead → Bool
may_go rows at job = may_be_called rows at job.system job.grade

-- by grade, the highest first, and within a grade by number
abbrev pub goes_before : JobHead → JobHead → Bool
goes_before a b = nat_lt a.grade b.grade || (a.grade == b.grade && nat_lt a.number b.number)

-- the first of its system's jobs among those that may go
abbrev pub is_due : List SystemRow → List JobHead → Moment → JobHead → Bool
is_due rows jobs at job =
    may_go rows at job && list_all (λ other. not (same_text other.system job.system && may_go rows at other && goes_before other job)) jobs

abbrev pub due_of : JobHead → Due
due_of job = record { system = job.system; grade = job.grade; number = job.number }

-- the first of two comes before the second, by grade and number
abbrev pub ComesFirst : Due → Due → Type 0
ComesFirst a b = IsTrue (nat_lt a.grade b.grade || (a.grade == b.grade && nat_lt a.number b.number))

-- it names one of the jobs for which a system is called now
pub record IsDue (rows : List SystemRow) (jobs : List JobHead) (at : Moment) (due : Due) : Type 0 where
  pub job : JobHead
  pub there : Contains jobs job
  pub first : is_due rows jobs at job ≡ true
  pub is : due ≡ due_of job

-- these systems and no others, one for each system that is called for a job, by grade and number
pub record AreDue (rows : List SystemRow) (jobs : List JobHead) (at : Moment) (dues : List Due) : Type 0 where
  pub sound : (due : Due) → Contains dues due → IsDue rows jobs at due
  pub complete : (due : Due) → IsDue rows jobs at due → Contains dues due
  pub in_order : AllPairs ComesFirst dues

-- the jobs that may go now, in their order
abbrev pub all_due : List SystemRow → List JobHead → Moment → List Due
all_due rows jobs at = map due_of (filter (may_go rows at) jobs)

-- what is due for a system
abbrev pub dues_of : List ℕ → List Due → List Due
dues_of name dues = filter (λ due. same_text due.system name) dues

-- no two jobs have the same number, as in every state
abbrev pub HaveNumbers : List JobHead → Type 0
HaveNumbers jobs = IsDistinct nat_eq (map (λ job. job.number) jobs)

-- the jobs are in order by grade and number
abbrev pub AreInOrder : List JobHead → Type 0
AreInOrder jobs = AllPairs (λ a b. goes_before a b ≡ true) jobs

-- the system is one of those that are listed
abbrev pub is_listed : List Due → List ℕ → Bool
is_listed dues name = list_any (λ due. same_text due.system name) dues
