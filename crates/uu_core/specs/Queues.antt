-- What waits for each system. (That a site's queues are summed up: Taylor UUCP 1.07 manual, on
-- uustat; what is said about each, and in which order, is this project's choice.)
use Rattle.std.specs.Prelude.{◌≡◌, ℕ, false, List, map, filter, length, sum_by, min, Option, None, Some, [], All, AllPairs, Contains}
use Rattle.std.specs.List.{reduce}
use Rattle.uu_core.specs.declared.job.JobHead.{JobHead}
use Rattle.uu_core.specs.declared.queue.Sums.{Sums}
use Rattle.uu_core.specs.declared.queue.Queue.{Queue}
use Rattle.uu_core.specs.State.{same_text, ComesBefore}
use Rattle.uu_core.specs.Due.{goes_before}

-- the jobs for a system
abbrev pub jobs_for : List ℕ → List JobHead → List JobHead
jobs_for system jobs = filter (λ job. same_text job.system system) jobs

-- these are the grade and the number of one of the jobs, and no job goes before it
pub record IsFirstJob (jobs : List JobHead) (grade number : ℕ) : Type 0 where
  pub job : JobHead
  pub there : Contains jobs job
  pub grade_is : grade ≡ job.grade
  pub number_is : number ≡ job.number
  pub first : All (λ other. goes_before other job ≡ false) jobs

-- the sums of some jobs, at least one: how many there are, the sum of their sizes, the first by
-- grade and number, and the second since which the oldest waits
pub record AreSums (jobs : List JobHead) (sums : Sums) : Type 0 where
  pub count : sums.jobs ≡ length jobs
  pub bytes : sums.bytes ≡ sum_by (λ job. job.size) jobs
  pub first : IsFirstJob jobs sums.grade sums.number
  pub oldest : Some sums.oldest ≡ reduce min (map (λ job. job.queued) jobs)

-- the sums of a system's jobs, if it has any
abbrev pub AreSumsOf : List JobHead → Option Sums → Type 0
AreSumsOf jobs None = jobs ≡ []
AreSumsOf jobs (Some sums) = AreSums jobs sums

-- what waits for each system that has a job, one queue for each, by the bytes of their names
pub record AreQueues (jobs : List JobHead) (queues : List Queue) : Type 0 where
  pub sums : All (λ queue. AreSums (jobs_for queue.system jobs) queue.sums) queues
  pub each : (job : JobHead) → Contains jobs job → Contains (map (λ queue. queue.system) queues) job.system
  pub by_name : AllPairs (λ a b. ComesBefore a.system b.system) queues
