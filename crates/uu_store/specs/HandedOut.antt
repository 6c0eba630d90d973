-- What an answer gives of a job, and within which limits, on any store. (The limits are this
-- project's choice.)
use Rattle.std.specs.Prelude.{ℕ, ◌≤◌, Bool, true, false, ◌&&◌, nat_le, List, Vec, Option, Some, None, Result, Ok, Err}
use Rattle.std.specs.declared.alloc.Global.{Global}
use Rattle.uu_core.specs.declared.job.JobHead.{JobHead}
use Rattle.uu_core.specs.declared.system.SystemRow.{SystemRow}
use Rattle.uu_core.specs.State.{Job, last_second, most_bytes}
use Rattle.sqlite.specs.declared.error.Error.{Error}
use Rattle.sqlite.specs.declared.error.Error.TheVariants.{QueryReturnedNoRows}

-- a head and the bytes that go with it
abbrev pub job_with : JobHead → List ℕ → Job
job_with head bytes = record { number = head.number; system = head.system; grade = head.grade; user = head.user; kind = head.kind; queued = head.queued; bytes = bytes }

-- a job as an answer gives it
abbrev pub job_shown : JobHead × Vec ℕ Global → Job
job_shown job = job_with job.0 job.1.items

-- within the limits on which a report relies
pub record IsBounded (head : JobHead) : Type 0 where
  pub queued : head.queued ≤ last_second
  pub size : head.size ≤ most_bytes

-- the last call isn't after the last moment
abbrev pub IsTimed : SystemRow → Type 0
IsTimed row = row.call.last ≤ last_second

-- the same as tests
abbrev pub is_bounded : JobHead → Bool
is_bounded head = nat_le head.queued last_second && nat_le head.size most_bytes

abbrev pub is_timed : SystemRow → Bool
is_timed row = nat_le row.call.last last_second

-- a job that isn't there is within every limit
abbrev pub is_found_bounded : Option (JobHead × Vec ℕ Global) → Bool
is_found_bounded None = true
is_found_bounded (Some job) = is_bounded job.0

-- an answer within the limits is given as it is; any other has a row that the format doesn't allow
abbrev pub within_limits : {T : Type 0} → Bool → T → Result T Error
within_limits true answer = Ok answer
within_limits false answer = Err QueryReturnedNoRows
