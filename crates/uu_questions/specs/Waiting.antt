-- The check of a job when its system says that it has it.
use Rattle.std.specs.Prelude.{ℕ, Bool, false, List, Option, Some, None}
use Rattle.uu_core.specs.declared.job.JobHead.{JobHead}
use Rattle.uu_core.specs.State.{same_text}

-- it is a job that waits for the system
abbrev pub is_for : List ℕ → Option JobHead → Bool
is_for system None = false
is_for system (Some head) = same_text head.system system
