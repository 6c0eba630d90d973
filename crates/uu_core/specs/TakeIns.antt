-- A neighbour's bundle that is taken whole: the result is that of its commands, one after the
-- other. (This project's choice.)
use Rattle.std.specs.Prelude.{◌≡◌, ℕ, ◌<◌, false, ⊤, nat_lt, List, ◌∷◌, map, Option, None, if◌then◌else◌}
use Rattle.std.specs.BTreeMap.{is_at}
use Rattle.std.specs.Map.{lookup}
use Rattle.std.specs.Option.{option_or}
use Rattle.std.specs.Ordering.{nat_cmp}
use Rattle.uu_core.specs.declared.command.Command.{Command}
use Rattle.uu_core.specs.declared.command.Command.TheVariants.{QueueOnce, Forget}
use Rattle.uu_core.specs.declared.command.Reply.{Reply}
use Rattle.uu_core.specs.declared.custody.HandIn.{HandIn}
use Rattle.uu_core.specs.declared.custody.HandIn.TheVariants.{First, Again}
use Rattle.uu_core.specs.declared.custody.Taken.{Taken}
use Rattle.uu_core.specs.declared.job.NewJob.{NewJob}
use Rattle.uu_core.specs.declared.take_in.Offered.{Offered}
use Rattle.uu_core.specs.declared.take_in.TakeIn.{TakeIn}
use Rattle.uu_core.specs.State.{State, link_of, taken_at, numbers_end}
use Rattle.uu_core.specs.Verdict.{key_under, is_too_large}
use Rattle.uu_core.specs.Run.{run}

-- the job is handed in under the neighbour's name and its number there
abbrev pub offering : List ℕ → Offered → Command
offering from offered = QueueOnce (key_under from offered.number offered.mark) offered.job

-- the neighbour won't ask for some numbers again, and then each job is handed in
abbrev pub commands_in : TakeIn → List Command
commands_in it = Forget it.from it.below ∷ map (offering it.from) it.jobs

-- the state after a bundle, and the replies: to what the neighbour won't ask for, and to each job
abbrev pub after_take_in : State → TakeIn → State × List Reply
after_take_in state it = run state (commands_in it)

-- ---- deciding a bundle from what was known before it

-- How far a bundle was taken. There are two numbers: that of the next job, and that below which the
-- neighbour won't ask again. The bundle made the spool forget what was taken before it below a
-- third number. Last come the jobs that were taken from the bundle, each under its number there.
pub record Progress : Type 0 where
  pub next : ℕ
  pub below : ℕ
  pub forgotten : ℕ
  pub brought : List (ℕ × Taken)

abbrev pub brought_at : Progress → ℕ → Option Taken
brought_at progress number = lookup (is_at (nat_cmp number)) progress.brought

-- What is now kept under a number, if this was kept before the bundle: what the bundle brought
-- under it, or else what was there, unless it was forgotten.
abbrev pub kept_now : Progress → Option Taken → ℕ → Option Taken
kept_now progress before number = option_or (brought_at progress number) (if nat_lt number progress.forgotten then None else before)

-- a job that is to be queued isn't too large, and a number is left for it
abbrev pub IsRoomFor : NewJob → HandIn → Type 0
IsRoomFor job (First number) = (is_too_large job ≡ false) × (number < numbers_end)
IsRoomFor job (Again number) = ⊤

-- From the state before a bundle, the part that was taken led to the present state: what is known
-- about this state without asking it again.
pub record IsTaking (before : State) (from : List ℕ) (now : State) (progress : Progress) : Type 0 where
  pub systems : now.systems ≡ before.systems
  pub next : progress.next ≡ now.next
  pub below : progress.below ≡ (link_of now from).below
  pub taken : (number : ℕ) → taken_at (link_of now from) number ≡ kept_now progress (taken_at (link_of before from) number) number
