-- A message that goes over several sites, from each to the next by the custody of two.
use Rattle.std.specs.Prelude.{◌≡◌, ◌≢◌, ◌⊎◌, ⊤, ℕ, List, [], ◌∷◌, Contains}
use Rattle.uu_core.specs.declared.command.Command.{Command}
use Rattle.uu_core.specs.State.{State, Job}
use Rattle.uu_core.specs.Run.{state_after}
use Rattle.uu_core.specs.Laws.{IsAmong}
use Rattle.uu_handover.specs.Custody.{parcel_of, Handed, IsHandedFor}
use Rattle.uu_handover.specs.Network.{Chart}
use Rattle.uu_custody.specs.Handovers.{handed_in, IsKeptOrGone, WasKilled, ComeOnce, NothingIsInTheWay}

-- each site's first state, and the commands that count there
pub record Course : Type 0 where
  pub first : ℕ → State
  pub counted : ℕ → List Command

abbrev pub last_of : Course → ℕ → State
last_of course site = state_after (course.first site) (course.counted site)

-- over a line jobs come once
abbrev pub ComeOnceOver : Chart → Course → ℕ → Type 0
ComeOnceOver chart course line =
    ComeOnce (chart.crossing line) (course.first (chart.begins line)) (course.counted (chart.begins line)) (course.first (chart.ends line)) (course.counted (chart.ends line))

-- and over each of several
abbrev pub ComeOnceOverAll : Chart → Course → List ℕ → Type 0
ComeOnceOverAll chart course [] = ⊤
ComeOnceOverAll chart course (line ∷ lines) = ComeOnceOver chart course line × ComeOnceOverAll chart course lines

-- over a line each waiting job is free
abbrev pub IsFreeOver : Chart → Course → ℕ → Type 0
IsFreeOver chart course line =
    NothingIsInTheWay (chart.crossing line) (course.first (chart.begins line)) (course.counted (chart.begins line)) (course.first (chart.ends line)) (course.counted (chart.ends line))

-- what the end of a line queued for its beginning
abbrev pub handed_over : Chart → Course → ℕ → List Handed
handed_over chart course line = handed_in (chart.crossing line) (course.first (chart.ends line)) (course.counted (chart.ends line))

-- Where a message is on its way over these lines: it waits at the site before the first of them, or
-- was killed there. Or a job was made of it at the end of that line, and that job is on its way
-- over the others. If no line is left, or if the site queued it for another system than that to
-- which the next line goes, it is there, or was removed.
abbrev pub IsOnItsWay : Chart → Course → ℕ → List ℕ → Job → Type 0
IsOnItsWay chart course site [] job = IsKeptOrGone (course.first site) (course.counted site) job
IsOnItsWay chart course site (line ∷ lines) job =
    IsAmong (last_of course site).jobs job ⊎ WasKilled (course.first site) (course.counted site) job.number
    ⊎ ((job.system ≢ (chart.crossing line).to) × IsKeptOrGone (course.first site) (course.counted site) job)
    ⊎ ((handed : Handed) × Contains (handed_over chart course line) handed × IsHandedFor (chart.crossing line) (parcel_of job) handed × IsOnItsWay chart course (chart.ends line) lines handed.job)

-- over these lines the job came to this one: each end queued a job for the number that it had before
abbrev pub CameTo : Chart → Course → List ℕ → Job → Job → Type 0
CameTo chart course [] job last = job ≡ last
CameTo chart course (line ∷ lines) job last = (handed : Handed) × Contains (handed_over chart course line) handed × (handed.number ≡ job.number) × CameTo chart course lines handed.job last
