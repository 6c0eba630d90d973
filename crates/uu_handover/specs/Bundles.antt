-- A bundle: what a site says to a neighbour. It says which of the neighbour's jobs it has, which of
-- them it refuses, and which of its own jobs wait for the neighbour. It is made from the site's
-- state; an answer is made from the neighbour's bundle too. It is said again until the site knows
-- that the neighbour has it. (What is said, and in which order, is this project's choice.)
use Rattle.std.specs.Prelude.{◌≡◌, ℕ, Bool, true, ◌==◌, ◌&&◌, nat_le, ◌⊎◌, List, [], ◌∷◌, map, filter, find, flat_map, length, Option, Some, None, option_map, unwrap_or, All, Contains, IsPermutation, ◌++◌}
use Rattle.std.specs.List.{list_any}
use Rattle.uu_core.specs.declared.command.Command.{Command}
use Rattle.uu_core.specs.declared.command.Command.TheVariants.{QueueOnce, Release, Forget}
use Rattle.uu_core.specs.declared.custody.Key.{Key}
use Rattle.uu_core.specs.declared.custody.Taken.{Taken}
use Rattle.uu_core.specs.declared.job.NewJob.{NewJob}
use Rattle.uu_core.specs.declared.refusal.Refusal.{Refusal}
use Rattle.uu_core.specs.State.{State, Job, same_text, link_of, head_of}
use Rattle.uu_core.specs.Due.{AreInOrder, goes_before}
use Rattle.uu_core.specs.Verdict.{verdict}
use Rattle.uu_core.specs.After.{after}
use Rattle.uu_core.specs.Run.{state_after}
use Rattle.uu_handover.specs.Custody.{Parcel, parcel_of}

-- ---- bundles

-- a job of the neighbour's that is kept as taken: its number there, and its mark
pub record Told : Type 0 where
  pub number : ℕ
  pub mark : ℕ

abbrev pub told_of : Taken → Told
told_of row = record { number = row.number; mark = row.mark }

-- a job of the neighbour's that would be refused: its number there, its mark, and why
pub record RefusedJob : Type 0 where
  pub number : ℕ
  pub mark : ℕ
  pub reason : Refusal

-- a job as it is sent: what doesn't change of it, its mark, and its grade at that time
pub record Packed : Type 0 where
  pub parcel : Parcel
  pub mark : ℕ
  pub grade : ℕ

abbrev pub packed_of : (Parcel → ℕ) → Job → Packed
packed_of mark job = record { parcel = parcel_of job; mark = mark (parcel_of job); grade = job.grade }

-- The name of the site and that of its neighbour. The number below which the site won't ask for its
-- jobs to be taken. The lowest grade of jobs that it wants back. Which of the neighbour's jobs it
-- has and which it refuses. The jobs that wait for the neighbour.
pub record Bundle : Type 0 where
  pub from : List ℕ
  pub to : List ℕ
  pub below : ℕ
  pub grade : ℕ
  pub has : List Told
  pub refused : List RefusedJob
  pub jobs : List Packed

-- ---- what a site has to say

-- the jobs that wait for the system
abbrev pub waiting_for : List ℕ → State → List Job
waiting_for system state = filter (λ job. same_text job.system system) state.jobs

-- the number of the first job that waits for the system, or the next number if none waits
abbrev pub below_of : List ℕ → State → ℕ
below_of system state = unwrap_or (option_map (λ job. job.number) (find (λ job. same_text job.system system) state.jobs)) state.next

-- the jobs that are kept as taken from the system, by their numbers there
abbrev pub has_of : List ℕ → State → List Told
has_of system state = map told_of (link_of state system).taken

-- the grade is this one or a higher one, if one is given
abbrev pub is_up_to : Option ℕ → ℕ → Bool
is_up_to None grade = true
is_up_to (Some lowest) grade = nat_le grade lowest

-- the job that waits for the system under this number, if a number is given
abbrev pub named_job : List ℕ → Option ℕ → State → Option Job
named_job system None state = None
named_job system (Some number) state = find (λ job. job.number == number && same_text job.system system) state.jobs

-- it comes after that job, by grade and number, if there is one
abbrev pub is_behind : Option Job → Job → Bool
is_behind None job = true
is_behind (Some first) job = goes_before (head_of first) (head_of job)

-- The jobs that wait for the system. If a grade is given, only those of it and of higher ones. If a
-- waiting job is named, only those after it.
abbrev pub jobs_to : List ℕ → Option ℕ → Option ℕ → State → List Job
jobs_to system lowest after state = filter (λ job. is_up_to lowest job.grade && is_behind (named_job system after state) job) (waiting_for system state)

-- those jobs, by grade and number
pub record AreWaiting (system : List ℕ) (lowest after : Option ℕ) (state : State) (jobs : List Job) : Type 0 where
  pub these : IsPermutation (jobs_to system lowest after state) jobs
  pub in_order : AreInOrder (map head_of jobs)

-- the first ones of a list
pub record IsFront {X : Type 0} (first all : List X) : Type 0 where
  pub rest : List X
  pub is : all ≡ first ++ rest

-- some of the jobs that wait for the system, by grade and number
pub record AreSomeWaiting (system : List ℕ) (state : State) (jobs : List Job) : Type 0 where
  pub there : All (Contains (waiting_for system state)) jobs
  pub in_order : AreInOrder (map head_of jobs)

-- A bundle that a site of this name may say to a system, if its jobs have these marks. It says only
-- what the site has, and shows only jobs that wait. It may say and show less than there is, because
-- what isn't said now is said later.
pub record IsSaid (own system : List ℕ) (mark : Parcel → ℕ) (state : State) (bundle : Bundle) : Type 0 where
  pub from : bundle.from ≡ own
  pub to : bundle.to ≡ system
  pub below : bundle.below ≡ below_of system state
  pub has : All (Contains (has_of system state)) bundle.has
  pub waiting : List Job
  pub are_waiting : AreSomeWaiting system state waiting
  pub jobs : bundle.jobs ≡ map (packed_of mark) waiting

-- ---- what is made of a bundle

-- the key under which a job of a neighbour of this name is handed in
abbrev pub key_for : List ℕ → Packed → Key
key_for from packed = record { from = from; number = packed.parcel.number; mark = packed.mark }

-- the commands for a bundle of a neighbour of this name, if this is made of its jobs: what it won't
-- ask for again is forgotten, and each job is handed in under its key
abbrev pub unpacked : List ℕ → (Packed → NewJob) → Bundle → List Command
unpacked from make bundle = Forget from bundle.below ∷ map (λ packed. QueueOnce (key_for from packed) (make packed)) bundle.jobs

-- one of these jobs has this number and this mark
abbrev pub is_asked : List Packed → Told → Bool
is_asked jobs told = list_any (λ packed. packed.parcel.number == told.number && packed.mark == told.mark) jobs

-- which of the system's jobs, as they are sent, are kept as taken
abbrev pub asked_of : List ℕ → State → List Packed → List Told
asked_of system state jobs = filter (is_asked jobs) (has_of system state)

-- a job that would be refused
abbrev pub refused_for : Packed → Option Refusal → List RefusedJob
refused_for packed None = []
refused_for packed (Some reason) = record { number = packed.parcel.number; mark = packed.mark; reason = reason } ∷ []

-- Which of the system's jobs, as they are sent, would be refused now, and why. (A job that is kept
-- as taken would not, because its key gets the same number again.)
abbrev pub refused_of : List ℕ → (Packed → NewJob) → State → List Packed → List RefusedJob
refused_of system make state jobs = flat_map (λ packed. refused_for packed (verdict state (QueueOnce (key_for system packed) (make packed)))) jobs

-- A bundle that answers jobs of the system, as they are sent. Of these it has all that are kept as
-- taken, and refuses all that would be refused.
pub record IsAnswerBundle (own system : List ℕ) (mark : Parcel → ℕ) (make : Packed → NewJob) (state : State) (asked : List Packed) (bundle : Bundle) : Type 0 where
  pub said : IsSaid own system mark state bundle
  pub has : bundle.has ≡ asked_of system state asked
  pub refused : bundle.refused ≡ refused_of system make state asked

-- a job that waits for the system has this number and this mark
abbrev pub is_settled : List ℕ → (Parcel → ℕ) → State → Told → Bool
is_settled system mark state told = list_any (λ job. same_text job.system system && job.number == told.number && mark (parcel_of job) == told.mark) state.jobs

-- of the jobs that the system has, the numbers of those that still wait for it here: they may be
-- reported as gone
abbrev pub settled_of : List ℕ → (Parcel → ℕ) → State → List Told → List ℕ
settled_of system mark state has = map (λ told. told.number) (filter (is_settled system mark state) has)

-- what a site does with a bundle of the system: it removes the jobs that the system has
abbrev pub settling : List ℕ → (Parcel → ℕ) → State → Bundle → Command
settling system mark state bundle = Release system (settled_of system mark state bundle.has)

-- what is read of a bundle that was cut off after its first line
pub record IsFrontOf (whole bundle : Bundle) : Type 0 where
  pub from : bundle.from ≡ whole.from
  pub to : bundle.to ≡ whole.to
  pub below : bundle.below ≡ whole.below
  pub grade : bundle.grade ≡ whole.grade
  pub has : IsFront bundle.has whole.has
  pub refused : IsFront bundle.refused whole.refused
  pub jobs : IsFront bundle.jobs whole.jobs

-- ---- a bundle that is sent, and the answer that comes back

-- The same job, made anew: for the same system, of the same kind, and with as many bytes. (The
-- envelope of mail that is handed on has the time at which it was made.)
pub record IsMadeAnew (made anew : NewJob) : Type 0 where
  pub system : anew.system ≡ made.system
  pub kind : anew.kind ≡ made.kind
  pub size : length anew.bytes ≡ length made.bytes

-- The neighbour, which has this name for the site, unpacked the bundle, and made this of its jobs. In
-- the state that it had then it answers. For that it makes the jobs anew, at a later second.
pub record BundleExchange (bundle : Bundle) : Type 0 where
  pub from : List ℕ
  pub made : Packed → NewJob
  pub neighbour : State
  pub later : State
  pub later_is : later ≡ state_after neighbour (unpacked from made bundle)
  pub make : Packed → NewJob
  pub anew : (packed : Packed) → IsMadeAnew (made packed) (make packed)
  pub own : List ℕ
  pub marks : Parcel → ℕ
  pub answer : Bundle
  pub answers : IsAnswerBundle own from marks make later bundle.jobs answer

-- it was packed from this job
pub record IsOfJob (mark : Parcel → ℕ) (job : Job) (packed : Packed) : Type 0 where
  pub number : packed.parcel.number ≡ job.number
  pub mark_is : packed.mark ≡ mark (parcel_of job)

-- the job no longer waits once the answer is settled, or the answer says why it is refused
abbrev pub GoesOrIsRefused : List ℕ → (Parcel → ℕ) → State → Bundle → Job → Type 0
GoesOrIsRefused system mark state answer job =
    (¬ Contains (after state (settling system mark state answer)).0.jobs job)
    ⊎ ((reason : Refusal) × Contains answer.refused (record { number = job.number; mark = mark (parcel_of job); reason = reason }))
