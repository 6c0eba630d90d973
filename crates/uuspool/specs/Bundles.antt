-- What a site has to say to a neighbour: the bundle of a state, and the one that answers a bundle
-- of the neighbour's; and what becomes of the site's jobs in such a bundle. All of it is this
-- project's choice.
use Rattle.std.specs.Prelude.{◌≡◌, ◌&&◌, ◌==◌, ℕ, Bool, true, false, List, [], ◌∷◌, ◌++◌, codes, filter, map, min, nat_lt, Option, Some, None, unwrap_or, if◌then◌else◌}
use Rattle.std.specs.List.{flat_map, list_any}
use Rattle.uu_handover.specs.Bundles.{AreWaiting, Told as HasTold, below_of, is_settled, settled_of}
use Rattle.uu_handover.specs.Custody.{Parcel, parcel_of as as_parcel}
use Rattle.uu_core.specs.State.{State, Job, head_of, link_of, same_text}
use Rattle.uu_core.specs.Verdict.{verdict}
use Rattle.uu_core.specs.declared.command.Command.{Command}
use Rattle.uu_core.specs.declared.command.Command.TheVariants.{QueueOnce, Release}
use Rattle.uu_core.specs.declared.custody.Taken.{Taken}
use Rattle.uu_core.specs.declared.refusal.Refusal.{Refusal}
use Rattle.uu_bundle.specs.Bundles.{answer_bundle, bundle_text, most_bundle, packed_bundle, parcel_of}
use Rattle.uu_bundle.specs.Marks.{mark_of}
use Rattle.uu_bundle.specs.Texts.{marked_text}
use Rattle.uu_bundle.specs.declared.bundle.Bundle.{Bundle}
use Rattle.uu_bundle.specs.declared.bundle.Heading.{Heading}
use Rattle.uu_bundle.specs.declared.bundle.Parcel.{Parcel as BundledJob}
use Rattle.uu_bundle.specs.declared.bundle.Refused.{Refused}
use Rattle.uu_bundle.specs.declared.bundle.Told.{Told}
use Rattle.uu_report.specs.Reports.{IsSettleReport}
use Rattle.uu_request.specs.declared.request.Answering.{Answering}
use Rattle.uu_request.specs.declared.request.Packing.{Packing}
use Rattle.uu_request.specs.declared.request.Settling.{Settling}

-- ---- what every bundle of a state has

-- its first line: the site won't ask again for a job of a smaller number than this one
abbrev pub heading_for : List ℕ → Packing → State → Heading
heading_for from it s = record { from = from; to = it.system; spool = it.spool; below = below_of it.system s; grade = it.grade }

-- the job as it goes into a bundle
abbrev pub parcel_for : List ℕ → List ℕ → List ℕ → Job → BundledJob
parcel_for from to spool job = parcel_of from to spool (head_of job) job.bytes

-- The jobs that go into it, if there is room: those that wait for the neighbour, of this grade and
-- of higher ones, after the one that is named, by grade and number. If they are left out, there are
-- none.
abbrev pub AreToGoUnless : Bool → Packing → ℕ → State → List Job → Type 0
AreToGoUnless true it lowest s jobs = jobs ≡ []
AreToGoUnless false it lowest s jobs = AreWaiting it.system (Some lowest) it.after s jobs

abbrev pub AreToGo : Packing → ℕ → State → List Job → Type 0
AreToGo it lowest s jobs = AreToGoUnless it.no_jobs it lowest s jobs

abbrev pub parcels_for : List ℕ → Packing → List Job → List BundledJob
parcels_for from it jobs = map (parcel_for from it.system it.spool) jobs

-- the most bytes that it has, but for its first job: those that are given, and never more than any
-- bundle may have
abbrev pub most_of : Packing → ℕ
most_of it = min (unwrap_or it.most most_bundle) most_bundle

-- ---- the bundle of a state

-- it has as many of the neighbour's jobs that are kept as taken, and of the jobs that wait, as
-- there is room for
abbrev pub bundle_of : List ℕ → Packing → State → List Job → Bundle
bundle_of from it s jobs = packed_bundle (most_of it) (heading_for from it s) (link_of s it.system).taken (parcels_for from it jobs)

pub record IsBundleText (from : List ℕ) (it : Packing) (s : State) (text : List ℕ) : Type 0 where
  pub jobs : List Job
  pub are : AreToGo it it.grade s jobs
  pub is : text ≡ bundle_text (bundle_of from it s jobs)

-- ---- the bundle that answers one

-- the command hands in this taken job
abbrev pub hands_in : Taken → Command → Bool
hands_in taken (QueueOnce key job) = key.number == taken.number && key.mark == taken.mark
hands_in taken other = false

-- the neighbour's jobs that are kept as taken and that these commands hand in
abbrev pub taken_among : List Command → List Taken → List Taken
taken_among commands taken = filter (λ one. list_any (hands_in one) commands) taken

-- the job that the command hands in is refused for this reason, if there is one
abbrev pub refused_for : Command → Option Refusal → List Refused
refused_for (QueueOnce key job) (Some reason) = record { number = key.number; mark = key.mark; reason = reason } ∷ []
refused_for (QueueOnce key job) None = []
refused_for other reason = []

-- which of the jobs that these commands hand in would be refused now
abbrev pub refused_among : List Command → State → List Refused
refused_among commands s = flat_map (λ command. refused_for command (verdict s command)) commands

-- Of the jobs that the neighbour's bundle hands in, it has all that are kept as taken, and refuses
-- all that would be refused. Then it has as many of the waiting jobs as there is room for, of the
-- grade that the neighbour wants and of higher ones.
abbrev pub answer_of : List ℕ → Answering → State → List Job → Bundle
answer_of from it s jobs =
    answer_bundle (most_of it.packing) (heading_for from it.packing s) (taken_among it.commands (link_of s it.packing.system).taken) (refused_among it.commands s) (parcels_for from it.packing jobs)

pub record IsAnswerText (from : List ℕ) (it : Answering) (s : State) (text : List ℕ) : Type 0 where
  pub jobs : List Job
  pub are : AreToGo it.packing (min it.packing.grade it.asked) s jobs
  pub is : text ≡ bundle_text (answer_of from it s jobs)

-- ---- what is printed

abbrev pub no_system : List ℕ
no_system = codes "no system" ++ 10 ∷ []

-- there is a bundle for a system that is known
abbrev pub IsPacked : Bool → (List ℕ → Type 0) → List ℕ → ℕ → Type 0
IsPacked true IsText output status = IsText output × (status ≡ 0)
IsPacked false IsText output status = (output ≡ no_system) × (status ≡ 1)

-- ---- what the neighbour has, and what it refuses

-- the mark of a job, as a bundle has it
abbrev pub mark_for : List ℕ → List ℕ → List ℕ → Parcel → ℕ
mark_for from to spool job = mark_of (marked_text from to spool job.number job.user job.kind job.bytes)

abbrev pub as_told : Told → HasTold
as_told told = record { number = told.number; mark = told.mark }

abbrev pub numbers_told : List Told → List ℕ
numbers_told told = map (λ one. one.number) told

-- of these jobs, which the neighbour says that it has, the numbers of those that still wait for it
-- and are the same
abbrev pub settled_among : List ℕ → List ℕ → List ℕ → List Told → State → List ℕ
settled_among from to spool told s = settled_of to (mark_for from to spool) s (map as_told told)

-- Those with a greater number than each before them. In a bundle that a site has to say the numbers
-- rise, so these are all.
abbrev pub rising : ℕ → List Told → List Told
rising last [] = []
rising last (one ∷ told) = if nat_lt last one.number then one ∷ rising one.number told else rising last told

-- the numbers of the jobs that a bundle settles
abbrev pub settled_by : List ℕ → Settling → State → List ℕ
settled_by from it s = settled_among from it.system it.spool (rising 0 it.has) s

-- the job waits for the neighbour, and is one of those that it has
abbrev pub is_had : List ℕ → Settling → Job → Bool
is_had from it job =
    same_text job.system it.system
    && list_any (λ told. told.number == job.number && mark_for from it.system it.spool (as_parcel job) == told.mark) (rising 0 it.has)

-- the command that removes these jobs, if there are any
abbrev pub release_of : List ℕ → List ℕ → List Command
release_of system [] = []
release_of system (number ∷ numbers) = Release system (number ∷ numbers) ∷ []

-- the job that the neighbour refuses still waits for it, and is the same
abbrev pub is_refused_still : List ℕ → List ℕ → List ℕ → State → Refused → Bool
is_refused_still from to spool s one = is_settled to (mark_for from to spool) s (record { number = one.number; mark = one.mark })

-- of the jobs that the neighbour refuses, those that still wait for it
abbrev pub refused_still : List ℕ → List ℕ → List ℕ → List Refused → State → List Refused
refused_still from to spool refused s = filter (is_refused_still from to spool s) refused

-- what is reported for a bundle that is settled
abbrev pub IsSettleOutput : List ℕ → Settling → State → List ℕ → Type 0
IsSettleOutput from it s output = IsSettleReport it.system (settled_by from it s) (refused_still from it.system it.spool it.refused s) output
