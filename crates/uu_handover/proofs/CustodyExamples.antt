-- A letter that crosses, as computed: it is shown once and taken twice, reported, and asked for
-- again after the receiver has forgotten its key.
use Rattle.std.proofs.Common.{◌≡◌, ℕ, true, List, [], ◌∷◌, length, codes, refl}
use Rattle.uu_times.specs.declared.moment.Moment.{Moment}
use Rattle.uu_times.specs.System.{System}
use Rattle.uu_core.specs.declared.command.Command.TheVariants.{Define, Queue, Done, Forget}
use Rattle.uu_core.specs.declared.job.Kind.TheVariants.{Execute}
use Rattle.uu_core.specs.declared.job.NewJob.{NewJob}
use Rattle.uu_core.specs.State.{State, empty, same_text}
use Rattle.uu_core.specs.After.{job_of}
use Rattle.uu_core.specs.Run.{state_after}
use Rattle.uu_handover.specs.Custody.{Crossing, Step, World, parcel_of, world_after, start}
use Rattle.uu_handover.specs.Custody.Step.{SenderRuns, SenderShows, SenderSays, ReceiverTakes, ReceiverRuns}

module _ (monday tuesday : Moment) where
  abbrev pub system : List ℕ → System
  system name = record { name = name; lines = []; max_retries = 26; success_wait = 0 }

  -- a letter to joe at unc, and what duke makes of it
  abbrev pub letter : NewJob
  letter = record { system = codes "duke"; grade = 23; user = codes "ann"; kind = Execute (codes "rmail") (codes "unc!joe" ∷ []); bytes = codes "Hello"; at = monday }

  abbrev pub forwarded : Moment → NewJob
  forwarded at = record { system = codes "unc"; grade = 23; user = codes "ann"; kind = Execute (codes "rmail") (codes "joe" ∷ []); bytes = codes "Hello"; at = at }

  abbrev pub mysite : State
  mysite = state_after empty (Define (system (codes "duke")) ∷ Queue letter ∷ [])

  abbrev pub duke : State
  duke = state_after empty (Define (system (codes "mysite")) ∷ Define (system (codes "unc")) ∷ [])

  abbrev pub crossing : Crossing
  crossing = record { from = codes "mysite"; to = codes "duke"; mark = λ parcel. length parcel.bytes; makes = λ parcel new. same_text new.bytes parcel.bytes }

  abbrev steps : List Step
  steps =
      SenderShows (job_of 1 letter) ∷ ReceiverTakes (parcel_of (job_of 1 letter)) (forwarded monday) ∷ ReceiverTakes (parcel_of (job_of 1 letter)) (forwarded tuesday)
      ∷ SenderRuns (Done (codes "duke") tuesday (1 ∷ [])) ∷ SenderSays 2 ∷ ReceiverRuns (Forget (codes "mysite") 2)
      ∷ ReceiverTakes (parcel_of (job_of 1 letter)) (forwarded tuesday) ∷ []

  abbrev last : World
  last = world_after crossing (start mysite duke) steps

  it_waited : mysite.jobs ≡ job_of 1 letter ∷ []
  it_waited = refl

  it_went : last.sender.jobs ≡ []
  it_went = refl

  it_came_once : last.receiver.jobs ≡ job_of 1 (forwarded monday) ∷ []
  it_came_once = refl

  it_was_answered_twice : last.answered ≡ 1 ∷ 1 ∷ []
  it_was_answered_twice = refl

  only_what_was_said : last.is_heard ≡ true
  only_what_was_said = refl
