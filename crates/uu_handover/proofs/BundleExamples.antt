-- Bundles as computed. A letter crosses: mysite says that it waits, and duke, which took it, that it
-- has it. And of three letters one was taken before, one is refused, and one is new.
use Rattle.std.proofs.Common.{◌≡◌, ℕ, ◌+◌, List, [], ◌∷◌, ◌++◌, map, Contains, codes, refl, arith}
use Rattle.std.proofs.lemmas.List.Elements.{All-nil, All-cons}
use Rattle.uu_names.proofs.Basics.{first_of}
use Rattle.uu_times.specs.declared.moment.Moment.{Moment}
use Rattle.uu_core.specs.declared.command.Command.TheVariants.{Define, Queue, QueueOnce, Release}
use Rattle.uu_core.specs.declared.job.NewJob.{NewJob}
use Rattle.uu_core.specs.declared.refusal.Refusal.TheVariants.{Differs}
use Rattle.uu_core.specs.State.{State, Job, empty}
use Rattle.uu_core.specs.After.{after, job_of}
use Rattle.uu_core.specs.Run.{state_after}
use Rattle.uu_handover.specs.Custody.{Parcel, parcel_of, Crossing, Step, World, world_after, start}
use Rattle.uu_handover.specs.Custody.Step.{SenderRuns, SenderShows, ReceiverTakes, ReceiverTells}
use Rattle.uu_handover.specs.Bundles.{Bundle, Packed, packed_of, has_of, waiting_for, unpacked, asked_of, refused_of, IsSaid, settling}
use Rattle.uu_handover.proofs.CustodyExamples.{letter, forwarded, mysite, duke, crossing, system}

module _ (monday tuesday : Moment) where
  abbrev job : Job
  job = job_of 1 (letter monday tuesday)

  abbrev agreed : Crossing
  agreed = crossing monday tuesday

  -- what mysite says on Monday, and what duke does once it has taken the letter
  abbrev there : Bundle
  there = record { from = codes "mysite"; to = codes "duke"; below = 1; grade = 61; has = []; refused = []; jobs = packed_of agreed.mark job ∷ [] }

  abbrev back : Bundle
  back = record { from = codes "duke"; to = codes "mysite"; below = 2; grade = 61; has = record { number = 1; mark = 5 } ∷ []; refused = []; jobs = [] }

  abbrev before : World
  before = start (mysite monday tuesday) (duke monday tuesday)

  abbrev taken : List Step
  taken = SenderShows job ∷ ReceiverTakes (parcel_of job) (forwarded monday tuesday monday) ∷ []

  it_is_said : IsSaid agreed.from agreed.to agreed.mark before.sender there
  it_is_said = record {
    from = refl;
    to = refl;
    below = refl;
    has = λ k d within. absurd (omega (arith, within));
    waiting = job ∷ [];
    are_waiting = record { there = All-cons (Contains (waiting_for agreed.to before.sender)) job [] (first_of job []) (All-nil (Contains (waiting_for agreed.to before.sender))); in_order = λ i j d below within. absurd (omega (arith, below, within)) };
    jobs = refl;
  }

  it_is_told : IsSaid agreed.to agreed.from agreed.mark (world_after agreed before taken).receiver back
  it_is_told = record {
    from = refl;
    to = refl;
    below = refl;
    has = All-cons (Contains (has_of agreed.from (world_after agreed before taken).receiver)) (record { number = 1; mark = 5 }) [] (first_of (record { number = 1; mark = 5 }) []) (All-nil (Contains (has_of agreed.from (world_after agreed before taken).receiver)));
    waiting = [];
    are_waiting = record { there = λ k d within. absurd (omega (arith, within)); in_order = λ i j d below within. absurd (omega (arith, within)) };
    jobs = refl;
  }

  -- what was in the bundle goes on Tuesday
  abbrev steps : List Step
  steps = SenderShows job ∷ ReceiverTakes (parcel_of job) (forwarded monday tuesday monday) ∷ ReceiverTells 1 ∷ SenderRuns (Release (codes "duke") (1 ∷ [])) ∷ []

  it_went : (world_after agreed before steps).sender.jobs ≡ []
  it_went = refl

  it_came_once : (world_after agreed before steps).receiver.jobs ≡ job_of 1 (forwarded monday tuesday monday) ∷ []
  it_came_once = refl

  -- ---- three letters

  abbrev of_three : State
  of_three = state_after empty (Define (system monday tuesday (codes "duke")) ∷ Queue (letter monday tuesday) ∷ Queue (letter monday tuesday) ∷ Queue (letter monday tuesday) ∷ [])

  -- a letter's mark is made of its number
  abbrev marked : Parcel → ℕ
  marked parcel = 100 + parcel.number

  abbrev shown : Bundle
  shown = record {
    from = codes "mysite";
    to = codes "duke";
    below = 1;
    grade = 61;
    has = [];
    refused = [];
    jobs = map (packed_of marked) (job_of 1 (letter monday tuesday) ∷ job_of 2 (letter monday tuesday) ∷ job_of 3 (letter monday tuesday) ∷ []);
  }

  abbrev make : Packed → NewJob
  make packed = forwarded monday tuesday tuesday

  -- duke took letter 1 before, and another one under the number 2
  abbrev of_two : State
  of_two = state_after (duke monday tuesday)
      (QueueOnce (record { from = codes "mysite"; number = 1; mark = 101 }) (forwarded monday tuesday monday) ∷ QueueOnce (record { from = codes "mysite"; number = 2; mark = 7 }) (forwarded monday tuesday monday) ∷ [])

  abbrev later : State
  later = state_after of_two (unpacked (codes "mysite") make shown)

  -- it has the first and the third, and says that the second differs
  abbrev answer : Bundle
  answer = record { from = codes "duke"; to = codes "mysite"; below = 4; grade = 61; has = asked_of (codes "mysite") later shown.jobs; refused = refused_of (codes "mysite") make later shown.jobs; jobs = [] }

  it_has_two : answer.has ≡ record { number = 1; mark = 101 } ∷ record { number = 3; mark = 103 } ∷ []
  it_has_two = refl

  it_refuses_one : answer.refused ≡ record { number = 2; mark = 102; reason = Differs } ∷ []
  it_refuses_one = refl

  it_queued_one : later.jobs ≡ of_two.jobs ++ job_of 3 (forwarded monday tuesday tuesday) ∷ []
  it_queued_one = refl

  -- so the one that is refused is left
  one_waits : (after of_three (settling (codes "duke") marked of_three answer)).0.jobs ≡ job_of 2 (letter monday tuesday) ∷ []
  one_waits = refl
