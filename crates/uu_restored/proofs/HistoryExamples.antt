-- A spool that is put back, as computed. A letter is queued, and the spool is copied. Then the letter
-- crosses, and another one behind it. The copy is put back, and a third letter is queued.
use Rattle.std.proofs.Common.{◌≡◌, ℕ, ◌<◌, ◌≤◌, true, false, List, [], ◌∷◌, ◌++◌, map, length, codes, Contains, All, Some, refl, arith}
use Rattle.std.proofs.lemmas.List.Elements.{All-nil, All-cons}
use Rattle.uu_names.proofs.Basics.{first_of, later_of}
use Rattle.uu_times.specs.declared.moment.Moment.{Moment}
use Rattle.uu_times.specs.System.{System}
use Rattle.uu_core.specs.declared.command.Command.TheVariants.{Define, Queue, QueueOnce, Kill, Done, Forget}
use Rattle.uu_core.specs.declared.job.Kind.TheVariants.{Execute}
use Rattle.uu_core.specs.declared.job.NewJob.{NewJob}
use Rattle.uu_core.specs.declared.refusal.Refusal.TheVariants.{Stale}
use Rattle.uu_core.specs.State.{State, Job, empty, same_text}
use Rattle.uu_core.specs.Verdict.{verdict}
use Rattle.uu_core.specs.After.{job_of}
use Rattle.uu_core.specs.Run.{state_after}
use Rattle.uu_handover.specs.Custody.{Crossing, Parcel, parcel_of, key_of, IsLeast}
use Rattle.uu_handover.specs.Custody.Step.{SenderRuns, SenderShows, SenderSays, ReceiverTakes, ReceiverRuns}
use Rattle.uu_restored.specs.Restored.{Copy, History, Event, MayHappenOn, history_after, first}
use Rattle.uu_restored.specs.Restored.Event.{Goes, Copies, PutsBack}

-- one thing, and more
infixr 10 ◌&◌
abbrev ◌&◌ : {A B : Type 0} → A → B → A × B
a & b = (a, b)

module _ (monday tuesday : Moment) where
  abbrev system : List ℕ → System
  system name = record { name = name; lines = []; max_retries = 26; success_wait = 0 }

  -- letters to users at unc, and what duke makes of each
  abbrev letter : List ℕ → NewJob
  letter text = record { system = codes "duke"; grade = 23; user = codes "ann"; kind = Execute (codes "rmail") (codes "unc!joe" ∷ []); bytes = text; at = monday }

  abbrev forwarded : List ℕ → NewJob
  forwarded text = record { system = codes "unc"; grade = 23; user = codes "ann"; kind = Execute (codes "rmail") (codes "joe" ∷ []); bytes = text; at = tuesday }

  abbrev mysite : State
  mysite = state_after empty (Define (system (codes "duke")) ∷ Queue (letter (codes "Hello")) ∷ [])

  abbrev copied : Copy
  copied = record { spool = mysite; killed = [] }

  abbrev duke : State
  duke = state_after empty (Define (system (codes "mysite")) ∷ Define (system (codes "unc")) ∷ [])

  abbrev crossing : Crossing
  crossing = record { from = codes "mysite"; to = codes "duke"; mark = λ parcel. length parcel.bytes; makes = λ parcel new. same_text new.bytes parcel.bytes }

  abbrev one : Job
  one = job_of 1 (letter (codes "Hello"))

  abbrev two : Job
  two = job_of 2 (letter (codes "Again"))

  -- the third letter, under the number that it gets
  abbrev third : ℕ → Job
  third number = job_of number (letter (codes "Third"))

  -- the job goes on the wire, and duke takes it
  abbrev crosses : Job → List Event
  crosses job = Goes (SenderShows job) ∷ Goes (ReceiverTakes (parcel_of job) (forwarded job.bytes)) ∷ []

  abbrev before : List Event
  before = Copies ∷ crosses one ++ Goes (SenderRuns (Queue (letter (codes "Again")))) ∷ crosses two ++ Goes (SenderRuns (Done (codes "duke") tuesday (1 ∷ 2 ∷ []))) ∷ []

  -- what was handed in is forgotten, the copy is put back, and the third letter crosses
  abbrev events : List Event
  events = before ++ Goes (SenderSays 3) ∷ Goes (ReceiverRuns (Forget (codes "mysite") 3)) ∷ PutsBack copied 3 ∷ Goes (SenderRuns (Queue (letter (codes "Third")))) ∷ crosses (third 3)

  abbrev last : History
  last = history_after crossing (first mysite duke) events

  all_came_once : map (λ (job : Job). job.bytes) last.world.receiver.jobs ≡ codes "Hello" ∷ codes "Again" ∷ codes "Third" ∷ []
  all_came_once = refl

  the_first_waits_again : last.world.sender.jobs ≡ one ∷ third 3 ∷ []
  the_first_waits_again = refl

  it_is_stale : verdict last.world.receiver (QueueOnce (key_of crossing (parcel_of one)) (forwarded (codes "Hello"))) ≡ Some Stale
  it_is_stale = refl

  it_was_the_newest : last.is_newest ≡ true
  it_was_the_newest = refl

  only_what_was_said : last.world.is_heard ≡ true
  only_what_was_said = refl

  -- each of these events may happen, as each premise holds
  abbrev none : State
  none = state_after mysite (Queue (letter (codes "Again")) ∷ Done (codes "duke") tuesday (1 ∷ 2 ∷ []) ∷ [])

  abbrev numbers : List ℕ
  numbers = 1 ∷ 2 ∷ []

  told : All (Contains numbers) numbers
  told =
      All-cons (Contains numbers) 1 (2 ∷ []) (first_of 1 (2 ∷ []))
      (All-cons (Contains numbers) 2 [] (later_of 1 2 (2 ∷ []) (first_of 2 [])) (All-nil (Contains numbers)))

  least : IsLeast crossing none 3
  least = record { now = All-nil (λ (job : Job). job.system ≡ codes "duke" → 3 ≤ job.number); later = omega arith }

  above : All (λ (parcel : Parcel). parcel.number < 3) (parcel_of one ∷ parcel_of two ∷ [])
  above =
      All-cons (λ (parcel : Parcel). parcel.number < 3) (parcel_of one) (parcel_of two ∷ []) (omega arith)
      (All-cons (λ (parcel : Parcel). parcel.number < 3) (parcel_of two) [] (omega arith) (All-nil (λ (parcel : Parcel). parcel.number < 3)))

  not_below : All (λ below. below ≤ 3) (3 ∷ [])
  not_below = All-cons (λ below. below ≤ 3) 3 [] (omega arith) (All-nil (λ below. below ≤ 3))

  copies : All (λ (copy : Copy). copy.spool.next ≤ 3) (copied ∷ [])
  copies = All-cons (λ (copy : Copy). copy.spool.next ≤ 3) copied [] (omega arith) (All-nil (λ (copy : Copy). copy.spool.next ≤ 3))

  pub they_may_happen : MayHappenOn crossing (first mysite duke) events
  they_may_happen =
      tt & (first_of one [], refl) & (first_of (parcel_of one) [], refl)
      & tt & (later_of one two (two ∷ []) (first_of two []), refl) & (later_of (parcel_of one) (parcel_of two) (parcel_of two ∷ []) (first_of (parcel_of two) []), refl)
      & (λ same. told) & least & refl & record { kept = first_of copied []; above = above; said = not_below; copies = copies }
      & tt & (later_of one (third 3) (third 3 ∷ []) (first_of (third 3) []), refl) & (in_shown, refl) & tt
    where
      in_shown : Contains (parcel_of one ∷ parcel_of two ∷ parcel_of (third 3) ∷ []) (parcel_of (third 3))
      in_shown =
          later_of (parcel_of one) (parcel_of (third 3)) (parcel_of two ∷ parcel_of (third 3) ∷ [])
          (later_of (parcel_of two) (parcel_of (third 3)) (parcel_of (third 3) ∷ []) (first_of (parcel_of (third 3)) []))

  -- ---- killed after the copy was made

  -- the first letter is killed, waits again after the copy is put back, and crosses
  abbrev again : History
  again = history_after crossing (first mysite duke) (Copies ∷ Goes (SenderRuns (Kill 1 (record { user = codes "ann"; admin = false }))) ∷ PutsBack copied 2 ∷ crosses one)

  it_comes_once : map (λ (job : Job). job.bytes) again.world.receiver.jobs ≡ codes "Hello" ∷ []
  it_comes_once = refl

  it_is_killed_no_more : (again.world.killed ≡ []) × (again.given_up ≡ 1 ∷ [])
  it_is_killed_no_more = (refl, refl)

  -- ---- without a later number

  -- the third letter gets the number of the second, whose mark it has, and counts as taken
  abbrev too_low : History
  too_low = history_after crossing (first mysite duke) (before ++ PutsBack copied 2 ∷ Goes (SenderRuns (Queue (letter (codes "Third")))) ∷ crosses (third 2))

  the_third_is_lost : map (λ (job : Job). job.bytes) too_low.world.receiver.jobs ≡ codes "Hello" ∷ codes "Again" ∷ []
  the_third_is_lost = refl
