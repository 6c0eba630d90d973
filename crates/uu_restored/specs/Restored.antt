-- Two spools and a wire, as in custody. The sender's spool is copied now and then. Such a copy
-- may be put back later and renumbered, so that it gives none of the numbers that went on the wire
-- since. (What is kept of a copy, and the premise for putting it back, are this project's choice.)
use Rattle.std.specs.Prelude.{◌≡◌, ◌⊎◌, ⊤, ℕ, ◌<◌, ◌≤◌, Bool, true, ◌&&◌, nat_lt, nat_le, List, [], ◌∷◌, ◌++◌, filter, All, Contains}
use Rattle.std.specs.List.{list_all}
use Rattle.uu_core.specs.State.{State, Job, IsWellFormed, link_of, new_link}
use Rattle.uu_core.specs.Laws.{IsAmong}
use Rattle.uu_renumber.specs.Renumbered.{renumbered}
use Rattle.uu_handover.specs.Custody.{Crossing, parcel_of, World, Step, MayGo, go, start, IsQueued}

-- a spool as it was at some time, and the numbers of the jobs that had been killed in it
pub record Copy : Type 0 where
  pub spool : State
  pub killed : List ℕ

-- The two spools and the wire. The killed jobs are those of the past of the sender's spool as it
-- stands. The copies of the sender's spool that may still be put back. The numbers of jobs that
-- were killed in a past that was given up, since an earlier copy was put back. Whether each copy that
-- was put back was the newest of those that were kept.
pub record History : Type 0 where
  pub world : World
  pub copies : List Copy
  pub given_up : List ℕ
  pub is_newest : Bool

-- the sender's spool as it is
abbrev pub present : History → Copy
present history = record { spool = history.world.sender; killed = history.world.killed }

-- ---- what may happen

-- A step of custody. The sender's spool is copied. Of the copies only these are left. A copy is put
-- back in place of the sender's spool, and its next job gets this number or a later one.
pub data Event : Type 0 where
  Goes : (step : Step) → Event
  Copies : Event
  Leaves : (copies : List Copy) → Event
  PutsBack : (copy : Copy) (number : ℕ) → Event

-- The copy was kept. The next number of what is put back is above each number that went on the wire,
-- and not below one that the sender said. Nor is it below the next number of a copy that is kept.
pub record MayPutBack (history : History) (copy : Copy) (number : ℕ) : Type 0 where
  pub kept : Contains history.copies copy
  pub above : All (λ parcel. parcel.number < (renumbered number copy.spool).next) history.world.shown
  pub said : All (λ below. below ≤ (renumbered number copy.spool).next) history.world.said
  pub copies : All (λ other. other.spool.next ≤ (renumbered number copy.spool).next) history.copies

abbrev pub MayHappen : Crossing → History → Event → Type 0
MayHappen crossing history (Goes step) = MayGo crossing history.world step
MayHappen crossing history Copies = ⊤
MayHappen crossing history (Leaves copies) = All (Contains history.copies) copies
MayHappen crossing history (PutsBack copy number) = MayPutBack history copy number

-- ---- what happens then

-- no copy that is kept was made later than this one, as their next numbers tell
abbrev pub is_the_newest : List Copy → Copy → Bool
is_the_newest copies copy = list_all (λ other. nat_le other.spool.next copy.spool.next) copies

-- The copy is in the sender's place, with its own past. What went on the wire stays there, and the
-- receiver has what it has. A number that will be given again no longer counts as that of a job that
-- was killed in a past that was given up.
abbrev pub put_back : ℕ → Copy → History → History
put_back number copy history =
    let back = renumbered number copy.spool in
    record history {
      world = record history.world { sender = back; killed = copy.killed };
      given_up = filter (λ killed. nat_lt killed back.next) (history.world.killed ++ history.given_up);
      is_newest = history.is_newest && is_the_newest history.copies copy;
    }

abbrev pub happen : Crossing → History → Event → History
happen crossing history (Goes step) = record history { world = go crossing history.world step }
happen crossing history Copies = record history { copies = present history ∷ history.copies }
happen crossing history (Leaves copies) = record history { copies = copies }
happen crossing history (PutsBack copy number) = put_back number copy history

abbrev pub history_after : Crossing → History → List Event → History
history_after crossing history [] = history
history_after crossing history (event ∷ events) = history_after crossing (happen crossing history event) events

-- each of the events may happen in its turn
abbrev pub MayHappenOn : Crossing → History → List Event → Type 0
MayHappenOn crossing history [] = ⊤
MayHappenOn crossing history (event ∷ events) = MayHappen crossing history event × MayHappenOn crossing (happen crossing history event) events

-- ---- the histories that are reached

-- two spools, with whatever they hold, before the first parcel and the first copy
abbrev pub first : State → State → History
first sender receiver = record { world = start sender receiver; copies = []; given_up = []; is_newest = true }

pub record IsHistory (crossing : Crossing) (history : History) : Type 0 where
  pub sender : State
  pub receiver : State
  pub events : List Event
  pub sender_is : IsWellFormed sender
  pub receiver_is : IsWellFormed receiver
  pub nothing_kept : link_of receiver crossing.from ≡ new_link crossing.from
  pub may_happen : MayHappenOn crossing (first sender receiver) events
  pub history_is : history ≡ history_after crossing (first sender receiver) events

-- ---- what is claimed of them

-- the sender's spool as it is, or a copy of it that may still be put back
abbrev pub IsSpool : History → Copy → Type 0
IsSpool history copy = Contains (present history ∷ history.copies) copy

-- A spool gave the job its number. It has the job, or the job had been killed in it, or the receiver
-- queued it.
pub record IsKnown (crossing : Crossing) (world : World) (job : Job) (copy : Copy) : Type 0 where
  pub given : job.number < copy.spool.next
  pub has : IsAmong copy.spool.jobs job ⊎ Contains copy.killed job.number ⊎ IsQueued crossing world (parcel_of job)

-- a job was killed, maybe in a past that was given up, or the receiver queued it
abbrev pub IsDone : Crossing → History → Job → Type 0
IsDone crossing history job = Contains history.world.killed job.number ⊎ Contains history.given_up job.number ⊎ IsQueued crossing history.world (parcel_of job)

-- What the sender gives from now on was never used. Its next number is above those of parcels, of
-- the jobs that were killed in its past, and of the jobs in copies, and not below one that was said.
pub record CountsAnew (history : History) : Type 0 where
  pub shown : All (λ parcel. parcel.number < history.world.sender.next) history.world.shown
  pub killed : All (λ number. number < history.world.sender.next) history.world.killed
  pub copies : All (λ copy. All (λ job. job.number < history.world.sender.next) copy.spool.jobs) history.copies
  pub said : All (λ below. below ≤ history.world.sender.next) history.world.said
