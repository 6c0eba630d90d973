-- What always holds of two spools, a wire and the copies of the sender's spool.
use Rattle.std.proofs.Common.{◌≡◌, ℕ, ◌<◌, ◌≤◌, true, false, List, [], Contains, subst, inl, inr, ◌⊎◌}
use Rattle.std.proofs.lemmas.List.Elements.{All-nil}
use Rattle.uu_names.proofs.Basics.{first_of, later_of, first_or_later, one_of_number}
use Rattle.uu_core.specs.State.{State, Job}
use Rattle.uu_core.specs.Order.{IsInOrder}
use Rattle.uu_core.specs.Laws.{IsSameJob}
use Rattle.uu_handover.specs.Custody.{Parcel, parcel_of, Crossing, World, IsLeast, IsQueued}
use Rattle.uu_handover.proofs.CustodyLemmas.{same_parcel}
use Rattle.uu_handover.proofs.CustodyInvariant.{Holds, kept_of}
use Rattle.uu_restored.specs.Restored.{Copy, History, present, IsSpool, IsDone, IsKnown}
use Rattle.uu_restored.proofs.SpoolLemmas.{itself, among_back}

-- ---- the world, apart from what the sender said

-- What the sender said may be above numbers of jobs that a copy brings back. The rest of what custody
-- knows holds all the same, so it is said of a world where nothing was said.
abbrev pub silent : World → World
silent world = record world { said = []; is_heard = false }

pub silenced : (crossing : Crossing) (world : World) → Holds crossing world → Holds crossing (silent world)
silenced crossing world h = record {
  sender_order = h.sender_order;
  receiver_order = h.receiver_order;
  shown = h.shown;
  taken = λ row there. let was = h.taken row there in record { number = was.number; parcel = was.parcel; shown = was.shown; of = was.of; mark = was.mark };
  handed = h.handed;
  made = h.made;
  once = h.once;
  rising = h.rising;
  below_next = h.below_next;
  answered = h.answered;
  said = All-nil (IsLeast crossing world.sender);
  heard = λ e. absurd (cc);
}

-- ---- the invariant

-- jobs of the two spools that have one number are the same job
abbrev pub AreAlike : State → State → Type 0
AreAlike one other = (job twin : Job) → Contains one.jobs job → Contains other.jobs twin → job.number ≡ twin.number → IsSameJob job twin

-- a job of the spool with the number of a parcel on the wire is the parcel's job
abbrev pub AreShown : List Parcel → State → Type 0
AreShown shown spool = (parcel : Parcel) (job : Job) → Contains shown parcel → Contains spool.jobs job → job.number ≡ parcel.number → parcel_of job ≡ parcel

-- the one spool's jobs for the receiver are known to the other, if it gave their numbers
abbrev pub Knows : Crossing → World → Copy → Copy → Type 0
Knows crossing world one other = (job : Job) → Contains one.spool.jobs job → job.system ≡ crossing.to → job.number < other.spool.next → IsKnown crossing world job other

-- the spool's jobs for the receiver below what was said are done
abbrev pub AreBehind : Crossing → History → Copy → Type 0
AreBehind crossing history copy = (job : Job) (below : ℕ) → Contains copy.spool.jobs job → job.system ≡ crossing.to → Contains history.world.said below → job.number < below → IsDone crossing history job

-- the number is 0, or not above everything that was said
abbrev pub IsBelowSaid : List ℕ → ℕ → Type 0
IsBelowSaid said below = (below ≡ 0) ⊎ ((one : ℕ) × Contains said one × (below ≤ one))

pub record Lives (crossing : Crossing) (history : History) : Type 0 where
  pub holds : Holds crossing (silent history.world)
  pub one : (parcel other : Parcel) → Contains history.world.shown parcel → Contains history.world.shown other → parcel.number ≡ other.number → parcel ≡ other
  pub order : (copy : Copy) → Contains history.copies copy → IsInOrder copy.spool
  pub next : (copy : Copy) → Contains history.copies copy → copy.spool.next ≤ history.world.sender.next
  pub alike : (copy other : Copy) → IsSpool history copy → IsSpool history other → AreAlike copy.spool other.spool
  pub shown : (copy : Copy) → IsSpool history copy → AreShown history.world.shown copy.spool
  pub killed : (copy : Copy) → IsSpool history copy → (number : ℕ) → Contains copy.killed number → number < copy.spool.next
  pub said : (below : ℕ) → Contains history.world.said below → below ≤ history.world.sender.next
  pub heard : history.world.is_heard ≡ true → IsBelowSaid history.world.said (kept_of crossing history.world).below
  pub known : history.is_newest ≡ true → (copy other : Copy) → IsSpool history copy → IsSpool history other → Knows crossing history.world copy other
  pub behind : history.is_newest ≡ true → (copy : Copy) → IsSpool history copy → AreBehind crossing history copy

-- ---- one spool, or two

-- jobs of one spool with one number are one job
pub alike_within : (spool : State) → IsInOrder spool → AreAlike spool spool
alike_within spool order job twin there inside number =
    subst (IsSameJob job) (one_of_number (λ (j : Job). j.number) spool.jobs job twin order.rising there inside number) (itself job)

-- a spool knows its own jobs
pub own_known : (crossing : Crossing) (world : World) (copy : Copy) → Knows crossing world copy copy
own_known crossing world copy job there own given = record { given = given; has = inl (record { later = job; there = there; same = itself job }) }

pub the_present : (history : History) → IsSpool history (present history)
the_present history = first_of (present history) history.copies

pub a_copy : (history : History) (copy : Copy) → Contains history.copies copy → IsSpool history copy
a_copy history copy there = later_of (present history) copy history.copies there

pub by_spool : (history : History) (P : Copy → Type 0) → P (present history) → ((copy : Copy) → Contains history.copies copy → P copy) → (copy : Copy) → IsSpool history copy → P copy
by_spool history P now kept copy there = elim (first_or_later (present history) copy history.copies there) [
  | inl same ↦ subst P same now
  | inr later ↦ kept copy later
]

pub by_two : (history : History) (P : Copy → Copy → Type 0) → P (present history) (present history) → ((copy : Copy) → Contains history.copies copy → P (present history) copy)
    → ((copy : Copy) → Contains history.copies copy → P copy (present history)) → ((copy other : Copy) → Contains history.copies copy → Contains history.copies other → P copy other)
    → (copy other : Copy) → IsSpool history copy → IsSpool history other → P copy other
by_two history P both first second copies copy other there inside =
    by_spool history (λ one. P one other)
    (by_spool history (P (present history)) both first other inside)
    (λ one it. by_spool history (P one) (second one it) (λ next at. copies one next it at) other inside)
    copy there

-- ---- what goes on

-- what was done stays so, whatever a step adds
pub done_on : (crossing : Crossing) (history : History) (then : World) (job : Job) → (Contains history.world.killed job.number → Contains then.killed job.number) → (IsQueued crossing history.world (parcel_of job) → IsQueued crossing then (parcel_of job))
    → IsDone crossing history job → IsDone crossing (record history { world = then }) job
done_on crossing history then job killed queued (inl it) = inl (killed it)
done_on crossing history then job killed queued (inr (inl it)) = inr (inl it)
done_on crossing history then job killed queued (inr (inr it)) = inr (inr (queued it))

pub known_on : (crossing : Crossing) (world then : World) (job : Job) (copy : Copy) → (IsQueued crossing world (parcel_of job) → IsQueued crossing then (parcel_of job)) → IsKnown crossing world job copy → IsKnown crossing then job copy
known_on crossing world then job copy queued it = record {
  given = it.given;
  has = elim it.has [
    | inl among ↦ inl among
    | inr rest ↦ (elim rest [
      | inl killed ↦ inr (inl killed)
      | inr was ↦ inr (inr (queued was))
    ])
  ];
}

-- what holds of a job holds of what it was before
pub done_back : (crossing : Crossing) (history : History) (job later : Job) → IsSameJob job later → IsDone crossing history later → IsDone crossing history job
done_back crossing history job later same (inl killed) = inl (subst (Contains history.world.killed) same.number killed)
done_back crossing history job later same (inr (inl killed)) = inr (inl (subst (Contains history.given_up) same.number killed))
done_back crossing history job later same (inr (inr queued)) = inr (inr (subst (IsQueued crossing history.world) (same_parcel job later same) queued))

pub known_back : (crossing : Crossing) (world : World) (job later : Job) (copy : Copy) → IsSameJob job later → IsKnown crossing world later copy → IsKnown crossing world job copy
known_back crossing world job later copy same it = record {
  given = subst (λ n. n < copy.spool.next) same.number it.given;
  has = elim it.has [
    | inl among ↦ inl (among_back copy.spool.jobs job later same among)
    | inr rest ↦ (elim rest [
      | inl killed ↦ inr (inl (subst (Contains copy.killed) same.number killed))
      | inr queued ↦ inr (inr (subst (IsQueued crossing world) (same_parcel job later same) queued))
    ])
  ];
}
