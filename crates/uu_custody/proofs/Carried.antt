-- What is carried in bundles keeps to the wire.
use Rattle.std.proofs.Common.{◌≡◌, ◌⊎◌, ◌≤◌, inl, inr, ℕ, Bool, true, false, cond, List, [], ◌∷◌, ◌++◌, map, take, All, Contains, sym, ap, ap₂, subst, ◌∙◌, arith}
use Rattle.std.specs.Cmp.Lexicographic.{bytes_decides}
use Rattle.std.proofs.lemmas.List.Elements.{All-nil, All-contains, All-weaker, Contains-append_left, Contains-append_right, Contains-push_cases}
use Rattle.uu_names.proofs.Basics.{first_of, later_of, first_or_later, none_in, from_map, in_map, in_append, in_one}
use Rattle.uu_times.specs.declared.moment.Moment.{Moment}
use Rattle.uu_core.specs.declared.command.Command.{Command}
use Rattle.uu_core.specs.declared.command.Command.TheVariants.{Define, Remove, Queue, QueueOnce, Kill, Regrade, Rejuvenate, Failed, Done, Release, Entry, Forget}
use Rattle.uu_core.specs.declared.custody.Key.{Key}
use Rattle.uu_core.specs.declared.job.NewJob.{NewJob}
use Rattle.uu_core.specs.State.{same_text}
use Rattle.uu_handover.specs.Bundles.{Bundle, Told, Packed}
use Rattle.uu_handover.specs.Custody.{Parcel, Crossing, key_of}
use Rattle.uu_custody.specs.Events.{Side, sender, receiver, Notice, waits, no_more, has, Event, answered, stopped, noticed, Wire, nothing_sent, answers_in, after_event, IsFromWire, MayBeGiven, KeepsToWire, MayForget, ForgetsWhatWasSaid}
use Rattle.uu_custody.specs.Carried.{Deed, runs, stops, says, notices_of, events_of, key_in, unpack, settle, other, commands_of, Bundles, nothing_said, IsBeside, IsOfLine, IsMarked, GoesByBundles}

-- ---- the wire keeps what is on it

record Grows (wire later : Wire) : Type 0 where
  parcels : (parcel : Parcel) → Contains wire.parcels parcel → Contains later.parcels parcel
  answers : (number : ℕ) → Contains wire.answers number → Contains later.answers number
  said : (number : ℕ) → Contains wire.said number → Contains later.said number

grows_event : (crossing : Crossing) (wire : Wire) (event : Event) → Grows wire (after_event crossing wire event)
grows_event crossing wire (answered sender command reply) = record { parcels = λ parcel there. there; answers = λ number there. there; said = λ number there. there }
grows_event crossing wire (answered receiver command reply) = record { parcels = λ parcel there. there; answers = λ number there. Contains-append_left wire.answers (answers_in crossing command reply) number there; said = λ number there. there }
grows_event crossing wire (stopped site in_hand unanswered ending) = record { parcels = λ parcel there. there; answers = λ number there. there; said = λ number there. there }
grows_event crossing wire (noticed (waits parcel)) = record { parcels = λ other there. Contains-append_left wire.parcels (parcel ∷ []) other there; answers = λ number there. there; said = λ number there. there }
grows_event crossing wire (noticed (no_more below)) = record { parcels = λ parcel there. there; answers = λ number there. there; said = λ number there. Contains-append_left wire.said (below ∷ []) number there }
grows_event crossing wire (noticed (has told)) = record { parcels = λ parcel there. there; answers = λ number there. Contains-append_left wire.answers (told ∷ []) number there; said = λ number there. there }

abbrev after_notices : Crossing → Wire → List Notice → Wire
after_notices crossing wire [] = wire
after_notices crossing wire (notice ∷ notices) = after_notices crossing (after_event crossing wire (noticed notice)) notices

grows_notices : (crossing : Crossing) (wire : Wire) (notices : List Notice) → Grows wire (after_notices crossing wire notices)
grows_notices crossing wire [] = record { parcels = λ parcel there. there; answers = λ number there. there; said = λ number there. there }
grows_notices crossing wire (notice ∷ notices) =
    let one = grows_event crossing wire (noticed notice) in
    let more = grows_notices crossing (after_event crossing wire (noticed notice)) notices in
    record { parcels = λ parcel there. more.parcels parcel (one.parcels parcel there); answers = λ number there. more.answers number (one.answers number there); said = λ number there. more.said number (one.said number there) }

-- ---- and gets what is noticed

IsOn : Wire → Notice → Type 0
IsOn wire (waits parcel) = Contains wire.parcels parcel
IsOn wire (no_more below) = Contains wire.said below
IsOn wire (has number) = Contains wire.answers number

still-on : (wire later : Wire) (notice : Notice) → Grows wire later → IsOn wire notice → IsOn later notice
unfolding IsOn
still-on wire later (waits parcel) grows on = grows.parcels parcel on
still-on wire later (no_more below) grows on = grows.said below on
still-on wire later (has number) grows on = grows.answers number on

now_on : (crossing : Crossing) (wire : Wire) (notice : Notice) → IsOn (after_event crossing wire (noticed notice)) notice
unfolding IsOn
now_on crossing wire (waits parcel) = Contains-append_right wire.parcels (parcel ∷ []) parcel (first_of parcel [])
now_on crossing wire (no_more below) = Contains-append_right wire.said (below ∷ []) below (first_of below [])
now_on crossing wire (has number) = Contains-append_right wire.answers (number ∷ []) number (first_of number [])

are_on : (crossing : Crossing) (wire : Wire) (notices : List Notice) (notice : Notice) → Contains notices notice → IsOn (after_notices crossing wire notices) notice
are_on crossing wire [] notice there = absurd (none_in notice there)
are_on crossing wire (one ∷ notices) notice there = elim (first_or_later one notice notices there) [
  | inl same ↦ subst (IsOn (after_notices crossing (after_event crossing wire (noticed one)) notices)) same
      (still-on (after_event crossing wire (noticed one)) (after_notices crossing (after_event crossing wire (noticed one)) notices) one (grows_notices crossing (after_event crossing wire (noticed one)) notices) (now_on crossing wire one))
  | inr later ↦ are_on crossing (after_event crossing wire (noticed one)) notices notice later
]

-- ---- what was said is on the wire

record Covers (crossing : Crossing) (bundles : Bundles) (wire : Wire) : Type 0 where
  jobs : (bundle : Bundle) → Contains bundles.out bundle → bundle.to ≡ crossing.to → (packed : Packed) → Contains bundle.jobs packed → Contains wire.parcels packed.parcel × (packed.mark ≡ crossing.mark packed.parcel)
  below : (bundle : Bundle) → Contains bundles.out bundle → bundle.to ≡ crossing.to → Contains wire.said bundle.below
  told : (bundle : Bundle) → Contains bundles.back bundle → bundle.to ≡ crossing.from → (told : Told) → Contains bundle.has told → Contains wire.answers told.number

still_covers : (crossing : Crossing) (bundles : Bundles) (wire later : Wire) → Grows wire later → Covers crossing bundles wire → Covers crossing bundles later
still_covers crossing bundles wire later grows c = record {
  jobs = λ bundle there to packed inside. let was = c.jobs bundle there to packed inside in (grows.parcels packed.parcel was.0, was.1);
  below = λ bundle there to. grows.said bundle.below (c.below bundle there to);
  told = λ bundle there to told inside. grows.answers told.number (c.told bundle there to told inside);
}

module _ (crossing : Crossing) (wire : Wire) (bundle : Bundle) where
  abbrev sent : List Notice
  sent = no_more bundle.below ∷ map (λ (packed : Packed). waits packed.parcel) bundle.jobs

  abbrev back : List Notice
  back = map (λ (told : Told). has told.number) bundle.has

  sent_on : bundle.to ≡ crossing.to → (notice : Notice) → Contains sent notice → IsOn (after_notices crossing wire (notices_of crossing sender bundle)) notice
  sent_on to notice there = are_on crossing wire (notices_of crossing sender bundle) notice (by-test (same_text bundle.to crossing.to) ((bytes_decides bundle.to crossing.to).1 to))
    where
      by-test : (t : Bool) → t ≡ true → Contains (cond t (no_more bundle.below ∷ map (λ (packed : Packed). waits packed.parcel) bundle.jobs) []) notice
      by-test true e = there
      by-test false e = absurd (cc)

  back_on : bundle.to ≡ crossing.from → (notice : Notice) → Contains back notice → IsOn (after_notices crossing wire (notices_of crossing receiver bundle)) notice
  back_on to notice there = are_on crossing wire (notices_of crossing receiver bundle) notice (by-test (same_text bundle.to crossing.from) ((bytes_decides bundle.to crossing.from).1 to))
    where
      by-test : (t : Bool) → t ≡ true → Contains (cond t (map (λ (told : Told). has told.number) bundle.has) []) notice
      by-test true e = there
      by-test false e = absurd (cc)

  covers_sent : (bundles : Bundles) → Covers crossing bundles wire → IsMarked crossing bundle → Covers crossing (record bundles { out = bundles.out ++ bundle ∷ [] }) (after_notices crossing wire (notices_of crossing sender bundle))
  unfolding IsOn
  covers_sent bundles c marked =
      let grown = still_covers crossing bundles wire (after_notices crossing wire (notices_of crossing sender bundle)) (grows_notices crossing wire (notices_of crossing sender bundle)) c in
      record {
        jobs = λ other there to packed inside. elim (Contains-push_cases bundles.out bundle other there) [
          | inl was ↦ grown.jobs other was to packed inside
          | inr same ↦
              (let own = subst (λ (b : Bundle). Contains b.jobs packed) (sym same) inside in
              let for = ap (λ (b : Bundle). b.to) same ∙ to in
              (sent_on for (waits packed.parcel) (later_of (no_more bundle.below) (waits packed.parcel) (map (λ (p : Packed). waits p.parcel) bundle.jobs) (in_map (λ (p : Packed). waits p.parcel) bundle.jobs packed own)), All-contains (λ (p : Packed). p.mark ≡ crossing.mark p.parcel) bundle.jobs packed (marked for) own))
        ];
        below = λ other there to. elim (Contains-push_cases bundles.out bundle other there) [
          | inl was ↦ grown.below other was to
          | inr same ↦ subst (λ (b : Bundle). Contains (after_notices crossing wire (notices_of crossing sender bundle)).said b.below) same
              (sent_on (ap (λ (b : Bundle). b.to) same ∙ to) (no_more bundle.below) (first_of (no_more bundle.below) (map (λ (p : Packed). waits p.parcel) bundle.jobs)))
        ];
        told = grown.told;
      }

  covers_back : (bundles : Bundles) → Covers crossing bundles wire → Covers crossing (record bundles { back = bundles.back ++ bundle ∷ [] }) (after_notices crossing wire (notices_of crossing receiver bundle))
  unfolding IsOn
  covers_back bundles c =
      let grown = still_covers crossing bundles wire (after_notices crossing wire (notices_of crossing receiver bundle)) (grows_notices crossing wire (notices_of crossing receiver bundle)) c in
      record {
        jobs = grown.jobs;
        below = grown.below;
        told = λ other there to told inside. elim (Contains-push_cases bundles.back bundle other there) [
          | inl was ↦ grown.told other was to told inside
          | inr same ↦ back_on (ap (λ (b : Bundle). b.to) same ∙ to) (has told.number) (in_map (λ (t : Told). has t.number) bundle.has told (subst (λ (b : Bundle). Contains b.has told) (sym same) inside))
        ];
      }

-- ---- a command of a line

-- what `unpack` gives
abbrev IsUnpacked : Bundle → (Packed → NewJob) → Command → Type 0
IsUnpacked bundle make command = (Forget bundle.from bundle.below ≡ command) ⊎ ((packed : Packed) × Contains bundle.jobs packed × (QueueOnce (key_in bundle packed) (make packed) ≡ command))

of_unpack : (bundle : Bundle) (make : Packed → NewJob) (command : Command) → Contains (commands_of (unpack bundle make)) command → IsUnpacked bundle make command
of_unpack bundle make command there = elim (first_or_later (Forget bundle.from bundle.below) command (map (λ (packed : Packed). QueueOnce (key_in bundle packed) (make packed)) bundle.jobs) there) [
  | inl same ↦ inl same
  | inr later ↦ inr (from_map (λ (packed : Packed). QueueOnce (key_in bundle packed) (make packed)) bundle.jobs command later)
]

module _ (crossing : Crossing) (bundles : Bundles) (wire : Wire) (c : Covers crossing bundles wire) where
  -- ---- the sender's

  reports : (system : List ℕ) (at : Moment) (jobs : List ℕ) → IsOfLine crossing bundles sender (Done system at jobs) → system ≡ crossing.to → All (Contains wire.answers) jobs
  reports system at jobs (unpack bundle make, may, there) own = absurd (by-case (of_unpack bundle make (Done system at jobs) there))
    where
      by-case : IsUnpacked bundle make (Done system at jobs) → ⊥
      by-case (inl e) = cc
      by-case (inr (packed, inside, e)) = cc
  reports system at jobs (settle bundle numbers, may, there) own = absurd (let same = in_one (Release bundle.from numbers) (Done system at jobs) there in cc)
  reports system at jobs (other command, may, there) own =
      let none = subst (IsBeside crossing sender) (in_one command (Done system at jobs) there) may own in
      subst (All (Contains wire.answers)) (sym none) (All-nil (Contains wire.answers))

  releases : (system jobs : List ℕ) → IsOfLine crossing bundles sender (Release system jobs) → system ≡ crossing.to → All (Contains wire.answers) jobs
  releases system jobs (unpack bundle make, may, there) own = absurd (by-case (of_unpack bundle make (Release system jobs) there))
    where
      by-case : IsUnpacked bundle make (Release system jobs) → ⊥
      by-case (inl e) = cc
      by-case (inr (packed, inside, e)) = cc
  releases system jobs (settle bundle numbers, may, there) own =
      let same = in_one (Release bundle.from numbers) (Release system jobs) there in
      let name : bundle.from ≡ system = cc in
      let named : numbers ≡ jobs = cc in
      let it = may (name ∙ own) in
      let whole = it.0.0 in
      let front = it.0.2 in
      subst (All (Contains wire.answers)) named
      (All-weaker (Contains (map (λ (t : Told). t.number) bundle.has)) (Contains wire.answers)
      (λ number inside.
      let one = from_map (λ (t : Told). t.number) bundle.has number inside in
      subst (Contains wire.answers) one.2 (c.told whole it.0.1 (sym front.to ∙ it.1) one.0 (in_append whole.has bundle.has front.has.rest one.0 front.has.is one.1)))
      numbers it.2)
  releases system jobs (other command, may, there) own =
      let none = subst (IsBeside crossing sender) (in_one command (Release system jobs) there) may own in
      subst (All (Contains wire.answers)) (sym none) (All-nil (Contains wire.answers))

  -- ---- the receiver's

  keeps_name : (name : List ℕ) → IsOfLine crossing bundles receiver (Remove name) → ¬ (name ≡ crossing.from)
  keeps_name name (unpack bundle make, may, there) own = by-case (of_unpack bundle make (Remove name) there)
    where
      by-case : IsUnpacked bundle make (Remove name) → ⊥
      by-case (inl e) = cc
      by-case (inr (packed, inside, e)) = cc
  keeps_name name (settle bundle numbers, may, there) own = let same = in_one (Release bundle.from numbers) (Remove name) there in cc
  keeps_name name (other command, may, there) own = subst (IsBeside crossing receiver) (in_one command (Remove name) there) may own

  agreed : (bundle : Bundle) (key : Key) (packed : Packed) → key_in bundle packed ≡ key → bundle.from ≡ crossing.from → packed.mark ≡ crossing.mark packed.parcel → key ≡ key_of crossing packed.parcel
  agreed bundle key packed same name mark = subst (λ k. k ≡ key_of crossing packed.parcel) same (ap₂ (λ n m. record { from = n; number = packed.parcel.number; mark = m }) name mark)

  from_bundle : (key : Key) (new : NewJob) → IsOfLine crossing bundles receiver (QueueOnce key new) → key.from ≡ crossing.from → IsFromWire crossing wire key new
  from_bundle key new (unpack bundle make, may, there) own = by-case (of_unpack bundle make (QueueOnce key new) there)
    where
      by-case : IsUnpacked bundle make (QueueOnce key new) → IsFromWire crossing wire key new
      by-case (inl e) = absurd (cc)
      by-case (inr (packed, inside, e)) =
          let same : key_in bundle packed ≡ key = cc in
          let job : make packed ≡ new = cc in
          let name : bundle.from ≡ crossing.from = ap (λ (k : Key). k.from) same ∙ own in
          let it = may name in
          let whole = it.0.0 in
          let front = it.0.2 in
          let on = c.jobs whole it.0.1 (sym front.to ∙ it.1) packed (in_append whole.jobs bundle.jobs front.jobs.rest packed front.jobs.is inside) in
          record {
            parcel = packed.parcel;
            there = on.0;
            key_is = agreed bundle key packed same name on.1;
            made = subst (λ j. crossing.makes packed.parcel j ≡ true) job (All-contains (λ (p : Packed). crossing.makes p.parcel (make p) ≡ true) bundle.jobs packed it.2 inside);
          }
  from_bundle key new (settle bundle numbers, may, there) own = absurd (let same = in_one (Release bundle.from numbers) (QueueOnce key new) there in cc)
  from_bundle key new (other command, may, there) own = absurd (subst (IsBeside crossing receiver) (in_one command (QueueOnce key new) there) may own)

  as_said : (system : List ℕ) (below : ℕ) → IsOfLine crossing bundles receiver (Forget system below) → system ≡ crossing.from → (said : ℕ) × Contains wire.said said × (below ≤ said)
  as_said system below (unpack bundle make, may, there) own = by-case (of_unpack bundle make (Forget system below) there)
    where
      by-case : IsUnpacked bundle make (Forget system below) → (said : ℕ) × Contains wire.said said × (below ≤ said)
      by-case (inl e) =
          let name : bundle.from ≡ system = cc in
          let low : bundle.below ≡ below = cc in
          let it = may (name ∙ own) in
          let whole = it.0.0 in
          let front = it.0.2 in
          let same = front.below in
          (whole.below, c.below whole it.0.1 (sym front.to ∙ it.1), omega (arith, low, same))
      by-case (inr (packed, inside, e)) = absurd (cc)
  as_said system below (settle bundle numbers, may, there) own = absurd (let same = in_one (Release bundle.from numbers) (Forget system below) there in cc)
  as_said system below (other command, may, there) own = absurd (subst (IsBeside crossing receiver) (in_one command (Forget system below) there) may own)

  may_be_given : (site : Side) (command : Command) → IsOfLine crossing bundles site command → MayBeGiven crossing wire site command
  may_be_given sender (Done system at jobs) of = reports system at jobs of
  may_be_given sender (Release system jobs) of = releases system jobs of
  may_be_given sender (Define def) of = tt
  may_be_given sender (Remove name) of = tt
  may_be_given sender (Queue new) of = tt
  may_be_given sender (QueueOnce key new) of = tt
  may_be_given sender (Kill job by) of = tt
  may_be_given sender (Regrade job grade by) of = tt
  may_be_given sender (Rejuvenate job at by) of = tt
  may_be_given sender (Failed system at why) of = tt
  may_be_given sender (Entry bytes) of = tt
  may_be_given sender (Forget system below) of = tt
  may_be_given receiver (Remove name) of = keeps_name name of
  may_be_given receiver (QueueOnce key new) of = from_bundle key new of
  may_be_given receiver (Define def) of = tt
  may_be_given receiver (Queue new) of = tt
  may_be_given receiver (Kill job by) of = tt
  may_be_given receiver (Regrade job grade by) of = tt
  may_be_given receiver (Rejuvenate job at by) of = tt
  may_be_given receiver (Failed system at why) of = tt
  may_be_given receiver (Done system at jobs) of = tt
  may_be_given receiver (Release system jobs) of = tt
  may_be_given receiver (Entry bytes) of = tt
  may_be_given receiver (Forget system below) of = tt

  may_forget : (site : Side) (command : Command) → IsOfLine crossing bundles site command → MayForget crossing wire site command
  may_forget receiver (Forget system below) of = as_said system below of
  may_forget receiver (Define def) of = tt
  may_forget receiver (Remove name) of = tt
  may_forget receiver (Queue new) of = tt
  may_forget receiver (QueueOnce key new) of = tt
  may_forget receiver (Kill job by) of = tt
  may_forget receiver (Regrade job grade by) of = tt
  may_forget receiver (Rejuvenate job at by) of = tt
  may_forget receiver (Failed system at why) of = tt
  may_forget receiver (Done system at jobs) of = tt
  may_forget receiver (Release system jobs) of = tt
  may_forget receiver (Entry bytes) of = tt
  may_forget sender (Define def) of = tt
  may_forget sender (Remove name) of = tt
  may_forget sender (Queue new) of = tt
  may_forget sender (QueueOnce key new) of = tt
  may_forget sender (Kill job by) of = tt
  may_forget sender (Regrade job grade by) of = tt
  may_forget sender (Rejuvenate job at by) of = tt
  may_forget sender (Failed system at why) of = tt
  may_forget sender (Done system at jobs) of = tt
  may_forget sender (Release system jobs) of = tt
  may_forget sender (Entry bytes) of = tt
  may_forget sender (Forget system below) of = tt

-- ---- all of a history

-- there is no premise about notices
keeps_behind : (crossing : Crossing) (wire : Wire) (notices : List Notice) (events : List Event) → KeepsToWire crossing (after_notices crossing wire notices) events → KeepsToWire crossing wire (map noticed notices ++ events)
keeps_behind crossing wire [] events keeps = keeps
keeps_behind crossing wire (notice ∷ notices) events keeps = (tt, keeps_behind crossing (after_event crossing wire (noticed notice)) notices events keeps)

forgets_behind : (crossing : Crossing) (wire : Wire) (notices : List Notice) (events : List Event) → ForgetsWhatWasSaid crossing (after_notices crossing wire notices) events → ForgetsWhatWasSaid crossing wire (map noticed notices ++ events)
forgets_behind crossing wire [] events keeps = keeps
forgets_behind crossing wire (notice ∷ notices) events keeps = (tt, forgets_behind crossing (after_event crossing wire (noticed notice)) notices events keeps)

keeps_on : (crossing : Crossing) (bundles : Bundles) (wire : Wire) (deeds : List (Deed Side)) → Covers crossing bundles wire → GoesByBundles crossing bundles deeds → KeepsToWire crossing wire (events_of crossing deeds) × ForgetsWhatWasSaid crossing wire (events_of crossing deeds)
keeps_on crossing bundles wire [] c goes = (tt, tt)
keeps_on crossing bundles wire (runs site command reply ∷ deeds) c goes =
    let then = after_event crossing wire (answered site command reply) in
    let rest = keeps_on crossing bundles then deeds (still_covers crossing bundles wire then (grows_event crossing wire (answered site command reply)) c) goes.1 in
    ((may_be_given crossing bundles wire c site command goes.0, rest.0), (may_forget crossing bundles wire c site command goes.0, rest.1))
keeps_on crossing bundles wire (stops site in_hand unanswered ending ∷ deeds) c goes =
    let rest = keeps_on crossing bundles wire deeds c goes.1 in (
      (All-weaker (IsOfLine crossing bundles site) (MayBeGiven crossing wire site) (λ command of. may_be_given crossing bundles wire c site command of) (take in_hand unanswered) goes.0, rest.0),
      (All-weaker (IsOfLine crossing bundles site) (MayForget crossing wire site) (λ command of. may_forget crossing bundles wire c site command of) (take in_hand unanswered) goes.0, rest.1),
    )
keeps_on crossing bundles wire (says sender bundle ∷ deeds) c goes =
    let notices = notices_of crossing sender bundle in
    let rest = keeps_on crossing (record bundles { out = bundles.out ++ bundle ∷ [] }) (after_notices crossing wire notices) deeds (covers_sent crossing wire bundle bundles c goes.0) goes.1 in
    (keeps_behind crossing wire notices (events_of crossing deeds) rest.0, forgets_behind crossing wire notices (events_of crossing deeds) rest.1)
keeps_on crossing bundles wire (says receiver bundle ∷ deeds) c goes =
    let notices = notices_of crossing receiver bundle in
    let rest = keeps_on crossing (record bundles { back = bundles.back ++ bundle ∷ [] }) (after_notices crossing wire notices) deeds (covers_back crossing wire bundle bundles c) goes.1 in
    (keeps_behind crossing wire notices (events_of crossing deeds) rest.0, forgets_behind crossing wire notices (events_of crossing deeds) rest.1)

pub keeps_to_wire : (crossing : Crossing) (deeds : List (Deed Side)) → GoesByBundles crossing nothing_said deeds → KeepsToWire crossing nothing_sent (events_of crossing deeds) × ForgetsWhatWasSaid crossing nothing_sent (events_of crossing deeds)
keeps_to_wire crossing deeds goes =
    keeps_on crossing nothing_said nothing_sent deeds (record { jobs = λ bundle there. absurd (none_in bundle there); below = λ bundle there. absurd (none_in bundle there); told = λ bundle there. absurd (none_in bundle there) }) goes
