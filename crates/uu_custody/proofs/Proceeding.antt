-- A history of two sites makes steps of custody.
use Rattle.std.proofs.Common.{◌≡◌, inl, inr, ℕ, nat_le, Bool, true, false, not, ◌||◌, cond, List, [], ◌∷◌, ◌++◌, map, take, All, Contains, refl, sym, ap, subst, subst₂, ◌∙◌, arith}
use Rattle.std.specs.Cmp.Lexicographic.{bytes_decides}
use Rattle.std.specs.List.{list_any}
use Rattle.std.proofs.lemmas.List.Elements.{All-head, All-tail, All-nil, All-weaker, Contains-append_left, Contains-append_right, Contains-append_cases, Contains-push_cases}
use Rattle.std.proofs.lemmas.Bool.{and_from, le-leb}
use Rattle.uu_names.proofs.Basics.{none_in, some_passes}
use Rattle.uu_core.specs.declared.command.Command.{Command}
use Rattle.uu_core.specs.declared.command.Command.TheVariants.{Define, Remove, Queue, QueueOnce, Kill, Regrade, Rejuvenate, Failed, Done, Release, Entry, Forget}
use Rattle.uu_core.specs.declared.command.Reply.{Reply}
use Rattle.uu_core.specs.declared.custody.Key.{Key}
use Rattle.uu_core.specs.declared.job.NewJob.{NewJob}
use Rattle.uu_core.specs.State.{same_text}
use Rattle.uu_core.specs.After.{after}
use Rattle.uu_core.specs.Run.{state_after}
use Rattle.uu_core.specs.Laws.{numbers_in}
use Rattle.uu_handover.specs.Custody.{Parcel, parcel_of, Crossing, key_of, World, MayRun, is_of_others, answer_to, was_said, go}
use Rattle.uu_handover.specs.Custody.Step.{SenderRuns, SenderShows, SenderSays, ReceiverTakes, ReceiverRuns, ReceiverTells}
use Rattle.uu_custody.specs.Events.{sender, receiver, waits, no_more, has, Event, answered, stopped, noticed, sessions_at, PassesTruly, Wire, answers_in, MayBeGiven, KeepsToWire, MayForget, ForgetsWhatWasSaid}
use Rattle.uu_custody.proofs.Sessions.{LastCounts, nothing, whole, first_passes, noticed_passes, last_passes}
use Rattle.uu_custody.proofs.Steps.{Proceeds, stays, sender_runs, sender_shows, sender_says, receiver_tells, receiver_runs, receiver_takes}

-- what is on the wire was put there in the world too
pub record Carries (world : World) (wire : Wire) : Type 0 where
  pub parcels : (parcel : Parcel) → Contains wire.parcels parcel → Contains world.shown parcel
  pub answers : (number : ℕ) → Contains wire.answers number → Contains world.answered number
  pub said : (number : ℕ) → Contains wire.said number → Contains world.said number

abbrev with_answers : Wire → List ℕ → Wire
with_answers wire numbers = record wire { answers = wire.answers ++ numbers }

fewer : (world : World) (wire : Wire) (numbers : List ℕ) → Carries world (with_answers wire numbers) → Carries world wire
fewer world wire numbers carries = record { parcels = carries.parcels; answers = λ number there. carries.answers number (Contains-append_left wire.answers numbers number there); said = carries.said }

-- ---- a command of the sender's

sends : (crossing : Crossing) (world : World) (wire : Wire) (command : Command) → Carries world wire → MayBeGiven crossing wire sender command → MayRun crossing world command
sends crossing world wire (Done system at jobs) carries may = λ own. All-weaker (Contains wire.answers) (Contains world.answered) (λ number there. carries.answers number there) jobs (may own)
sends crossing world wire (Release system jobs) carries may = λ own. All-weaker (Contains wire.answers) (Contains world.answered) (λ number there. carries.answers number there) jobs (may own)
sends crossing world wire (Define def) carries may = tt
sends crossing world wire (Remove name) carries may = tt
sends crossing world wire (Queue new) carries may = tt
sends crossing world wire (QueueOnce key new) carries may = tt
sends crossing world wire (Kill job by) carries may = tt
sends crossing world wire (Regrade job grade by) carries may = tt
sends crossing world wire (Rejuvenate job at by) carries may = tt
sends crossing world wire (Failed system at why) carries may = tt
sends crossing world wire (Entry bytes) carries may = tt
sends crossing world wire (Forget system below) carries may = tt

-- ---- a command of the receiver's

-- what both say about the sender's own number
told_of : (parcel : Parcel) (reply : Reply) (t : Bool) (number : ℕ) → Contains (cond t (map (λ n. parcel.number) (numbers_in (reply ∷ []))) []) number → Contains (answer_to parcel reply) number
told_of parcel reply true number more = more
told_of parcel reply false number more = absurd (none_in number more)

own_answers : (crossing : Crossing) (world : World) (wire : Wire) (parcel : Parcel) (reply : Reply) (new : NewJob) (number : ℕ) → Carries world wire
    → Contains (wire.answers ++ answers_in crossing (QueueOnce (key_of crossing parcel) new) reply) number → Contains (world.answered ++ answer_to parcel reply) number
own_answers crossing world wire parcel reply new number carries inside = elim (Contains-append_cases wire.answers (answers_in crossing (QueueOnce (key_of crossing parcel) new) reply) number inside) [
  | inl was ↦ Contains-append_left world.answered (answer_to parcel reply) number (carries.answers number was)
  | inr more ↦ Contains-append_right world.answered (answer_to parcel reply) number (told_of parcel reply (same_text crossing.from crossing.from) number more)
]

-- what was said on the wire was said in the world
forgets : (crossing : Crossing) (world : World) (wire : Wire) (system : List ℕ) (below : ℕ) → Carries world wire → MayForget crossing wire receiver (Forget system below) → was_said crossing world (Forget system below) ≡ true
forgets crossing world wire system below carries may = by-name (same_text system crossing.from) refl
  where
    by-name : (t : Bool) → same_text system crossing.from ≡ t → not t || list_any (λ said. nat_le below said) world.said ≡ true
    by-name false e = refl
    by-name true e =
        let it = may ((bytes_decides system crossing.from).0 e) in
        some_passes (λ said. nat_le below said) world.said it.0 (carries.said it.0 it.1) (le-leb below it.0 it.2)

-- in any world that follows, things go on from there
abbrev GoesOnFrom : Type 0 → Crossing → World → Wire → Command → List Command → List Command → Type 0
GoesOnFrom H crossing world wire command sent received =
    (then : World) → then.sender ≡ world.sender → then.receiver ≡ (after world.receiver command).0 → Carries then (with_answers wire (answers_in crossing command (after world.receiver command).1)) → (H → then.is_heard ≡ true) → Proceeds H crossing then sent received

module _ (H : Type 0) (crossing : Crossing) (world : World) (wire : Wire) (sent received : List Command) (carries : Carries world wire) (heard : H → world.is_heard ≡ true) where
  runs_other : (command : Command) → is_of_others crossing command ≡ true → answers_in crossing command (after world.receiver command).1 ≡ [] → (H → was_said crossing world command ≡ true) → GoesOnFrom H crossing world wire command sent received → Proceeds H crossing world sent (command ∷ received)
  runs_other command others silent said on =
      receiver_runs crossing world command sent received others (on (go crossing world (ReceiverRuns command)) refl refl (record {
        parcels = carries.parcels;
        answers = λ number there. elim (Contains-append_cases wire.answers (answers_in crossing command (after world.receiver command).1) number there) [
          | inl was ↦ carries.answers number was
          | inr new ↦ absurd (none_in number (subst (λ l. Contains l number) silent new))
        ];
        said = carries.said;
      }) (λ h. and_from world.is_heard (was_said crossing world command) (heard h) (said h)))

  takes : (parcel : Parcel) (new : NewJob) → Contains wire.parcels parcel → crossing.makes parcel new ≡ true → GoesOnFrom H crossing world wire (QueueOnce (key_of crossing parcel) new) sent received → Proceeds H crossing world sent (QueueOnce (key_of crossing parcel) new ∷ received)
  takes parcel new there made on =
      receiver_takes crossing world parcel new sent received (carries.parcels parcel there) made (on (go crossing world (ReceiverTakes parcel new)) refl refl (record {
        parcels = carries.parcels;
        answers = λ number inside. own_answers crossing world wire parcel (after world.receiver (QueueOnce (key_of crossing parcel) new)).1 new number carries inside;
        said = carries.said;
      }) heard)

  takes_or_runs : (key : Key) (new : NewJob) → MayBeGiven crossing wire receiver (QueueOnce key new) → GoesOnFrom H crossing world wire (QueueOnce key new) sent received → (t : Bool) → same_text key.from crossing.from ≡ t → Proceeds H crossing world sent (QueueOnce key new ∷ received)
  takes_or_runs key new may on true e =
      let it = may ((bytes_decides key.from crossing.from).0 e) in
      subst (λ k. GoesOnFrom H crossing world wire (QueueOnce k new) sent received → Proceeds H crossing world sent (QueueOnce k new ∷ received)) (sym it.key_is) (takes it.parcel new it.there it.made) on
  takes_or_runs key new may on false e =
      runs_other (QueueOnce key new) (ap not e) (ap (λ t. cond t (map (λ number. key.number) (numbers_in ((after world.receiver (QueueOnce key new)).1 ∷ []))) []) e) (λ h. refl) on

  receives : (command : Command) → MayBeGiven crossing wire receiver command → (H → MayForget crossing wire receiver command) → GoesOnFrom H crossing world wire command sent received → Proceeds H crossing world sent (command ∷ received)
  receives (QueueOnce key new) may forget on = takes_or_runs key new may on (same_text key.from crossing.from) refl
  receives (Remove name) may forget on = runs_other (Remove name) (other (same_text name crossing.from) refl) refl (λ h. refl) on
    where
      other : (t : Bool) → same_text name crossing.from ≡ t → not t ≡ true
      other true e = absurd (may ((bytes_decides name crossing.from).0 e))
      other false e = refl
  receives (Define def) may forget on = runs_other (Define def) refl refl (λ h. refl) on
  receives (Queue new) may forget on = runs_other (Queue new) refl refl (λ h. refl) on
  receives (Kill job by) may forget on = runs_other (Kill job by) refl refl (λ h. refl) on
  receives (Regrade job grade by) may forget on = runs_other (Regrade job grade by) refl refl (λ h. refl) on
  receives (Rejuvenate job at by) may forget on = runs_other (Rejuvenate job at by) refl refl (λ h. refl) on
  receives (Failed system at why) may forget on = runs_other (Failed system at why) refl refl (λ h. refl) on
  receives (Done system at jobs) may forget on = runs_other (Done system at jobs) refl refl (λ h. refl) on
  receives (Release system jobs) may forget on = runs_other (Release system jobs) refl refl (λ h. refl) on
  receives (Entry bytes) may forget on = runs_other (Entry bytes) refl refl (λ h. refl) on
  receives (Forget system below) may forget on = runs_other (Forget system below) refl refl (λ h. forgets crossing world wire system below carries (forget h)) on

-- ---- a stop

-- the sender carried out these commands, and nobody knows
sender_runs_all : (H : Type 0) (crossing : Crossing) (world : World) (wire : Wire) (here later received : List Command) → Carries world wire → (H → world.is_heard ≡ true) → All (MayBeGiven crossing wire sender) here
    → ((then : World) → then.sender ≡ state_after world.sender here → then.receiver ≡ world.receiver → Carries then wire → (H → then.is_heard ≡ true) → Proceeds H crossing then later received)
    → Proceeds H crossing world (here ++ later) received
sender_runs_all H crossing world wire [] later received carries heard may on = on world refl refl carries heard
sender_runs_all H crossing world wire (command ∷ more) later received carries heard may on =
    sender_runs crossing world command (more ++ later) received (sends crossing world wire command carries (All-head (MayBeGiven crossing wire sender) command more may))
    (sender_runs_all H crossing (go crossing world (SenderRuns command)) wire more later received (record { parcels = carries.parcels; answers = carries.answers; said = carries.said }) heard (All-tail (MayBeGiven crossing wire sender) command more may) on)

-- so did the receiver
receiver_runs_all : (H : Type 0) (crossing : Crossing) (world : World) (wire : Wire) (here sent later : List Command) → Carries world wire → (H → world.is_heard ≡ true) → All (MayBeGiven crossing wire receiver) here → (H → All (MayForget crossing wire receiver) here)
    → ((then : World) → then.sender ≡ world.sender → then.receiver ≡ state_after world.receiver here → Carries then wire → (H → then.is_heard ≡ true) → Proceeds H crossing then sent later)
    → Proceeds H crossing world sent (here ++ later)
receiver_runs_all H crossing world wire [] sent later carries heard may forget on = on world refl refl carries heard
receiver_runs_all H crossing world wire (command ∷ more) sent later carries heard may forget on =
    receives H crossing world wire sent (more ++ later) carries heard command (All-head (MayBeGiven crossing wire receiver) command more may) (λ h. All-head (MayForget crossing wire receiver) command more (forget h))
    (λ then sender_is receiver_is now hears. receiver_runs_all H crossing then wire more sent later (fewer then wire (answers_in crossing command (after world.receiver command).1) now) hears
    (All-tail (MayBeGiven crossing wire receiver) command more may) (λ h. All-tail (MayForget crossing wire receiver) command more (forget h))
    (λ last same gone carried hear. on last (same ∙ sender_is) (gone ∙ ap (λ s. state_after s more) receiver_is) carried hear))

module _ (H : Type 0) (crossing : Crossing) (world : World) (wire : Wire) (in_hand : ℕ) (unanswered here : List Command) (carries : Carries world wire) (heard : H → world.is_heard ≡ true) where
  sender_stops : (later received : List Command) → LastCounts in_hand unanswered here → All (MayBeGiven crossing wire sender) (take in_hand unanswered)
      → ((then : World) → then.sender ≡ state_after world.sender here → then.receiver ≡ world.receiver → Carries then wire → (H → then.is_heard ≡ true) → Proceeds H crossing then later received)
      → Proceeds H crossing world (here ++ later) received
  sender_stops later received (nothing none) may on = sender_runs_all H crossing world wire here later received carries heard (subst (All (MayBeGiven crossing wire sender)) (sym none) (All-nil (MayBeGiven crossing wire sender))) on
  sender_stops later received (whole all) may on = sender_runs_all H crossing world wire here later received carries heard (subst (All (MayBeGiven crossing wire sender)) (sym all) may) on

  receiver_stops : (sent later : List Command) → LastCounts in_hand unanswered here → All (MayBeGiven crossing wire receiver) (take in_hand unanswered) → (H → All (MayForget crossing wire receiver) (take in_hand unanswered))
      → ((then : World) → then.sender ≡ world.sender → then.receiver ≡ state_after world.receiver here → Carries then wire → (H → then.is_heard ≡ true) → Proceeds H crossing then sent later)
      → Proceeds H crossing world sent (here ++ later)
  receiver_stops sent later (nothing none) may forget on =
      receiver_runs_all H crossing world wire here sent later carries heard (subst (All (MayBeGiven crossing wire receiver)) (sym none) (All-nil (MayBeGiven crossing wire receiver)))
      (λ h. subst (All (MayForget crossing wire receiver)) (sym none) (All-nil (MayForget crossing wire receiver))) on
  receiver_stops sent later (whole all) may forget on =
      receiver_runs_all H crossing world wire here sent later carries heard (subst (All (MayBeGiven crossing wire receiver)) (sym all) may) (λ h. subst (All (MayForget crossing wire receiver)) (sym all) (forget h)) on

-- ---- all of it

pub proceeds : (H : Type 0) (crossing : Crossing) (events : List Event) (world : World) (wire : Wire) (sent received : List Command) → Carries world wire
    → PassesTruly crossing world.sender (sessions_at sender events) sent → PassesTruly crossing world.receiver (sessions_at receiver events) received
    → KeepsToWire crossing wire events → (H → ForgetsWhatWasSaid crossing wire events) → (H → world.is_heard ≡ true) → Proceeds H crossing world sent received
proceeds H crossing [] world wire sent received carries p q keeps forgets_so heard = subst₂ (Proceeds H crossing world) (sym p) (sym q) (stays crossing world heard)
proceeds H crossing (answered sender command reply ∷ events) world wire sent received carries p q keeps forgets_so heard =
    let one = first_passes crossing world.sender command reply (sessions_at sender events) sent p in
    subst (λ l. Proceeds H crossing world l received) (sym one.counted_is)
    (sender_runs crossing world command one.later received (sends crossing world wire command carries keeps.0)
    (proceeds H crossing events (go crossing world (SenderRuns command)) wire one.later received (record { parcels = carries.parcels; answers = carries.answers; said = carries.said }) one.passes q keeps.1 (λ h. (forgets_so h).1) heard))
proceeds H crossing (answered receiver command reply ∷ events) world wire sent received carries p q keeps forgets_so heard =
    let one = first_passes crossing world.receiver command reply (sessions_at receiver events) received q in
    subst (λ l. Proceeds H crossing world sent l) (sym one.counted_is)
    (receives H crossing world wire sent one.later carries heard command keeps.0 (λ h. (forgets_so h).0)
    (λ then sender_is receiver_is now hears. proceeds H crossing events then (with_answers wire (answers_in crossing command reply)) sent one.later
    (subst (λ r. Carries then (with_answers wire (answers_in crossing command r))) one.told now)
    (subst (λ s. PassesTruly crossing s (sessions_at sender events) sent) (sym sender_is) p)
    (subst (λ s. PassesTruly crossing s (sessions_at receiver events) one.later) (sym receiver_is) one.passes)
    keeps.1 (λ h. (forgets_so h).1) hears))
proceeds H crossing (stopped sender in_hand unanswered ending ∷ events) world wire sent received carries p q keeps forgets_so heard =
    let one = last_passes crossing world.sender in_hand unanswered ending (sessions_at sender events) sent p in
    subst (λ l. Proceeds H crossing world l received) (sym one.counted_is)
    (sender_stops H crossing world wire in_hand unanswered one.here carries heard one.later received one.last keeps.0
    (λ then sender_is receiver_is now hears. proceeds H crossing events then wire one.later received now
    (subst (λ s. PassesTruly crossing s (sessions_at sender events) one.later) (sym sender_is) one.passes)
    (subst (λ s. PassesTruly crossing s (sessions_at receiver events) received) (sym receiver_is) q)
    keeps.1 (λ h. (forgets_so h).1) hears))
proceeds H crossing (stopped receiver in_hand unanswered ending ∷ events) world wire sent received carries p q keeps forgets_so heard =
    let one = last_passes crossing world.receiver in_hand unanswered ending (sessions_at receiver events) received q in
    subst (λ l. Proceeds H crossing world sent l) (sym one.counted_is)
    (receiver_stops H crossing world wire in_hand unanswered one.here carries heard sent one.later one.last keeps.0 (λ h. (forgets_so h).0)
    (λ then sender_is receiver_is now hears. proceeds H crossing events then wire sent one.later now
    (subst (λ s. PassesTruly crossing s (sessions_at sender events) sent) (sym sender_is) p)
    (subst (λ s. PassesTruly crossing s (sessions_at receiver events) one.later) (sym receiver_is) one.passes)
    keeps.1 (λ h. (forgets_so h).1) hears))
proceeds H crossing (noticed (waits parcel) ∷ events) world wire sent received carries p q keeps forgets_so heard =
    let one = noticed_passes crossing world.sender (waits parcel) (sessions_at sender events) sent p in
    let job = one.0.job in
    sender_shows crossing world job sent received one.0.there one.0.system
    (proceeds H crossing events (go crossing world (SenderShows job)) (record wire { parcels = wire.parcels ++ parcel ∷ [] }) sent received
    (record {
      parcels = λ other there. elim (Contains-push_cases wire.parcels parcel other there) [
        | inl was ↦ Contains-append_left world.shown (parcel_of job ∷ []) other (carries.parcels other was)
        | inr new ↦ subst (Contains (world.shown ++ parcel_of job ∷ [])) (one.0.is ∙ new) (Contains-append_right world.shown (parcel_of job ∷ []) (parcel_of job) (0, omega arith, refl))
      ];
      answers = carries.answers;
      said = carries.said;
    })
    one.1 q keeps.1 (λ h. (forgets_so h).1) heard)
proceeds H crossing (noticed (no_more below) ∷ events) world wire sent received carries p q keeps forgets_so heard =
    let one = noticed_passes crossing world.sender (no_more below) (sessions_at sender events) sent p in
    sender_says crossing world below sent received one.0
    (proceeds H crossing events (go crossing world (SenderSays below)) (record wire { said = wire.said ++ below ∷ [] }) sent received
    (record {
      parcels = carries.parcels;
      answers = carries.answers;
      said = λ number there. elim (Contains-push_cases wire.said below number there) [
        | inl was ↦ Contains-append_left world.said (below ∷ []) number (carries.said number was)
        | inr new ↦ subst (Contains (world.said ++ below ∷ [])) new (Contains-append_right world.said (below ∷ []) below (0, omega arith, refl))
      ];
    })
    one.1 q keeps.1 (λ h. (forgets_so h).1) heard)
proceeds H crossing (noticed (has number) ∷ events) world wire sent received carries p q keeps forgets_so heard =
    let one = noticed_passes crossing world.receiver (has number) (sessions_at receiver events) received q in
    receiver_tells crossing world number sent received one.0
    (proceeds H crossing events (go crossing world (ReceiverTells number)) (record wire { answers = wire.answers ++ number ∷ [] }) sent received
    (record {
      parcels = carries.parcels;
      answers = λ told there. elim (Contains-push_cases wire.answers number told there) [
        | inl was ↦ Contains-append_left world.answered (number ∷ []) told (carries.answers told was)
        | inr new ↦ subst (Contains (world.answered ++ number ∷ [])) new (Contains-append_right world.answered (number ∷ []) number (0, omega arith, refl))
      ];
      said = carries.said;
    })
    p one.1 keeps.1 (λ h. (forgets_so h).1) heard)
