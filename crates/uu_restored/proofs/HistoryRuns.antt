-- What always holds does so in each history that is reached.
use Rattle.std.proofs.Common.{◌≡◌, List, [], ◌∷◌, All, Contains, refl, sym, subst, inl}
use Rattle.std.proofs.lemmas.List.Elements.{All-contains}
use Rattle.uu_names.proofs.Basics.{none_in, in_one}
use Rattle.uu_core.specs.State.{State, Job, IsWellFormed, link_of, new_link, Link}
use Rattle.uu_handover.specs.Custody.{parcel_of, Crossing, Step, MayGo, go, start, IsNotLost}
use Rattle.uu_handover.specs.Custody.Step.{SenderRuns, SenderShows, SenderSays, ReceiverTakes, ReceiverRuns, ReceiverTells}
use Rattle.uu_handover.proofs.CustodyInvariant.{Holds}
use Rattle.uu_handover.proofs.CustodyLaws.{still_queued}
use Rattle.uu_handover.proofs.CustodyRuns.{holds_start}
use Rattle.uu_restored.specs.Restored.{Copy, History, present, Event, MayHappen, MayHappenOn, put_back, happen, history_after, first, IsHistory, IsSpool, IsKnown}
use Rattle.uu_restored.specs.Restored.Event.{Goes, Copies, Leaves, PutsBack}
use Rattle.uu_restored.proofs.HistoryInvariant.{silent, silenced, AreAlike, Knows, Lives, alike_within, own_known, the_present, a_copy, by_spool, known_on}
use Rattle.uu_restored.proofs.HistoryEvents.{after_take, after_tell, after_receiver, after_show, after_say, after_run, known_run, after_copy, after_leave, after_back, known_restored, known_copy}

after_step : (crossing : Crossing) (history : History) (step : Step) → Lives crossing history → MayGo crossing history.world step → Lives crossing (record history { world = go crossing history.world step })
after_step crossing history (SenderRuns command) h may = after_run crossing history h command may
after_step crossing history (SenderShows job) h may = after_show crossing history h job may
after_step crossing history (SenderSays below) h may = after_say crossing history h below may
after_step crossing history (ReceiverTakes parcel new) h may = after_take crossing history h parcel new may
after_step crossing history (ReceiverRuns command) h may = after_receiver crossing history h command may
after_step crossing history (ReceiverTells number) h may = after_tell crossing history h number may

pub after_event : (crossing : Crossing) (history : History) (event : Event) → Lives crossing history → MayHappen crossing history event → Lives crossing (happen crossing history event)
after_event crossing history (Goes step) h may = after_step crossing history step h may
after_event crossing history Copies h may = after_copy crossing history h
after_event crossing history (Leaves copies) h may = after_leave crossing history h copies may
after_event crossing history (PutsBack copy number) h may = after_back crossing history h copy number may

lives_on : (crossing : Crossing) (history : History) (events : List Event) → Lives crossing history → MayHappenOn crossing history events → Lives crossing (history_after crossing history events)
lives_on crossing history [] h may = h
lives_on crossing history (event ∷ events) h may = lives_on crossing (happen crossing history event) events (after_event crossing history event h may.0) may.1

lives_start : (crossing : Crossing) (sender receiver : State) → IsWellFormed sender → IsWellFormed receiver → link_of receiver crossing.from ≡ new_link crossing.from → Lives crossing (first sender receiver)
lives_start crossing sender receiver good well nothing = record {
  holds = holds;
  one = λ parcel other there. absurd (none_in parcel there);
  order = λ copy there. absurd (none_in copy there);
  next = λ copy there. absurd (none_in copy there);
  alike = λ copy other there inside. subst (λ (c : Copy). AreAlike c.spool other.spool) (in_one now copy there) (subst (λ (c : Copy). AreAlike sender c.spool) (in_one now other inside) (alike_within sender holds.sender_order));
  shown = λ copy there parcel job inside. absurd (none_in parcel inside);
  killed = λ copy there number inside. absurd (none_in number (subst (λ (c : Copy). Contains c.killed number) (sym (in_one now copy there)) inside));
  said = λ below there. absurd (none_in below there);
  heard = λ e. inl (subst (λ (l : Link). l.below ≡ 0) (sym nothing) refl);
  known = λ e copy other there inside. subst (λ c. Knows crossing (start sender receiver) c other) (in_one now copy there)
      (subst (Knows crossing (start sender receiver) now) (in_one now other inside) (own_known crossing (start sender receiver) now));
  behind = λ e copy there job below inside own said. absurd (none_in below said);
}
  where
    now : Copy
    now = record { spool = sender; killed = [] }

    holds : Holds crossing (silent (start sender receiver))
    holds = silenced crossing (start sender receiver) (holds_start crossing sender receiver good well nothing)

pub lives : (crossing : Crossing) (history : History) → IsHistory crossing history → Lives crossing history
lives crossing history it =
    subst (Lives crossing) (sym it.history_is) (lives_on crossing (first it.sender it.receiver) it.events (lives_start crossing it.sender it.receiver it.sender_is it.receiver_is it.nothing_kept) it.may_happen)

-- ---- a job that is known stays known

-- the job is known to the sender's spool and to each copy
abbrev IsKnownToAll : Crossing → History → Job → Type 0
IsKnownToAll crossing history job = (copy : Copy) → IsSpool history copy → IsKnown crossing history.world job copy

left : (crossing : Crossing) (history : History) (step : Step) (job : Job) (copy : Copy) → IsKnown crossing history.world job copy → IsKnown crossing (go crossing history.world step) job copy
left crossing history step job copy it = known_on crossing history.world (go crossing history.world step) job copy (still_queued crossing history.world step (parcel_of job)) it

known_step : (crossing : Crossing) (history : History) (step : Step) (job : Job) → Lives crossing history → MayGo crossing history.world step → job.system ≡ crossing.to → IsKnownToAll crossing history job
    → IsKnownToAll crossing (record history { world = go crossing history.world step }) job
known_step crossing history (SenderRuns command) job h may own all =
    by_spool (record history { world = go crossing history.world (SenderRuns command) }) (IsKnown crossing (go crossing history.world (SenderRuns command)) job)
    (known_run crossing history h command may job own (all (present history) (the_present history)))
    (λ copy there. left crossing history (SenderRuns command) job copy (all copy (a_copy history copy there)))
known_step crossing history (SenderShows one) job h may own all = λ copy there. left crossing history (SenderShows one) job copy (all copy there)
known_step crossing history (SenderSays below) job h may own all = λ copy there. left crossing history (SenderSays below) job copy (all copy there)
known_step crossing history (ReceiverTakes parcel new) job h may own all = λ copy there. left crossing history (ReceiverTakes parcel new) job copy (all copy there)
known_step crossing history (ReceiverRuns command) job h may own all = λ copy there. left crossing history (ReceiverRuns command) job copy (all copy there)
known_step crossing history (ReceiverTells number) job h may own all = λ copy there. left crossing history (ReceiverTells number) job copy (all copy there)

known_event : (crossing : Crossing) (history : History) (event : Event) (job : Job) → Lives crossing history → MayHappen crossing history event → job.system ≡ crossing.to → IsKnownToAll crossing history job → IsKnownToAll crossing (happen crossing history event) job
known_event crossing history (Goes step) job h may own all = known_step crossing history step job h may own all
known_event crossing history Copies job h may own all =
    by_spool (happen crossing history Copies) (IsKnown crossing history.world job) (all (present history) (the_present history)) (λ copy there. all copy there)
known_event crossing history (Leaves copies) job h may own all =
    by_spool (happen crossing history (Leaves copies)) (IsKnown crossing history.world job) (all (present history) (the_present history))
    (λ copy there. all copy (a_copy history copy (All-contains (Contains history.copies) copies copy may there)))
known_event crossing history (PutsBack copy number) job h may own all =
    by_spool (put_back number copy history) (IsKnown crossing (put_back number copy history).world job)
    (known_restored crossing history h copy number may job (all copy (a_copy history copy may.kept)))
    (λ other there. known_copy crossing history h copy number may job other (all other (a_copy history other there)))

known_events : (crossing : Crossing) (history : History) (events : List Event) (job : Job) → Lives crossing history → MayHappenOn crossing history events → job.system ≡ crossing.to → IsKnownToAll crossing history job
    → IsKnownToAll crossing (history_after crossing history events) job
known_events crossing history [] job h may own all = all
known_events crossing history (event ∷ events) job h may own all =
    known_events crossing (happen crossing history event) events job (after_event crossing history event h may.0) may.1 own (known_event crossing history event job h may.0 own all)

pub never_lost : (crossing : Crossing) (history : History) (events : List Event) (job : Job) → Lives crossing history → MayHappenOn crossing history events → job.system ≡ crossing.to
    → All (IsKnown crossing history.world job) (present history ∷ history.copies) → IsNotLost crossing (history_after crossing history events).world job
never_lost crossing history events job h may own all =
    let known = known_events crossing history events job h may own (λ copy there. All-contains (IsKnown crossing history.world job) (present history ∷ history.copies) copy all there) in
    (known (present (history_after crossing history events)) (the_present (history_after crossing history events))).has
