-- The invariant holds in each world that is reached.
use Rattle.std.proofs.Common.{◌≡◌, ◌<◌, Bool, true, false, List, [], ◌∷◌, ◌++◌, map, Contains, Option, Some, None, refl, ap, sym, subst}
use Rattle.std.proofs.lemmas.Bool.{eqb-true, eq-eqb, both_ways}
use Rattle.std.proofs.lemmas.List.Elements.{All-nil}
use Rattle.uu_names.proofs.Basics.{none_in, some_passes, find_there, find_none}
use Rattle.uu_core.specs.declared.command.Command.{Command}
use Rattle.uu_core.specs.declared.command.Command.TheVariants.{QueueOnce}
use Rattle.uu_core.specs.declared.command.Reply.TheVariants.{Number}
use Rattle.uu_core.specs.declared.custody.HandIn.{HandIn}
use Rattle.uu_core.specs.declared.custody.HandIn.TheVariants.{First, Again}
use Rattle.uu_core.specs.declared.custody.Key.{Key}
use Rattle.uu_core.specs.declared.custody.Taken.{Taken}
use Rattle.uu_core.specs.declared.job.NewJob.{NewJob}
use Rattle.uu_core.specs.declared.refusal.Refusal.{Refusal}
use Rattle.uu_core.specs.State.{State, Job, Link, IsWellFormed, link_of, new_link, is_taken}
use Rattle.uu_core.specs.Verdict.{verdict, is_again, taken_of}
use Rattle.uu_core.specs.After.{after, after_verdict, hand_in_number, with_job_once}
use Rattle.uu_core.specs.Run.{state_after}
use Rattle.uu_core.specs.Order.{IsInOrder}
use Rattle.uu_handover.specs.Custody.{Parcel, Crossing, key_of, Handed, World, Step, IsLeast, MayGo, MayGoOn, handed_for, go, world_after, start, IsReached}
use Rattle.uu_handover.specs.Custody.Step.{SenderRuns, SenderShows, SenderSays, ReceiverTakes, ReceiverRuns, ReceiverTells}
use Rattle.uu_core.proofs.KeyLemmas.{by_hand_in, first_why}
use Rattle.uu_core.proofs.WellFormedLemmas.{pairs_nil}
use Rattle.uu_core.proofs.OrderLemmas.{still_in_order}
use Rattle.uu_handover.proofs.CustodyLemmas.{least_zero}
use Rattle.uu_handover.proofs.CustodyInvariant.{Holds, IsIn, kept_of, answering, one_added, take_refused, take_again, take-first, after_sender, after_show, after_say, after_receiver, after_tell}

module _ (crossing : Crossing) (world : World) (h : Holds crossing world) (parcel : Parcel) (new : NewJob) (inside : Contains world.shown parcel) (made : crossing.makes parcel new ≡ true) where
  abbrev key : Key
  key = key_of crossing parcel

  abbrev command : Command
  command = QueueOnce key new

  -- no row has the number of one that is not found
  fresh : taken_of world.receiver key ≡ None → (other : Taken) → Contains (kept_of crossing world).taken other → other.number ≡ parcel.number → ⊥
  fresh none other there same =
      both_ways _ (find_none (is_taken parcel.number) (kept_of crossing world).taken none) (some_passes (is_taken parcel.number) (kept_of crossing world).taken other there (eq-eqb other.number parcel.number same))

  abbrev Comes : Bool → HandIn → Type 0
  Comes again comes = is_again (taken_of world.receiver key) key ≡ again → IsInOrder (with_job_once comes key new world.receiver) → Holds crossing (answering crossing world h parcel (with_job_once comes key new world.receiver, Number (hand_in_number comes)))

  comes_first : verdict world.receiver command ≡ None → Comes false (First world.receiver.next)
  comes_first e first order =
      let why = first_why world.receiver key new e first in
      subst (Holds crossing)
      (sym (ap (λ (jobs : List Job). record world { receiver = with_job_once (First world.receiver.next) key new world.receiver; answered = world.answered ++ parcel.number ∷ []; handed = world.handed ++ map (handed_for parcel) jobs }) (one_added crossing world h new)))
      (take-first crossing world h parcel new inside made order why.0 (fresh why.1))

  comes_again : (row : Taken) → taken_of world.receiver key ≡ Some row → Comes true (Again row.job)
  comes_again row is again order =
      let found = find_there (is_taken parcel.number) (kept_of crossing world).taken row is in
      take_again crossing world h parcel row.job (subst (IsIn world.handed) (eqb-true row.number parcel.number found.1) (h.taken row found.0).number)

  after_take : Holds crossing (go crossing world (ReceiverTakes parcel new))
  after_take = by_verdict (verdict world.receiver command) refl (still_in_order world.receiver command h.receiver_order)
    where
      by_verdict : (v : Option Refusal) → verdict world.receiver command ≡ v → IsInOrder (after_verdict v world.receiver command).0 → Holds crossing (answering crossing world h parcel (after_verdict v world.receiver command))
      by_verdict None e order = by_hand_in Comes (taken_of world.receiver key) key world.receiver.next (comes_first e) (λ row is mark. comes_again row is) refl order
      by_verdict (Some refusal) e order = subst (Holds crossing) (sym (take_refused crossing world h parcel refusal)) h

-- ---- runs

pub holds_after : (crossing : Crossing) (world : World) (step : Step) → Holds crossing world → MayGo crossing world step → Holds crossing (go crossing world step)
holds_after crossing world (SenderRuns command) h may = after_sender crossing world h command
holds_after crossing world (SenderShows job) h may = after_show crossing world h job may.0
holds_after crossing world (SenderSays below) h may = after_say crossing world h below may
holds_after crossing world (ReceiverTakes parcel new) h may = after_take crossing world h parcel new may.0 may.1
holds_after crossing world (ReceiverRuns command) h may = after_receiver crossing world h command may
holds_after crossing world (ReceiverTells number) h may = after_tell crossing world h number may

pub holds_on : (crossing : Crossing) (world : World) (steps : List Step) → Holds crossing world → MayGoOn crossing world steps → Holds crossing (world_after crossing world steps)
holds_on crossing world [] h may = h
holds_on crossing world (step ∷ steps) h may = holds_on crossing (go crossing world step) steps (holds_after crossing world step h may.0) may.1

pub in_order : (state : State) → IsWellFormed state → IsInOrder state
in_order state h = record { rising = h.rising; below_next = h.below_next; by_name = h.by_name; by_host = h.by_host; by_link = h.by_link }

pub order_on : (state : State) (commands : List Command) → IsInOrder state → IsInOrder (state_after state commands)
order_on state [] h = h
order_on state (command ∷ commands) h = order_on (after state command).0 commands (still_in_order state command h)

pub holds_start : (crossing : Crossing) (sender receiver : State) → IsWellFormed sender → IsWellFormed receiver → link_of receiver crossing.from ≡ new_link crossing.from → Holds crossing (start sender receiver)
holds_start crossing sender receiver good well nothing = record {
  sender_order = in_order sender good;
  receiver_order = in_order receiver well;
  shown = λ parcel there. absurd (none_in parcel there);
  taken = λ row there. absurd (none_in row (subst (λ (l : Link). Contains l.taken row) nothing there));
  handed = λ it there. absurd (none_in it there);
  made = λ it there. absurd (none_in it there);
  once = pairs_nil (λ (one other : Handed). ¬ (one.number ≡ other.number));
  rising = pairs_nil (λ (one other : Handed). one.job.number < other.job.number);
  below_next = All-nil (λ (it : Handed). it.job.number < receiver.next);
  answered = λ number there. absurd (none_in number there);
  said = All-nil (IsLeast crossing sender);
  heard = λ e. subst (λ (l : Link). IsLeast crossing sender l.below) (sym nothing) (least_zero crossing sender);
}

pub holds : (crossing : Crossing) (world : World) → IsReached crossing world → Holds crossing world
holds crossing world r =
    subst (Holds crossing) (sym r.world_is) (holds_on crossing (start r.sender r.receiver) r.steps (holds_start crossing r.sender r.receiver r.sender_is r.receiver_is r.nothing_kept) r.may_go)
