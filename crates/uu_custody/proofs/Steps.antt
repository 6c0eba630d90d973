-- Steps of custody that commands of two sites make.
use Rattle.std.proofs.Common.{◌≡◌, ◌⊎◌, inl, inr, ℕ, Bool, true, false, not, cond, List, [], ◌∷◌, ◌++◌, map, Contains, Option, Some, None, refl, sym, ap, subst, ◌∙◌, append_assoc, append-nil}
use Rattle.std.specs.Cmp.Lexicographic.{bytes_decides}
use Rattle.std.proofs.lemmas.List.Elements.{Contains-push_cases}
use Rattle.uu_custody.proofs.Sessions.{tails}
use Rattle.uu_core.specs.declared.command.Command.{Command}
use Rattle.uu_core.specs.declared.command.Command.TheVariants.{Define, Remove, Queue, QueueOnce, Kill, Regrade, Rejuvenate, Failed, Done, Release, Entry, Forget}
use Rattle.uu_core.specs.declared.refusal.Refusal.{Refusal}
use Rattle.uu_core.specs.declared.job.NewJob.{NewJob}
use Rattle.uu_core.specs.State.{State, Job, same_text}
use Rattle.uu_core.specs.Verdict.{verdict}
use Rattle.uu_core.specs.After.{after}
use Rattle.uu_core.specs.Run.{state_after}
use Rattle.uu_core.specs.Laws.{accepted_of, unless_refused}
use Rattle.uu_handover.specs.Custody.{Parcel, parcel_of, Crossing, key_of, Handed, World, Step, IsLeast, HasTaken, MayRun, is_of_others, MayGoOn, kills_in, handed_for, added, go, world_after}
use Rattle.uu_handover.specs.Custody.Step.{SenderRuns, SenderShows, SenderSays, ReceiverTakes, ReceiverRuns, ReceiverTells}
use Rattle.uu_custody.specs.Handovers.{handed_of, handed_in, Waited}

-- ---- lists of steps

pub world_on : (crossing : Crossing) (world : World) (first second : List Step) → world_after crossing world (first ++ second) ≡ world_after crossing (world_after crossing world first) second
world_on crossing world [] second = refl
world_on crossing world (step ∷ first) second = world_on crossing (go crossing world step) first second

pub may_first : (crossing : Crossing) (world : World) (first second : List Step) → MayGoOn crossing world (first ++ second) → MayGoOn crossing world first
may_first crossing world [] second may = tt
may_first crossing world (step ∷ first) second may = (may.0, may_first crossing (go crossing world step) first second may.1)

pub may_second : (crossing : Crossing) (world : World) (first second : List Step) → MayGoOn crossing world (first ++ second) → MayGoOn crossing (world_after crossing world first) second
may_second crossing world [] second may = may
may_second crossing world (step ∷ first) second may = may_second crossing (go crossing world step) first second may.1

-- ---- what steps make of a world

-- some steps come first, after which the job is in the sender's spool
pub record Came (crossing : Crossing) (world : World) (steps : List Step) (job : Job) : Type 0 where
  pub first : List Step
  pub second : List Step
  pub steps_are : steps ≡ first ++ second
  pub there : Contains (world_after crossing world first).sender.jobs job

-- a parcel of a job that waited
pub record IsOfOne (crossing : Crossing) (sender : State) (sent : List Command) (parcel : Parcel) : Type 0 where
  pub job : Job
  pub waited : Waited crossing sender sent job
  pub is : parcel ≡ parcel_of job

-- From a world steps go on, by which its sender and its receiver run these commands. If `H` holds,
-- the receiver forgets only what was said.
pub record Proceeds (H : Type 0) (crossing : Crossing) (world : World) (sent received : List Command) : Type 0 where
  pub steps : List Step
  pub may_go : MayGoOn crossing world steps
  pub sender_is : (world_after crossing world steps).sender ≡ state_after world.sender sent
  pub receiver_is : (world_after crossing world steps).receiver ≡ state_after world.receiver received
  pub handed_is : (world_after crossing world steps).handed ≡ world.handed ++ handed_in crossing world.receiver received
  pub killed_is : (world_after crossing world steps).killed ≡ world.killed ++ kills_in (accepted_of world.sender sent)
  pub shown_are : (parcel : Parcel) → Contains (world_after crossing world steps).shown parcel → Contains world.shown parcel ⊎ IsOfOne crossing world.sender sent parcel
  pub came : (job : Job) → Waited crossing world.sender sent job → Came crossing world steps job
  pub heard : H → (world_after crossing world steps).is_heard ≡ true

pub stays : {H : Type 0} (crossing : Crossing) (world : World) → (H → world.is_heard ≡ true) → Proceeds H crossing world [] []
stays crossing world heard = record {
  steps = [];
  may_go = tt;
  sender_is = refl;
  receiver_is = refl;
  handed_is = sym (append-nil world.handed);
  killed_is = sym (append-nil world.killed);
  shown_are = λ parcel there. inl there;
  came = λ job waited. (record { first = []; second = []; steps_are = refl; there = at_first waited.before waited.behind waited.commands_are job waited.there });
  heard = heard;
}
  where
    at_first : (before behind : List Command) → [] ≡ before ++ behind → (job : Job) → Contains (state_after world.sender before).jobs job → Contains world.sender.jobs job
    at_first [] behind e job there = there
    at_first (command ∷ before) behind e job there = absurd (none e)
      where
        none : {l : List Command} → [] ≡ command ∷ l → ⊥
        none e = cc

came_behind : (crossing : Crossing) (world : World) (step : Step) (steps : List Step) (job : Job) → Came crossing (go crossing world step) steps job → Came crossing world (step ∷ steps) job
came_behind crossing world step steps job came = record { first = step ∷ came.first; second = came.second; steps_are = ap (λ l. step ∷ l) came.steps_are; there = came.there }

-- ---- the sender's commands

kills_append : (one other : List Command) → kills_in (one ++ other) ≡ kills_in one ++ kills_in other
kills_append [] other = refl
kills_append (Kill job by ∷ one) other = ap (λ l. job ∷ l) (kills_append one other)
kills_append (Define def ∷ one) other = kills_append one other
kills_append (Remove name ∷ one) other = kills_append one other
kills_append (Queue new ∷ one) other = kills_append one other
kills_append (QueueOnce key new ∷ one) other = kills_append one other
kills_append (Regrade job grade by ∷ one) other = kills_append one other
kills_append (Rejuvenate job at by ∷ one) other = kills_append one other
kills_append (Failed system at why ∷ one) other = kills_append one other
kills_append (Done system at jobs ∷ one) other = kills_append one other
kills_append (Release system jobs ∷ one) other = kills_append one other
kills_append (Entry bytes ∷ one) other = kills_append one other
kills_append (Forget system below ∷ one) other = kills_append one other

kills_first : (s : State) (command : Command) (commands : List Command) → kills_in (accepted_of s (command ∷ [])) ++ kills_in (accepted_of (after s command).0 commands) ≡ kills_in (accepted_of s (command ∷ commands))
kills_first s command commands = by_verdict (verdict s command)
  where
    by_verdict : (v : Option Refusal) → kills_in (unless_refused v command []) ++ kills_in (accepted_of (after s command).0 commands) ≡ kills_in (unless_refused v command (accepted_of (after s command).0 commands))
    by_verdict None = sym (kills_append (command ∷ []) (accepted_of (after s command).0 commands))
    by_verdict (Some refusal) = refl

waited_behind : (crossing : Crossing) (s : State) (command : Command) (commands : List Command) (job : Job) → Waited crossing (after s command).0 commands job → Waited crossing s (command ∷ commands) job
waited_behind crossing s command commands job waited = record { before = command ∷ waited.before; behind = waited.behind; commands_are = ap (λ l. command ∷ l) waited.commands_are; there = waited.there; system = waited.system }

pub sender_runs : {H : Type 0} (crossing : Crossing) (world : World) (command : Command) (sent received : List Command) → MayRun crossing world command → Proceeds H crossing (go crossing world (SenderRuns command)) sent received → Proceeds H crossing world (command ∷ sent) received
sender_runs crossing world command sent received may on = record {
  steps = SenderRuns command ∷ on.steps;
  may_go = (may, on.may_go);
  sender_is = on.sender_is;
  receiver_is = on.receiver_is;
  handed_is = on.handed_is;
  killed_is = on.killed_is ∙ append_assoc world.killed (kills_in (accepted_of world.sender (command ∷ []))) (kills_in (accepted_of (after world.sender command).0 sent)) ∙ ap (λ l. world.killed ++ l) (kills_first world.sender command sent);
  shown_are = λ parcel there. elim (on.shown_are parcel there) [
    | inl was ↦ inl was
    | inr it ↦ inr (record { job = it.job; waited = waited_behind crossing world.sender command sent it.job it.waited; is = it.is })
  ];
  came = λ job waited. at_first waited.before waited.behind waited.commands_are job waited.there waited.system;
  heard = on.heard;
}
  where
    heads : {x y : Command} {xs ys : List Command} → x ∷ xs ≡ y ∷ ys → y ≡ x
    heads e = cc

    at_first : (before behind : List Command) → command ∷ sent ≡ before ++ behind → (job : Job) → Contains (state_after world.sender before).jobs job → job.system ≡ crossing.to → Came crossing world (SenderRuns command ∷ on.steps) job
    at_first [] behind e job there own = record { first = []; second = SenderRuns command ∷ on.steps; steps_are = refl; there = there }
    at_first (given ∷ before) behind e job there own =
        came_behind crossing world (SenderRuns command) on.steps job (on.came job (record {
          before = before;
          behind = behind;
          commands_are = tails e;
          there = subst (λ c. Contains (state_after (after world.sender c).0 before).jobs job) (heads e) there;
          system = own;
        }))

-- ---- what it shows

pub sender_shows : {H : Type 0} (crossing : Crossing) (world : World) (job : Job) (sent received : List Command) → Contains world.sender.jobs job → job.system ≡ crossing.to → Proceeds H crossing (go crossing world (SenderShows job)) sent received → Proceeds H crossing world sent received
sender_shows crossing world job sent received there own on = record {
  steps = SenderShows job ∷ on.steps;
  may_go = ((there, own), on.may_go);
  sender_is = on.sender_is;
  receiver_is = on.receiver_is;
  handed_is = on.handed_is;
  killed_is = on.killed_is;
  shown_are = λ parcel inside. elim (on.shown_are parcel inside) [
    | inl was ↦ (elim (Contains-push_cases world.shown (parcel_of job) parcel was) [
      | inl before ↦ inl before
      | inr new ↦ inr (record { job = job; waited = record { before = []; behind = sent; commands_are = refl; there = there; system = own }; is = sym new })
    ])
    | inr it ↦ inr it
  ];
  came = λ other waited. came_behind crossing world (SenderShows job) on.steps other (on.came other waited);
  heard = on.heard;
}

pub sender_says : {H : Type 0} (crossing : Crossing) (world : World) (below : ℕ) (sent received : List Command) → IsLeast crossing world.sender below → Proceeds H crossing (go crossing world (SenderSays below)) sent received → Proceeds H crossing world sent received
sender_says crossing world below sent received least on = record {
  steps = SenderSays below ∷ on.steps;
  may_go = (least, on.may_go);
  sender_is = on.sender_is;
  receiver_is = on.receiver_is;
  handed_is = on.handed_is;
  killed_is = on.killed_is;
  shown_are = on.shown_are;
  came = λ other waited. came_behind crossing world (SenderSays below) on.steps other (on.came other waited);
  heard = on.heard;
}

-- ---- what the receiver tells

pub receiver_tells : {H : Type 0} (crossing : Crossing) (world : World) (number : ℕ) (sent received : List Command) → HasTaken crossing world.receiver number → Proceeds H crossing (go crossing world (ReceiverTells number)) sent received → Proceeds H crossing world sent received
receiver_tells crossing world number sent received has on = record {
  steps = ReceiverTells number ∷ on.steps;
  may_go = (has, on.may_go);
  sender_is = on.sender_is;
  receiver_is = on.receiver_is;
  handed_is = on.handed_is;
  killed_is = on.killed_is;
  shown_are = on.shown_are;
  came = λ other waited. came_behind crossing world (ReceiverTells number) on.steps other (on.came other waited);
  heard = on.heard;
}

-- ---- the receiver's commands

hands_none : (crossing : Crossing) (state : State) (command : Command) → is_of_others crossing command ≡ true → handed_of crossing state command ≡ []
hands_none crossing state (Define def) e = refl
hands_none crossing state (Remove name) e = refl
hands_none crossing state (Queue new) e = refl
hands_none crossing state (QueueOnce key new) e = by-name (same_text key.from crossing.from) e
  where
    by-name : (t : Bool) → not t ≡ true → cond t (map {B = Handed} (λ job. record { number = key.number; job = job }) (added state (after state (QueueOnce key new)).0)) [] ≡ []
    by-name true e = absurd (cc)
    by-name false e = refl
hands_none crossing state (Kill job by) e = refl
hands_none crossing state (Regrade job grade by) e = refl
hands_none crossing state (Rejuvenate job at by) e = refl
hands_none crossing state (Failed system at why) e = refl
hands_none crossing state (Done system at jobs) e = refl
hands_none crossing state (Release system jobs) e = refl
hands_none crossing state (Entry bytes) e = refl
hands_none crossing state (Forget system below) e = refl

pub receiver_runs : {H : Type 0} (crossing : Crossing) (world : World) (command : Command) (sent received : List Command) → is_of_others crossing command ≡ true → Proceeds H crossing (go crossing world (ReceiverRuns command)) sent received → Proceeds H crossing world sent (command ∷ received)
receiver_runs crossing world command sent received may on = record {
  steps = ReceiverRuns command ∷ on.steps;
  may_go = (may, on.may_go);
  sender_is = on.sender_is;
  receiver_is = on.receiver_is;
  handed_is = on.handed_is ∙ ap (λ l. world.handed ++ (l ++ handed_in crossing (after world.receiver command).0 received)) (sym (hands_none crossing world.receiver command may));
  killed_is = on.killed_is;
  shown_are = on.shown_are;
  came = λ job waited. came_behind crossing world (ReceiverRuns command) on.steps job (on.came job waited);
  heard = on.heard;
}

own_hands : (crossing : Crossing) (state : State) (parcel : Parcel) (new : NewJob) → map (handed_for parcel) (added state (after state (QueueOnce (key_of crossing parcel) new)).0) ≡ handed_of crossing state (QueueOnce (key_of crossing parcel) new)
own_hands crossing state parcel new = by-name (same_text crossing.from crossing.from) ((bytes_decides crossing.from crossing.from).1 refl)
  where
    by-name : (t : Bool) → t ≡ true → map (handed_for parcel) (added state (after state (QueueOnce (key_of crossing parcel) new)).0)
        ≡ cond t (map {B = Handed} (λ job. record { number = parcel.number; job = job }) (added state (after state (QueueOnce (key_of crossing parcel) new)).0)) []
    by-name true e = refl
    by-name false e = absurd (cc)

pub receiver_takes : {H : Type 0} (crossing : Crossing) (world : World) (parcel : Parcel) (new : NewJob) (sent received : List Command) → Contains world.shown parcel → crossing.makes parcel new ≡ true → Proceeds H crossing (go crossing world (ReceiverTakes parcel new)) sent received
    → Proceeds H crossing world sent (QueueOnce (key_of crossing parcel) new ∷ received)
receiver_takes crossing world parcel new sent received there made on = record {
  steps = ReceiverTakes parcel new ∷ on.steps;
  may_go = ((there, made), on.may_go);
  sender_is = on.sender_is;
  receiver_is = on.receiver_is;
  handed_is =
      on.handed_is
      ∙ append_assoc world.handed (map (handed_for parcel) (added world.receiver (after world.receiver (QueueOnce (key_of crossing parcel) new)).0)) (handed_in crossing (after world.receiver (QueueOnce (key_of crossing parcel) new)).0 received)
      ∙ ap (λ l. world.handed ++ (l ++ handed_in crossing (after world.receiver (QueueOnce (key_of crossing parcel) new)).0 received)) (own_hands crossing world.receiver parcel new);
  killed_is = on.killed_is;
  shown_are = on.shown_are;
  came = λ job waited. came_behind crossing world (ReceiverTakes parcel new) on.steps job (on.came job waited);
  heard = on.heard;
}
