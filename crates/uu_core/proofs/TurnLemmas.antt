-- Reasons in the order of their turns.
use Rattle.std.proofs.Common.{◌≡◌, ◌<◌, Bool, true, false, cond, ◌&&◌, ltb, List, [], ◌∷◌, Option, Some, None, refl, option_map, arith}
use Rattle.std.specs.List.{list_all}
use Rattle.std.proofs.lemmas.Bool.{ltb-true, and_parts}
use Rattle.std.proofs.lemmas.List.Kept.{AllPairs-cons}
use Rattle.std.proofs.lemmas.List.Sums.{AllPass-from_list_all}
use Rattle.uu_core.specs.declared.command.Command.{Command}
use Rattle.uu_core.specs.declared.command.Command.TheVariants.{Define, Remove, Queue, QueueOnce, Kill, Regrade, Rejuvenate, Failed, Done, Release, Entry, Forget}
use Rattle.uu_core.specs.declared.custody.Key.{Key}
use Rattle.uu_core.specs.declared.job.By.{By}
use Rattle.uu_core.specs.declared.job.NewJob.{NewJob}
use Rattle.uu_core.specs.declared.job.JobHead.{JobHead}
use Rattle.uu_core.specs.declared.refusal.Refusal.{Refusal}
use Rattle.uu_core.specs.Refusal.{turn_of, AreInTurn}
use Rattle.uu_core.specs.State.{State, job_at, head_of, link_of}
use Rattle.uu_core.specs.Verdict.{job_reasons, reasons, is_again, is_other, taken_of, are_known, fresh_reasons}

abbrev rises : List (Bool × Refusal) → Bool
rises [] = true
rises (reason ∷ more) = list_all (λ later. ltb (turn_of reason.1) (turn_of later.1)) more && rises more

in_turn : (reasons : List (Bool × Refusal)) → rises reasons ≡ true → AreInTurn reasons
in_turn [] e = λ i j d below within. absurd (omega arith)
in_turn (reason ∷ more) e =
    let both = and_parts (list_all (λ later. ltb (turn_of reason.1) (turn_of later.1)) more) (rises more) e in
    AllPairs-cons (λ earlier later. turn_of earlier.1 < turn_of later.1) reason more
    (λ i d within. ltb-true _ _ (AllPass-from_list_all (λ (later : Bool × Refusal). ltb (turn_of reason.1) (turn_of later.1)) more both.0 i d within))
    (in_turn more both.1)

job_in_turn : (job : Option JobHead) (by : By) → AreInTurn (job_reasons job by)
job_in_turn None by = in_turn (job_reasons None by) refl
job_in_turn (Some job) by = in_turn (job_reasons (Some job) by) refl

once_in_turn : (state : State) (key : Key) (job : NewJob) → AreInTurn (reasons state (QueueOnce key job))
once_in_turn state key job = by-test (is_again (taken_of state key) key)
  where
    by-test : (t : Bool) → AreInTurn (cond t [] (fresh_reasons (are_known state key job) state.next (link_of state key.from).below (is_other (taken_of state key) key) key job))
    by-test true = in_turn [] refl
    by-test false = in_turn (fresh_reasons (are_known state key job) state.next (link_of state key.from).below (is_other (taken_of state key) key) key job) refl

pub reasons_in_turn : (state : State) (command : Command) → AreInTurn (reasons state command)
reasons_in_turn state (Define def) = in_turn (reasons state (Define def)) refl
reasons_in_turn state (Remove name) = in_turn (reasons state (Remove name)) refl
reasons_in_turn state (Queue job) = in_turn (reasons state (Queue job)) refl
reasons_in_turn state (QueueOnce key job) = once_in_turn state key job
reasons_in_turn state (Kill job by) = job_in_turn (option_map head_of (job_at state job)) by
reasons_in_turn state (Regrade job grade by) = job_in_turn (option_map head_of (job_at state job)) by
reasons_in_turn state (Rejuvenate job at by) = job_in_turn (option_map head_of (job_at state job)) by
reasons_in_turn state (Failed system at why) = in_turn (reasons state (Failed system at why)) refl
reasons_in_turn state (Done system at jobs) = in_turn (reasons state (Done system at jobs)) refl
reasons_in_turn state (Release system jobs) = in_turn (reasons state (Release system jobs)) refl
reasons_in_turn state (Entry bytes) = in_turn (reasons state (Entry bytes)) refl
reasons_in_turn state (Forget system below) = in_turn (reasons state (Forget system below)) refl
