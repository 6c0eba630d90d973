-- Runs of commands.
use Rattle.std.proofs.Common.{◌≡◌, ℕ, ◌+◌, ◌≤◌, ◌<◌, Bool, true, false, cond, List, [], ◌∷◌, ◌++◌, All, AllPairs, Option, Some, None, refl, ap, sym, ◌∙◌, arith}
use Rattle.std.proofs.lemmas.List.Elements.{All-cons, All-nil, All-head, All-tail, All-weaker}
use Rattle.std.proofs.lemmas.List.Kept.{AllPairs-cons}
use Rattle.uu_core.proofs.WellFormedLemmas.{pairs_nil}
use Rattle.uu_core.specs.declared.command.Command.{Command}
use Rattle.uu_core.specs.declared.command.Command.TheVariants.{Define, Remove, Queue, QueueOnce, Kill, Regrade, Rejuvenate, Failed, Done, Release, Entry, Forget}
use Rattle.uu_core.specs.declared.command.Reply.{Reply}
use Rattle.uu_core.specs.declared.command.Reply.TheVariants.{Done as Carried, Number, Refused}
use Rattle.uu_core.specs.declared.refusal.Refusal.{Refusal}
use Rattle.uu_core.specs.declared.custody.HandIn.{HandIn}
use Rattle.uu_core.specs.declared.custody.HandIn.TheVariants.{First, Again}
use Rattle.uu_core.specs.declared.custody.Key.{Key}
use Rattle.uu_core.specs.declared.job.NewJob.{NewJob}
use Rattle.uu_core.specs.State.{State, Job}
use Rattle.uu_core.specs.Verdict.{verdict, taken_of}
use Rattle.uu_core.specs.After.{after, after_verdict, accept, reply_to, hand_in, with_job_once, hand_in_number}
use Rattle.uu_core.specs.Run.{state_after, replies_to}
use Rattle.uu_core.specs.Laws.{accepted_of, unless_refused, numbers_in, refusal_in, new_numbers, is_repeat, has_key, handed_by, IsHandedIn}
use Rattle.uu_core.proofs.KeyLemmas.{by_hand_in, first_where}

pub refused : (state : State) (command : Command) (refusal : Refusal) → verdict state command ≡ Some refusal → after state command ≡ (state, Refused refusal)
refused state command refusal e = ap (λ v. after_verdict v state command) e

-- no command that is accepted is answered by a refusal
carried_out : (state : State) (command : Command) → refusal_in (reply_to state command) ≡ None
carried_out state (Define def) = refl
carried_out state (Remove name) = refl
carried_out state (Queue job) = refl
carried_out state (QueueOnce key job) = refl
carried_out state (Kill job by) = refl
carried_out state (Regrade job grade by) = refl
carried_out state (Rejuvenate job at by) = refl
carried_out state (Failed system at why) = refl
carried_out state (Done system at jobs) = refl
carried_out state (Release system jobs) = refl
carried_out state (Entry bytes) = refl
carried_out state (Forget system below) = refl

pub refusal_told : (state : State) (command : Command) → refusal_in (after state command).1 ≡ verdict state command
refusal_told state command = by_verdict (verdict state command)
  where
    by_verdict : (v : Option Refusal) → refusal_in (after_verdict v state command).1 ≡ v
    by_verdict None = carried_out state command
    by_verdict (Some refusal) = refl

pub states_append : (state : State) (first second : List Command) → state_after state (first ++ second) ≡ state_after (state_after state first) second
states_append state [] second = refl
states_append state (command ∷ first) second = states_append (after state command).0 first second

pub replies_append : (state : State) (first second : List Command) → replies_to state (first ++ second) ≡ replies_to state first ++ replies_to (state_after state first) second
replies_append state [] second = refl
replies_append state (command ∷ first) second = ap (λ r. (after state command).1 ∷ r) (replies_append (after state command).0 first second)

-- ---- the accepted commands alone

pub accepted_same : (state : State) (commands : List Command) → state_after state (accepted_of state commands) ≡ state_after state commands
accepted_same state [] = refl
accepted_same state (command ∷ commands) = by_verdict (verdict state command) refl (accepted_same (after state command).0 commands)
  where
    by_verdict : (v : Option Refusal) → verdict state command ≡ v → state_after (after state command).0 (accepted_of (after state command).0 commands) ≡ state_after (after state command).0 commands
        → state_after state (unless_refused v command (accepted_of (after state command).0 commands)) ≡ state_after (after state command).0 commands
    by_verdict None e again = again
    by_verdict (Some refusal) e again =
        let same : (after state command).0 ≡ state = ap (λ p. p.0) (refused state command refusal e) in
        ap (λ s. state_after s (accepted_of (after state command).0 commands)) (sym same) ∙ again

pub accepted_twice : (state : State) (commands : List Command) → accepted_of state (accepted_of state commands) ≡ accepted_of state commands
accepted_twice state [] = refl
accepted_twice state (command ∷ commands) = by_verdict (verdict state command) refl (accepted_twice (after state command).0 commands)
  where
    by_verdict : (v : Option Refusal) → verdict state command ≡ v → accepted_of (after state command).0 (accepted_of (after state command).0 commands) ≡ accepted_of (after state command).0 commands
        → accepted_of state (unless_refused v command (accepted_of (after state command).0 commands)) ≡ unless_refused v command (accepted_of (after state command).0 commands)
    by_verdict None e again = ap (λ v. unless_refused v command (accepted_of (after state command).0 (accepted_of (after state command).0 commands))) e ∙ ap (λ r. command ∷ r) again
    by_verdict (Some refusal) e again =
        let same : (after state command).0 ≡ state = ap (λ p. p.0) (refused state command refusal e) in
        ap (λ s. accepted_of s (accepted_of (after state command).0 commands)) (sym same) ∙ again

-- ---- numbers

next-taken : (state : State) (key : Key) (job : NewJob) (comes : HandIn) → state.next ≤ (with_job_once comes key job state).next
next-taken state key job (First number) = omega arith
next-taken state key job (Again number) = omega arith

next-accept : (state : State) (command : Command) → state.next ≤ (accept state command).next
next-accept state (Define def) = omega arith
next-accept state (Remove name) = omega arith
next-accept state (Queue job) = omega arith
next-accept state (QueueOnce key job) = next-taken state key job (hand_in state key)
next-accept state (Kill job by) = omega arith
next-accept state (Regrade job grade by) = omega arith
next-accept state (Rejuvenate job at by) = omega arith
next-accept state (Failed system at why) = omega arith
next-accept state (Done system at jobs) = omega arith
next-accept state (Release system jobs) = omega arith
next-accept state (Entry bytes) = omega arith
next-accept state (Forget system below) = omega arith

pub next-after : (state : State) (command : Command) → state.next ≤ (after state command).0.next
next-after state command = by_verdict (verdict state command)
  where
    by_verdict : (v : Option Refusal) → state.next ≤ (after_verdict v state command).0.next
    by_verdict None = next-accept state command
    by_verdict (Some refusal) = omega arith

pub next-run : (state : State) (commands : List Command) → state.next ≤ (state_after state commands).next
next-run state [] = omega arith
next-run state (command ∷ commands) = omega (arith, next-after state command, next-run (after state command).0 commands)

pub number_used : (state : State) (job : NewJob) (number : ℕ) → (after state (Queue job)).1 ≡ Number number → (number ≡ state.next) × ((after state (Queue job)).0.next ≡ number + 1)
number_used state job number e = by_verdict (verdict state (Queue job)) e
  where
    by_verdict : (v : Option Refusal) → (after_verdict v state (Queue job)).1 ≡ Number number → (number ≡ state.next) × ((after_verdict v state (Queue job)).0.next ≡ number + 1)
    by_verdict None e = let same : state.next ≡ number = cc in (sym same, ap (λ n. n + 1) same)
    by_verdict (Some refusal) e = absurd (apart e)
      where
        apart : Refused refusal ≡ Number number → ⊥
        apart q = cc

-- numbers from a first one on, which rise
pub record Rising (low : ℕ) (numbers : List ℕ) : Type 0 where
  pub fresh : All (λ number. low ≤ number) numbers
  pub once : AllPairs (λ earlier later. earlier < later) numbers

lower : (low high : ℕ) (numbers : List ℕ) → low ≤ high → Rising high numbers → Rising low numbers
lower low high numbers h r = record { fresh = All-weaker (λ n. high ≤ n) (λ n. low ≤ n) (λ n above. omega (arith, h, above)) numbers r.fresh; once = r.once }

with_first : (low : ℕ) (numbers : List ℕ) → Rising (low + 1) numbers → Rising low (low ∷ numbers)
with_first low numbers r = record {
  fresh = All-cons (λ n. low ≤ n) low numbers (omega arith) (lower low (low + 1) numbers (omega arith) r).fresh;
  once = AllPairs-cons (λ earlier later. earlier < later) low numbers (All-weaker (λ n. low + 1 ≤ n) (λ n. low < n) (λ n above. omega (arith, above)) numbers r.fresh) r.once;
}

-- before others: the numbers that the answer to a command gives, if it isn't a repeat
abbrev pub with_reply : Bool → Reply → List ℕ → List ℕ
with_reply again reply numbers = cond again [] (numbers_in (reply ∷ [])) ++ numbers

behind_accept : (state : State) (command : Command) (numbers : List ℕ) → Rising (accept state command).next numbers → Rising state.next (with_reply (is_repeat state command) (reply_to state command) numbers)
behind_accept state (Define def) numbers r = r
behind_accept state (Remove name) numbers r = r
behind_accept state (Queue job) numbers r = with_first state.next numbers r
behind_accept state (QueueOnce key job) numbers r =
    by_hand_in (λ again comes. Rising (with_job_once comes key job state).next numbers → Rising state.next (with_reply again (Number (hand_in_number comes)) numbers)) (taken_of state key) key state.next
    (λ r. with_first state.next numbers r) (λ row is same r. r) r
behind_accept state (Kill job by) numbers r = r
behind_accept state (Regrade job grade by) numbers r = r
behind_accept state (Rejuvenate job at by) numbers r = r
behind_accept state (Failed system at why) numbers r = r
behind_accept state (Done system at jobs) numbers r = r
behind_accept state (Release system jobs) numbers r = r
behind_accept state (Entry bytes) numbers r = r
behind_accept state (Forget system below) numbers r = r

behind : (v : Option Refusal) (state : State) (command : Command) (numbers : List ℕ) → Rising (after_verdict v state command).0.next numbers → Rising state.next (with_reply (is_repeat state command) (after_verdict v state command).1 numbers)
behind None state command numbers r = behind_accept state command numbers r
behind (Some refusal) state command numbers r = by-test (is_repeat state command)
  where
    by-test : (t : Bool) → Rising state.next (with_reply t (Refused refusal) numbers)
    by-test true = r
    by-test false = r

pub numbers_run : (state : State) (commands : List Command) → Rising state.next (new_numbers state commands)
numbers_run state [] = record { fresh = All-nil (λ n. state.next ≤ n); once = pairs_nil (λ earlier later. earlier < later) }
numbers_run state (command ∷ commands) = behind (verdict state command) state command (new_numbers (after state command).0 commands) (numbers_run (after state command).0 commands)

-- without keys these are all the numbers that the replies give
no_repeat : (state : State) (command : Command) → has_key command ≡ false → is_repeat state command ≡ false
no_repeat state (Define def) e = refl
no_repeat state (Remove name) e = refl
no_repeat state (Queue job) e = refl
no_repeat state (QueueOnce key job) e = absurd (cc)
no_repeat state (Kill job by) e = refl
no_repeat state (Regrade job grade by) e = refl
no_repeat state (Rejuvenate job at by) e = refl
no_repeat state (Failed system at why) e = refl
no_repeat state (Done system at jobs) e = refl
no_repeat state (Release system jobs) e = refl
no_repeat state (Entry bytes) e = refl
no_repeat state (Forget system below) e = refl

numbers_cons : (reply : Reply) (replies : List Reply) → numbers_in (reply ∷ []) ++ numbers_in replies ≡ numbers_in (reply ∷ replies)
numbers_cons Carried replies = refl
numbers_cons (Number number) replies = refl
numbers_cons (Refused refusal) replies = refl

pub numbers_all : (state : State) (commands : List Command) → All (λ command. has_key command ≡ false) commands → new_numbers state commands ≡ numbers_in (replies_to state commands)
numbers_all state [] h = refl
numbers_all state (command ∷ commands) h =
    ap (λ t. with_reply t (after state command).1 (new_numbers (after state command).0 commands)) (no_repeat state command (All-head (λ (c : Command). has_key c ≡ false) command commands h))
    ∙ ap (λ numbers. numbers_in ((after state command).1 ∷ []) ++ numbers) (numbers_all (after state command).0 commands (All-tail (λ (c : Command). has_key c ≡ false) command commands h))
    ∙ numbers_cons (after state command).1 (replies_to (after state command).0 commands)

-- the number of a job that is handed in is the next one
pub number_handed : (state : State) (command : Command) (job : Job) → IsHandedIn state command job → (job.number ≡ state.next) × ((after state command).0.next ≡ job.number + 1) × ((after state command).1 ≡ Number job.number)
number_handed state command job it =
    let number : job.number ≡ state.next = ap (λ (j : Job). j.number) it.job_is in
    let both = by_command command it.command_is it.first in
    let now = ap (λ v. after_verdict v state command) it.accepted in
    (number, ap (λ (p : State × Reply). p.0.next) now ∙ both.0 ∙ ap (λ n. n + 1) (sym number), ap (λ (p : State × Reply). p.1) now ∙ both.1 ∙ ap Number (sym number))
  where
    by_command : (c : Command) → handed_by c ≡ Some it.new → is_repeat state c ≡ false → ((accept state c).next ≡ state.next + 1) × (reply_to state c ≡ Number state.next)
    by_command (Queue job) is first = (refl, refl)
    by_command (QueueOnce key job) is first =
        let comes = first_where (taken_of state key) key state.next first in
        (ap (λ h. (with_job_once h key job state).next) comes, ap (λ h. Number (hand_in_number h)) comes)
    by_command (Define def) is first = absurd (cc)
    by_command (Remove name) is first = absurd (cc)
    by_command (Kill job by) is first = absurd (cc)
    by_command (Regrade job grade by) is first = absurd (cc)
    by_command (Rejuvenate job at by) is first = absurd (cc)
    by_command (Failed system at why) is first = absurd (cc)
    by_command (Done system at jobs) is first = absurd (cc)
    by_command (Release system jobs) is first = absurd (cc)
    by_command (Entry bytes) is first = absurd (cc)
    by_command (Forget system below) is first = absurd (cc)
