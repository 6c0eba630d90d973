-- A key that got an answer gets it again.
use Rattle.std.proofs.Common.{◌≡◌, ℕ, Bool, true, false, cond, leb, ltb, ◌==◌, ◌&&◌, List, [], ◌∷◌, filter, find, All, Option, Some, None, refl, ap, sym, ◌∙◌, arith}
use Rattle.std.specs.Option.{option_or}
use Rattle.std.specs.Cmp.Lexicographic.{bytes_decides}
use Rattle.std.proofs.lemmas.Bool.{eqb-true, eq-eqb}
use Rattle.std.proofs.lemmas.Bool.Decides.{nat_tests}
use Rattle.std.proofs.lemmas.List.Folds.{find-append}
use Rattle.std.proofs.lemmas.List.Elements.{All-head, All-tail}
use Rattle.uu_names.proofs.Basics.{find_there}
use Rattle.uu_core.specs.declared.command.Command.{Command}
use Rattle.uu_core.specs.declared.command.Command.TheVariants.{Define, Remove, Queue, QueueOnce, Kill, Regrade, Rejuvenate, Failed, Done, Release, Entry, Forget}
use Rattle.uu_core.specs.declared.command.Reply.TheVariants.{Number}
use Rattle.uu_core.specs.declared.custody.HandIn.{HandIn}
use Rattle.uu_core.specs.declared.custody.HandIn.TheVariants.{First, Again}
use Rattle.uu_core.specs.declared.custody.Key.{Key}
use Rattle.uu_core.specs.declared.custody.Taken.{Taken}
use Rattle.uu_core.specs.declared.job.NewJob.{NewJob}
use Rattle.uu_core.specs.declared.refusal.Refusal.{Refusal}
use Rattle.uu_core.specs.State.{State, Link, same_text, link_of, is_taken, taken_at}
use Rattle.uu_core.specs.Verdict.{verdict, is_again, taken_of, are_known, fresh_reasons, is_other}
use Rattle.uu_core.specs.Refusal.{first_reason}
use Rattle.uu_core.specs.After.{after, after_verdict, accept, with_job, with_taken, forgotten, hand_in, hand_in_of, hand_in_number, with_job_once}
use Rattle.uu_core.specs.Run.{state_after}
use Rattle.uu_core.specs.Laws.{accepted_of, unless_refused, lets_forget}
use Rattle.uu_core.proofs.KeyLemmas.{by_hand_in, first_why}
use Rattle.uu_core.proofs.LinkLemmas.{find_keeps, find_drops, link_own, link_other, link_kept, taken_says, forgotten_says, name_is, option_or-none}

-- ---- rows by number

-- the new row is found under its number
pub found_new : (row : Taken) (link : Link) → taken_at (with_taken row link) row.number ≡ Some row
found_new row link =
    find-append (is_taken row.number) (filter (λ (other : Taken). ltb other.number row.number) link.taken) (row ∷ filter (λ (other : Taken). ltb row.number other.number) link.taken)
    ∙ ap (λ o. option_or o (cond (row.number == row.number) (Some row) (find (is_taken row.number) (filter (λ (other : Taken). ltb row.number other.number) link.taken))))
    (find_drops (is_taken row.number) (λ (other : Taken). ltb other.number row.number) link.taken (λ other e. not-below other.number row.number e))
    ∙ ap (λ t. cond t (Some row) (find (is_taken row.number) (filter (λ (other : Taken). ltb row.number other.number) link.taken))) (eq-eqb row.number row.number refl)
  where
    not-below : (a b : ℕ) → a == b ≡ true → ltb a b ≡ false
    not-below a b e = grind (arith, nat_tests)

-- and under another what was there
pub found_old : (row : Taken) (link : Link) (number : ℕ) → (row.number ≡ number → ⊥) → taken_at (with_taken row link) number ≡ taken_at link number
found_old row link number differs =
    find-append p (filter (λ (other : Taken). ltb other.number row.number) link.taken) (row ∷ filter (λ (other : Taken). ltb row.number other.number) link.taken)
    ∙ ap (λ t. option_or (find (is_taken number) (filter (λ (other : Taken). ltb other.number row.number) link.taken)) (cond t (Some row) (find (is_taken number) (filter (λ (other : Taken). ltb row.number other.number) link.taken)))) (not_it (row.number == number) refl)
    ∙ by-order (ltb number row.number) (ltb row.number number) refl refl
  where
    p : Taken → Bool
    p = is_taken number

    not_it : (t : Bool) → row.number == number ≡ t → t ≡ false
    not_it false e = refl
    not_it true e = absurd (differs (eqb-true row.number number e))

    before : (a b c : ℕ) → ltb b c ≡ true → a == b ≡ true → ltb a c ≡ true
    before a b c l e = grind (arith, nat_tests)

    not_after : (a b c : ℕ) → ltb b c ≡ true → a == b ≡ true → ltb c a ≡ false
    not_after a b c l e = grind (arith, nat_tests)

    behind : (a b c : ℕ) → ltb c b ≡ true → a == b ≡ true → ltb c a ≡ true
    behind a b c l e = grind (arith, nat_tests)

    not_before : (a b c : ℕ) → ltb c b ≡ true → a == b ≡ true → ltb a c ≡ false
    not_before a b c l e = grind (arith, nat_tests)

    same : (a b : ℕ) → ltb a b ≡ false → ltb b a ≡ false → b ≡ a
    same a b e f = grind (arith, nat_tests)

    by-order : (s t : Bool) → ltb number row.number ≡ s → ltb row.number number ≡ t
        → option_or (find (is_taken number) (filter (λ (other : Taken). ltb other.number row.number) link.taken)) (find (is_taken number) (filter (λ (other : Taken). ltb row.number other.number) link.taken)) ≡ find (is_taken number) link.taken
    by-order true t e f =
        ap (λ o. option_or (find (is_taken number) (filter (λ (other : Taken). ltb other.number row.number) link.taken)) o) (find_drops (is_taken number) (λ (other : Taken). ltb row.number other.number) link.taken (λ other g. not_after other.number number row.number e g))
        ∙ option_or-none (find (is_taken number) (filter (λ (other : Taken). ltb other.number row.number) link.taken))
        ∙ find_keeps (is_taken number) (λ (other : Taken). ltb other.number row.number) link.taken (λ other g. before other.number number row.number e g)
    by-order false true e f =
        ap (λ o. option_or o (find (is_taken number) (filter (λ (other : Taken). ltb row.number other.number) link.taken))) (find_drops (is_taken number) (λ (other : Taken). ltb other.number row.number) link.taken (λ other g. not_before other.number number row.number f g))
        ∙ find_keeps (is_taken number) (λ (other : Taken). ltb row.number other.number) link.taken (λ other g. behind other.number number row.number f g)
    by-order false false e f = absurd (differs (same number row.number e f))

-- ---- one command

-- a key that is answered is kept with its answer
pub key_kept : (state : State) (key : Key) (job : NewJob) (number : ℕ) → (after state (QueueOnce key job)).1 ≡ Number number → taken_of (after state (QueueOnce key job)).0 key ≡ Some (record { number = key.number; mark = key.mark; job = number })
key_kept state key job number told = by_verdict (verdict state (QueueOnce key job)) told
  where
    by_verdict : (v : Option Refusal) → (after_verdict v state (QueueOnce key job)).1 ≡ Number number → taken_of (after_verdict v state (QueueOnce key job)).0 key ≡ Some (record { number = key.number; mark = key.mark; job = number })
    by_verdict (Some refusal) told = absurd (cc)
    by_verdict None told = by_hand_in P (taken_of state key) key state.next first again told
      where
        P : Bool → HandIn → Type 0
        P t comes = Number (hand_in_number comes) ≡ Number number → taken_of (with_job_once comes key job state) key ≡ Some (record { number = key.number; mark = key.mark; job = number })

        first : P false (First state.next)
        first told =
            let n : state.next ≡ number = cc in
            let row : Taken = record { number = key.number; mark = key.mark; job = state.next } in
            let link : link_of (with_job_once (First state.next) key job state) key.from ≡ with_taken row (link_of state key.from) = link_own (with_job job state) key.from (with_taken row (link_of state key.from)) (name_is state key.from) (λ silent. absurd (taken_says row (link_of state key.from) silent)) in
            ap (λ (l : Link). taken_at l key.number) link ∙ found_new row (link_of state key.from) ∙ ap (λ j. Some (record { number = key.number; mark = key.mark; job = j })) n

        again : (row : Taken) → taken_of state key ≡ Some row → row.mark == key.mark ≡ true → P true (Again row.job)
        again row is mark told =
            let n : row.job ≡ number = cc in
            let found = find_there (is_taken key.number) (link_of state key.from).taken row is in
            is ∙ ap (λ a. Some (record { number = a; mark = row.mark; job = row.job })) (eqb-true row.number key.number found.1)
            ∙ ap (λ m. Some (record { number = key.number; mark = m; job = row.job })) (eqb-true row.mark key.mark mark)
            ∙ ap (λ j. Some (record { number = key.number; mark = key.mark; job = j })) n

-- a key that is kept is answered, and nothing changes
pub key_answered : (state : State) (key : Key) (job : NewJob) (number : ℕ) → taken_of state key ≡ Some (record { number = key.number; mark = key.mark; job = number }) → after state (QueueOnce key job) ≡ (state, Number number)
key_answered state key job number is =
    let repeat : is_again (taken_of state key) key ≡ true = ap (λ o. is_again o key) is ∙ eq-eqb key.mark key.mark refl in
    let fine : verdict state (QueueOnce key job) ≡ None = ap (λ t. first_reason (cond t [] (fresh_reasons (are_known state key job) state.next (link_of state key.from).below (is_other (taken_of state key) key) key job))) repeat in
    let comes : hand_in state key ≡ Again number = ap (λ o. hand_in_of o key state.next) is ∙ ap (λ t. cond t (Again number) (First state.next)) (eq-eqb key.mark key.mark refl) in
    ap (λ v. after_verdict v state (QueueOnce key job)) fine ∙ ap (λ h. (with_job_once h key job state, Number (hand_in_number h))) comes

-- a key stays until it is let be forgotten
module _ (state : State) (key : Key) (row : Taken) (is : taken_of state key ≡ Some row) where
  by-link : (state_then : State) → link_of state_then key.from ≡ link_of state key.from → taken_of state_then key ≡ Some row
  by-link state_then same = ap (λ (l : Link). taken_at l key.number) same ∙ is

  stays_once : (other : Key) (job : NewJob) → verdict state (QueueOnce other job) ≡ None → taken_of (with_job_once (hand_in state other) other job state) key ≡ Some row
  stays_once other job e = by_hand_in P (taken_of state other) other state.next first (λ r same mark again. is) refl
    where
      P : Bool → HandIn → Type 0
      P t comes = is_again (taken_of state other) other ≡ t → taken_of (with_job_once comes other job state) key ≡ Some row

      first : P false (First state.next)
      first fresh = by-name (same_text other.from key.from) refl
        where
          new : Taken
          new = record { number = other.number; mark = other.mark; job = state.next }

          put : Link
          put = with_taken (record { number = other.number; mark = other.mark; job = state.next }) (link_of state other.from)

          apart : {o : Option Taken} → o ≡ None → o ≡ Some row → ⊥
          apart p q = cc

          by-name : (t : Bool) → same_text other.from key.from ≡ t → taken_of (with_job_once (First state.next) other job state) key ≡ Some row
          by-name false e = by-link (with_job_once (First state.next) other job state) (link_other (with_job job state) key.from (with_taken (record { number = other.number; mark = other.mark; job = state.next }) (link_of state other.from)) (ap (λ n. same_text n key.from) (name_is state other.from) ∙ e))
          by-name true f =
              let own : other.from ≡ key.from = (bytes_decides other.from key.from).0 f in
              let none = (first_why state other job e fresh).1 in
              let differs : other.number ≡ key.number → ⊥ = λ same. apart (ap (λ n. taken_at (link_of state n) other.number) (sym own) ∙ none) (ap (λ n. taken_at (link_of state key.from) n) same ∙ is) in
              let link : link_of (with_job_once (First state.next) other job state) key.from ≡ with_taken (record { number = other.number; mark = other.mark; job = state.next }) (link_of state other.from) = link_own (with_job job state) key.from (with_taken (record { number = other.number; mark = other.mark; job = state.next }) (link_of state other.from)) (name_is state other.from ∙ own) (λ silent. absurd (taken_says (record { number = other.number; mark = other.mark; job = state.next }) (link_of state other.from) silent)) in
              ap (λ (l : Link). taken_at l key.number) link
              ∙ found_old (record { number = other.number; mark = other.mark; job = state.next }) (link_of state other.from) key.number differs
              ∙ ap (λ n. taken_at (link_of state n) key.number) own
              ∙ is

  stays_forget : (system : List ℕ) (below : ℕ) → same_text system key.from && ltb key.number below ≡ false → taken_of (accept state (Forget system below)) key ≡ Some row
  stays_forget system below kept = by-name (same_text system key.from) refl kept
    where
      above : (a b c : ℕ) → ltb b c ≡ false → a == b ≡ true → leb c a ≡ true
      above a b c e f = grind (arith, nat_tests)

      by-name : (t : Bool) → same_text system key.from ≡ t → t && ltb key.number below ≡ false → taken_of (accept state (Forget system below)) key ≡ Some row
      by-name false e kept = by-link (accept state (Forget system below)) (link_other state key.from (forgotten below (link_of state system)) (ap (λ n. same_text n key.from) (name_is state system) ∙ e))
      by-name true e kept =
          let own : system ≡ key.from = (bytes_decides system key.from).0 e in
          let link : link_of (accept state (Forget system below)) key.from ≡ forgotten below (link_of state system) = link_own state key.from (forgotten below (link_of state system)) (name_is state system ∙ own) (λ silent. forgotten_says below (link_of state system) silent ∙ ap (link_of state) own) in
          ap (λ (l : Link). taken_at l key.number) link
          ∙ find_keeps (is_taken key.number) (λ (r : Taken). leb below r.number) (link_of state system).taken (λ r f. above r.number key.number below kept f)
          ∙ ap (λ n. taken_at (link_of state n) key.number) own
          ∙ is

  stays_accepted : (command : Command) → verdict state command ≡ None → lets_forget command key ≡ false → taken_of (accept state command) key ≡ Some row
  stays_accepted (Define def) e f = is
  stays_accepted (Remove name) e f = by-link (accept state (Remove name)) (link_kept state key.from name f)
  stays_accepted (Queue job) e f = is
  stays_accepted (QueueOnce other job) e f = stays_once other job e
  stays_accepted (Kill job by) e f = is
  stays_accepted (Regrade job grade by) e f = is
  stays_accepted (Rejuvenate job at by) e f = is
  stays_accepted (Failed system at why) e f = is
  stays_accepted (Done system at jobs) e f = is
  stays_accepted (Release system jobs) e f = is
  stays_accepted (Entry bytes) e f = is
  stays_accepted (Forget system below) e f = stays_forget system below f

pub key_stays : (state : State) (key : Key) (row : Taken) (commands : List Command) → taken_of state key ≡ Some row → All (λ (command : Command). lets_forget command key ≡ false) (accepted_of state commands) → taken_of (state_after state commands) key ≡ Some row
key_stays state key row [] is h = is
key_stays state key row (command ∷ commands) is h = by_verdict (verdict state command) refl h (λ there rest. key_stays (after state command).0 key row commands there rest)
  where
    by_verdict : (v : Option Refusal) → verdict state command ≡ v → All (λ (c : Command). lets_forget c key ≡ false) (unless_refused v command (accepted_of (after state command).0 commands))
        → (taken_of (after state command).0 key ≡ Some row → All (λ (c : Command). lets_forget c key ≡ false) (accepted_of (after state command).0 commands) → taken_of (state_after (after state command).0 commands) key ≡ Some row)
        → taken_of (state_after (after state command).0 commands) key ≡ Some row
    by_verdict None e h again =
        again (ap (λ v. taken_of (after_verdict v state command).0 key) e ∙ stays_accepted state key row is command e (All-head (λ (c : Command). lets_forget c key ≡ false) command (accepted_of (after state command).0 commands) h))
        (All-tail (λ (c : Command). lets_forget c key ≡ false) command (accepted_of (after state command).0 commands) h)
    by_verdict (Some refusal) e h again = again (ap (λ v. taken_of (after_verdict v state command).0 key) e ∙ is) h

pub key_again : (state : State) (key : Key) (first again : NewJob) (number : ℕ) (commands : List Command) → (after state (QueueOnce key first)).1 ≡ Number number → All (λ (command : Command). lets_forget command key ≡ false) (accepted_of (after state (QueueOnce key first)).0 commands)
    → after (state_after (after state (QueueOnce key first)).0 commands) (QueueOnce key again) ≡ (state_after (after state (QueueOnce key first)).0 commands, Number number)
key_again state key first again number commands told h =
    key_answered (state_after (after state (QueueOnce key first)).0 commands) key again number
    (key_stays (after state (QueueOnce key first)).0 key (record { number = key.number; mark = key.mark; job = number }) commands (key_kept state key first number told) h)
