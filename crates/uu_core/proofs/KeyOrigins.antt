-- What is kept of a key was kept before, or a command handed its job in.
use Rattle.std.proofs.Common.{◌≡◌, ◌⊎◌, inl, inr, ℕ, Bool, true, false, not, cond, leb, ltb, ◌==◌, List, [], ◌∷◌, filter, find, Option, Some, None, unwrap_or, refl, ap, sym, ◌∙◌}
use Rattle.std.specs.Option.{option_or}
use Rattle.std.specs.Cmp.Lexicographic.{bytes_decides}
use Rattle.std.proofs.lemmas.Bool.{eqb-true}
use Rattle.std.proofs.lemmas.List.Folds.{find-append}
use Rattle.uu_core.specs.declared.command.Command.{Command}
use Rattle.uu_core.specs.declared.command.Command.TheVariants.{Define, Remove, Queue, QueueOnce, Kill, Regrade, Rejuvenate, Failed, Done, Release, Entry, Forget}
use Rattle.uu_core.specs.declared.custody.HandIn.{HandIn}
use Rattle.uu_core.specs.declared.custody.HandIn.TheVariants.{First}
use Rattle.uu_core.specs.declared.custody.Key.{Key}
use Rattle.uu_core.specs.declared.custody.Taken.{Taken}
use Rattle.uu_core.specs.declared.job.NewJob.{NewJob}
use Rattle.uu_core.specs.declared.refusal.Refusal.{Refusal}
use Rattle.uu_core.specs.State.{State, Link, same_text, is_link, link_of, new_link, is_taken, taken_at}
use Rattle.uu_core.specs.Verdict.{verdict, is_again, taken_of}
use Rattle.uu_core.specs.After.{after, after_verdict, accept, job_of, with_job, with_taken, forgotten, hand_in, with_job_once}
use Rattle.uu_core.specs.Run.{state_after}
use Rattle.uu_core.specs.Laws.{is_repeat, IsKept, IsFirstUnder}
use Rattle.uu_core.proofs.KeyLemmas.{by_hand_in}
use Rattle.uu_core.proofs.LinkLemmas.{find_keeps, find_drops, link_own, link_other, link_kept, taken_says, forgotten_says, name_is}

-- ---- rows by number

-- what is found of a number among rows that are kept by their numbers was found before
found_kept : (keeps : ℕ → Bool) (rows : List Taken) (number : ℕ) (row : Taken) → find (is_taken number) (filter (λ (r : Taken). keeps r.number) rows) ≡ Some row → find (is_taken number) rows ≡ Some row
found_kept keeps rows number row e = by-test (keeps number) refl
  where
    as_of : (t : Bool) → keeps number ≡ t → (r : Taken) → is_taken number r ≡ true → keeps r.number ≡ t
    as_of t f r g = ap keeps (eqb-true r.number number g) ∙ f

    by-test : (t : Bool) → keeps number ≡ t → find (is_taken number) rows ≡ Some row
    by-test true f = sym (find_keeps (is_taken number) (λ (r : Taken). keeps r.number) rows (as_of true f)) ∙ e
    by-test false f = absurd (let none = find_drops (is_taken number) (λ (r : Taken). keeps r.number) rows (as_of false f) in cc)

-- what is found once a row was put among others is this row or was found before
found_with : (new : Taken) (link : Link) (number : ℕ) (row : Taken) → taken_at (with_taken new link) number ≡ Some row → (taken_at link number ≡ Some row) ⊎ ((new.number ≡ number) × (new ≡ row))
found_with new link number row e =
    by_first (find (is_taken number) (filter (λ (r : Taken). ltb r.number new.number) link.taken)) refl
    (sym (find-append (is_taken number) (filter (λ (r : Taken). ltb r.number new.number) link.taken) (new ∷ filter (λ (r : Taken). ltb new.number r.number) link.taken)) ∙ e)
  where
    by-test : (t : Bool) → new.number == number ≡ t → cond t (Some new) (find (is_taken number) (filter (λ (r : Taken). ltb new.number r.number) link.taken)) ≡ Some row → (taken_at link number ≡ Some row) ⊎ ((new.number ≡ number) × (new ≡ row))
    by-test true f g = inr (eqb-true new.number number f, cc)
    by-test false f g = inl (found_kept (λ n. ltb new.number n) link.taken number row g)

    by_first : (o : Option Taken) → find (is_taken number) (filter (λ (r : Taken). ltb r.number new.number) link.taken) ≡ o
        → option_or o (cond (new.number == number) (Some new) (find (is_taken number) (filter (λ (r : Taken). ltb new.number r.number) link.taken))) ≡ Some row
        → (taken_at link number ≡ Some row) ⊎ ((new.number ≡ number) × (new ≡ row))
    by_first (Some r) f g = inl (found_kept (λ n. ltb n new.number) link.taken number row (f ∙ g))
    by_first None f g = by-test (new.number == number) refl g

-- ---- one command

-- what is kept of a key whose job has this number
abbrev row_of : Key → ℕ → Taken
row_of key number = record { number = key.number; mark = key.mark; job = number }

-- the key with the mark that is kept
abbrev key_with : Key → ℕ → Key
key_with key mark = record { from = key.from; number = key.number; mark = mark }

-- a command handed the job in for the first time, under the key
record IsOrigin (state : State) (key : Key) (row : Taken) (command : Command) : Type 0 where
  first : NewJob
  command_is : command ≡ QueueOnce (key_with key row.mark) first
  accepted : verdict state command ≡ None
  new : is_repeat state command ≡ false
  job : row.job ≡ state.next

module _ (state : State) (key : Key) (row : Taken) where
  abbrev WasOrIs : Command → Type 0
  WasOrIs command = (taken_of state key ≡ Some row) ⊎ IsOrigin state key row command

  by-link : (then : State) → link_of then key.from ≡ link_of state key.from → taken_of then key ≡ Some row → taken_of state key ≡ Some row
  by-link then same e = sym (ap (λ (l : Link). taken_at l key.number) same) ∙ e

  of_once : (other : Key) (job : NewJob) → verdict state (QueueOnce other job) ≡ None → taken_of (with_job_once (hand_in state other) other job state) key ≡ Some row → WasOrIs (QueueOnce other job)
  of_once other job accepted = by_hand_in P (taken_of state other) other state.next first (λ r is mark again e. inl e) refl
    where
      P : Bool → HandIn → Type 0
      P t comes = is_again (taken_of state other) other ≡ t → taken_of (with_job_once comes other job state) key ≡ Some row → WasOrIs (QueueOnce other job)

      first : P false (First state.next)
      first fresh e = by-name (same_text other.from key.from) refl
        where
          by-name : (t : Bool) → same_text other.from key.from ≡ t → WasOrIs (QueueOnce other job)
          by-name false f =
              inl (by-link (with_job_once (First state.next) other job state)
              (link_other (with_job job state) key.from (with_taken (record { number = other.number; mark = other.mark; job = state.next }) (link_of state other.from)) (ap (λ n. same_text n key.from) (name_is state other.from) ∙ f)) e)
          by-name true f =
              let own : other.from ≡ key.from = (bytes_decides other.from key.from).0 f in
              let new : Taken = record { number = other.number; mark = other.mark; job = state.next } in
              let link : link_of (with_job_once (First state.next) other job state) key.from ≡ with_taken new (link_of state other.from)
              = link_own (with_job job state) key.from (with_taken new (link_of state other.from)) (name_is state other.from ∙ own) (λ silent. absurd (taken_says new (link_of state other.from) silent)) in
              elim (found_with new (link_of state other.from) key.number row (sym (ap (λ (l : Link). taken_at l key.number) link) ∙ e)) [
                | inl was ↦ inl (ap (λ n. taken_at (link_of state n) key.number) (sym own) ∙ was)
                | inr it ↦ inr (record {
                  first = job;
                  command_is = ap (λ n. QueueOnce (record { from = n; number = other.number; mark = other.mark }) job) own ∙ ap (λ n. QueueOnce (record { from = key.from; number = n; mark = other.mark }) job) it.0 ∙ ap (λ (r : Taken). QueueOnce (key_with key r.mark) job) it.1;
                  accepted = accepted;
                  new = fresh;
                  job = ap (λ (r : Taken). r.job) (sym it.1);
                })
              ]

  of_forget : (system : List ℕ) (below : ℕ) → taken_of (accept state (Forget system below)) key ≡ Some row → taken_of state key ≡ Some row
  of_forget system below e = by-name (same_text system key.from) refl
    where
      by-name : (t : Bool) → same_text system key.from ≡ t → taken_of state key ≡ Some row
      by-name false f = by-link (accept state (Forget system below)) (link_other state key.from (forgotten below (link_of state system)) (ap (λ n. same_text n key.from) (name_is state system) ∙ f)) e
      by-name true f =
          let own : system ≡ key.from = (bytes_decides system key.from).0 f in
          let link : link_of (accept state (Forget system below)) key.from ≡ forgotten below (link_of state system)
          = link_own state key.from (forgotten below (link_of state system)) (name_is state system ∙ own) (λ silent. forgotten_says below (link_of state system) silent ∙ ap (link_of state) own) in
          ap (λ n. taken_at (link_of state n) key.number) (sym own)
          ∙ found_kept (λ n. leb below n) (link_of state system).taken key.number row (sym (ap (λ (l : Link). taken_at l key.number) link) ∙ e)

  of_remove : (name : List ℕ) → taken_of (accept state (Remove name)) key ≡ Some row → taken_of state key ≡ Some row
  of_remove name e = by-name (same_text name key.from) refl
    where
      goes : same_text name key.from ≡ true → (link : Link) → is_link key.from link ≡ true → not (is_link name link) ≡ false
      goes f link g = ap not ((bytes_decides link.name name).1 ((bytes_decides link.name key.from).0 g ∙ sym ((bytes_decides name key.from).0 f)))

      by-name : (t : Bool) → same_text name key.from ≡ t → taken_of state key ≡ Some row
      by-name false f = by-link (accept state (Remove name)) (link_kept state key.from name f) e
      by-name true f =
          absurd (gone (sym (ap (λ o. taken_at (unwrap_or o (new_link key.from)) key.number) (find_drops (is_link key.from) (λ (link : Link). not (is_link name link)) state.links (goes f))) ∙ e))
        where
          gone : None ≡ Some row → ⊥
          gone q = cc

  of_accepted : (command : Command) → verdict state command ≡ None → taken_of (accept state command) key ≡ Some row → WasOrIs command
  of_accepted (Define def) v e = inl e
  of_accepted (Remove name) v e = inl (of_remove name e)
  of_accepted (Queue job) v e = inl e
  of_accepted (QueueOnce other job) v e = of_once other job v e
  of_accepted (Kill job by) v e = inl e
  of_accepted (Regrade job grade by) v e = inl e
  of_accepted (Rejuvenate job at by) v e = inl e
  of_accepted (Failed system at why) v e = inl e
  of_accepted (Done system at jobs) v e = inl e
  of_accepted (Release system jobs) v e = inl e
  of_accepted (Entry bytes) v e = inl e
  of_accepted (Forget system below) v e = inl (of_forget system below e)

  one_origin : (command : Command) → taken_of (after state command).0 key ≡ Some row → WasOrIs command
  one_origin command e = by_verdict (verdict state command) refl e
    where
      by_verdict : (v : Option Refusal) → verdict state command ≡ v → taken_of (after_verdict v state command).0 key ≡ Some row → WasOrIs command
      by_verdict None is f = of_accepted command is f
      by_verdict (Some refusal) is f = inl f

-- ---- a run

-- one command's is a run's
of_one : (state : State) (key : Key) (number : ℕ) (command : Command) (commands : List Command) → IsOrigin state key (row_of key number) command → (first : NewJob) × IsFirstUnder state (command ∷ commands) key first number
of_one state key number command commands it = (
  it.first,
  record {
    before = [];
    behind = commands;
    run_is = ap (λ c. c ∷ commands) it.command_is;
    made = record {
      new = it.first;
      command_is = refl;
      accepted = ap (verdict state) (sym it.command_is) ∙ it.accepted;
      first = ap (is_repeat state) (sym it.command_is) ∙ it.new;
      job_is = ap (λ n. job_of n it.first) it.job;
    };
  },
)

behind_one : (state : State) (key : Key) (number : ℕ) (command : Command) (commands : List Command) → (first : NewJob) × IsFirstUnder (after state command).0 commands key first number → (first : NewJob) × IsFirstUnder state (command ∷ commands) key first number
behind_one state key number command commands (first, it) = (first, record { before = command ∷ it.before; behind = it.behind; run_is = ap (λ l. command ∷ l) it.run_is; made = it.made })

pub key_origin : (state : State) (commands : List Command) (key : Key) (number : ℕ) → IsKept (state_after state commands) key number → IsKept state key number ⊎ ((first : NewJob) × IsFirstUnder state commands key first number)
key_origin state [] key number e = inl e
key_origin state (command ∷ commands) key number e = elim (key_origin (after state command).0 commands key number e) [
  | inl was ↦ (elim (one_origin state key (row_of key number) command was) [
    | inl before ↦ inl before
    | inr it ↦ inr (of_one state key number command commands it)
  ])
  | inr it ↦ inr (behind_one state key number command commands it)
]
