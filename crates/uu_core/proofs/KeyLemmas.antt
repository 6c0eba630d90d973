-- What a job comes to that is handed in under a key.
use Rattle.std.proofs.Common.{◌≡◌, ◌≤◌, ℕ, Bool, true, false, not, cond, ◌==◌, [], Option, Some, None, refl, ap, sym, ◌∙◌}
use Rattle.uu_core.specs.declared.command.Command.TheVariants.{QueueOnce}
use Rattle.uu_core.specs.declared.custody.HandIn.{HandIn}
use Rattle.uu_core.specs.declared.custody.HandIn.TheVariants.{First, Again}
use Rattle.uu_core.specs.declared.custody.Key.{Key}
use Rattle.uu_core.specs.declared.custody.Taken.{Taken}
use Rattle.uu_core.specs.declared.job.NewJob.{NewJob}
use Rattle.uu_core.specs.Refusal.{first_reason}
use Rattle.uu_core.specs.State.{State, link_of}
use Rattle.uu_core.specs.Verdict.{verdict, fresh_reasons, is_again, is_other, are_known, taken_of}
use Rattle.uu_core.specs.After.{hand_in_of}
use Rattle.uu_core.proofs.WellFormedLemmas.{once_accepted}

pub first_is : (taken : Option Taken) (key : Key) (next number : ℕ) → hand_in_of taken key next ≡ First number → (is_again taken key ≡ false) × (next ≡ number)
first_is None key next number e = (refl, cc)
first_is (Some taken) key next number e = by-test (taken.mark == key.mark) e
  where
    by-test : (t : Bool) → cond t (Again taken.job) (First next) ≡ First number → (t ≡ false) × (next ≡ number)
    by-test true e = absurd (cc)
    by-test false e = (refl, cc)

-- it comes for the first time exactly if it isn't a repeat
pub first_where : (taken : Option Taken) (key : Key) (next : ℕ) → is_again taken key ≡ false → hand_in_of taken key next ≡ First next
first_where None key next e = refl
first_where (Some taken) key next e = rw e refl

-- what holds of both holds of what it comes to
pub by_hand_in : (P : Bool → HandIn → Type 0) (taken : Option Taken) (key : Key) (next : ℕ) → P false (First next) → ((row : Taken) → taken ≡ Some row → row.mark == key.mark ≡ true → P true (Again row.job)) → P (is_again taken key) (hand_in_of taken key next)
by_hand_in P None key next first again = first
by_hand_in P (Some row) key next first again = by-test (row.mark == key.mark) refl
  where
    by-test : (t : Bool) → row.mark == key.mark ≡ t → P t (cond t (Again row.job) (First next))
    by-test true e = again row refl e
    by-test false e = first

-- what was taken under no number of the key's
nothing_taken : (taken : Option Taken) (key : Key) → is_again taken key ≡ false → is_other taken key ≡ false → taken ≡ None
nothing_taken None key e f = refl
nothing_taken (Some row) key e f = absurd (by-test (row.mark == key.mark) e f)
  where
    by-test : (t : Bool) → t ≡ false → not t ≡ false → ⊥
    by-test true e f = cc
    by-test false e f = cc

-- why a job that comes for the first time is accepted
pub first_why : (state : State) (key : Key) (job : NewJob) → verdict state (QueueOnce key job) ≡ None → is_again (taken_of state key) key ≡ false → ((link_of state key.from).below ≤ key.number) × (taken_of state key ≡ None)
first_why state key job e first =
    let why = once_accepted (are_known state key job) state.next (link_of state key.from).below (is_other (taken_of state key) key) key job
    (ap (λ again. first_reason (cond again [] (fresh_reasons (are_known state key job) state.next (link_of state key.from).below (is_other (taken_of state key) key) key job))) (sym first) ∙ e) in
    (why.3, nothing_taken (taken_of state key) key first why.4)
