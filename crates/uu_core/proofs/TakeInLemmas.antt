-- A bundle that is decided on what was known before it.
use Rattle.std.proofs.Common.{◌≡◌, ℕ, ◌+◌, max, Bool, true, false, cond, leb, ltb, ◌==◌, ◌&&◌, List, [], Option, Some, None, Ok, Err, refl, ap, sym, subst, ◌∙◌, arith}
use Rattle.std.specs.BTreeMap.{is_at}
use Rattle.std.specs.Cmp.{unsigned_tied}
use Rattle.std.specs.List.{list_any}
use Rattle.std.specs.Option.{option_or}
use Rattle.std.specs.Ordering.{nat_cmp}
use Rattle.std.proofs.lemmas.Bool.{eqb-true}
use Rattle.std.proofs.lemmas.Bool.Decides.{nat_tests}
use Rattle.uu_core.specs.declared.command.Command.TheVariants.{QueueOnce, Forget}
use Rattle.uu_core.specs.declared.custody.HandIn.TheVariants.{First, Again}
use Rattle.uu_core.specs.declared.custody.Key.{Key}
use Rattle.uu_core.specs.declared.custody.Taken.{Taken}
use Rattle.uu_core.specs.declared.job.NewJob.{NewJob}
use Rattle.uu_core.specs.declared.refusal.Refusal.{Refusal}
use Rattle.uu_core.specs.declared.refusal.Refusal.TheVariants.{NoSystem}
use Rattle.uu_core.specs.declared.system.SystemRow.{SystemRow}
use Rattle.uu_core.specs.State.{State, Link, is_system, is_taken, has_system, link_of, taken_at}
use Rattle.uu_core.specs.Refusal.{first_reason, decided}
use Rattle.uu_core.specs.Verdict.{verdict, known_reasons, key_under, are_known, taken_of, once_reasons, once_reasons_in}
use Rattle.uu_core.specs.After.{after, after_verdict, with_job, with_taken, forgotten, hand_in, hand_in_of, with_job_once}
use Rattle.uu_core.specs.TakeIns.{Progress, brought_at, kept_now, IsTaking}
use Rattle.uu_core.proofs.KeyLemmas.{first_is}
use Rattle.uu_core.proofs.KeyLaws.{found_new, found_old}
use Rattle.uu_core.proofs.LinkLemmas.{find_keeps, find_drops, link_own, taken_says, forgotten_says, name_is}
use Rattle.uu_core.proofs.DecisionLemmas.{none_decided, some_decided}

-- ---- what is forgotten

-- what is kept of a number once those below another are forgotten
kept_from : (below : ℕ) (link : Link) (number : ℕ) → taken_at (forgotten below link) number ≡ cond (ltb number below) None (taken_at link number)
kept_from below link number = by-test (ltb number below) refl
  where
    gone : (a b n : ℕ) → ltb n b ≡ true → a == n ≡ true → leb b a ≡ false
    gone a b n e f = grind (arith, nat_tests)

    stays : (a b n : ℕ) → ltb n b ≡ false → a == n ≡ true → leb b a ≡ true
    stays a b n e f = grind (arith, nat_tests)

    by-test : (t : Bool) → ltb number below ≡ t → taken_at (forgotten below link) number ≡ cond t None (taken_at link number)
    by-test true e = find_drops (is_taken number) (λ (row : Taken). leb below row.number) link.taken (λ row f. gone row.number below number e f)
    by-test false e = find_keeps (is_taken number) (λ (row : Taken). leb below row.number) link.taken (λ row f. stays row.number below number e f)

-- nothing of the bundle was brought yet
none_brought : (progress : Progress) (before : Option Taken) (number below : ℕ) → brought_at progress number ≡ None → progress.forgotten ≡ below → kept_now progress before number ≡ cond (ltb number below) None before
none_brought progress before number below none is =
    ap (λ o. option_or o (cond (ltb number progress.forgotten) None before)) none
    ∙ ap (λ b. cond (ltb number b) None before) is

pub begun : (s : State) (from : List ℕ) (below : ℕ) (progress : Progress) → true ≡ has_system s from → progress.next ≡ s.next → progress.below ≡ max (link_of s from).below below → progress.forgotten ≡ below
    → ((number : ℕ) → brought_at progress number ≡ None) → IsTaking s from (after s (Forget from below)).0 progress
begun s from below progress known next most forgets none =
    by_verdict (verdict s (Forget from below)) (ap (λ k. first_reason (known_reasons k)) (sym known))
  where
    by_verdict : (v : Option Refusal) → v ≡ None → IsTaking s from (after_verdict v s (Forget from below)).0 progress
    by_verdict (Some refusal) e = absurd (cc)
    by_verdict None e =
        let link = link_own s from (forgotten below (link_of s from)) (name_is s from) (forgotten_says below (link_of s from)) in
        record {
          systems = refl;
          next = next;
          below = most ∙ ap (λ (l : Link). l.below) (sym link);
          taken = λ number. ap (λ (l : Link). taken_at l number) link ∙ kept_from below (link_of s from) number ∙ sym (none_brought progress (taken_at (link_of s from) number) number below (none number) forgets);
        }

pub begun_unknown : (s : State) (from : List ℕ) (below : ℕ) (progress : Progress) → false ≡ has_system s from → progress.next ≡ s.next → progress.below ≡ (link_of s from).below → progress.forgotten ≡ 0
    → ((number : ℕ) → brought_at progress number ≡ None) → IsTaking s from (after s (Forget from below)).0 progress
begun_unknown s from below progress known next most forgets none =
    by_verdict (verdict s (Forget from below)) (ap (λ k. first_reason (known_reasons k)) (sym known))
  where
    zero : (n : ℕ) → ltb n 0 ≡ false
    zero n = grind (arith, nat_tests)

    by_verdict : (v : Option Refusal) → v ≡ Some NoSystem → IsTaking s from (after_verdict v s (Forget from below)).0 progress
    by_verdict None e = absurd (cc)
    by_verdict (Some refusal) e = record {
      systems = refl;
      next = next;
      below = most;
      taken = λ number. sym (none_brought progress (taken_at (link_of s from) number) number 0 (none number) forgets ∙ ap (λ t. cond t None (taken_at (link_of s from) number)) (zero number));
    }

pub known_where : {V : Type 0} (known : Bool) (x y : V) → Ok x ≡ decided (known_reasons known) y → true ≡ known
known_where true x y e = refl
known_where false x y e = absurd (cc)

pub unknown_where : {V : Type 0} (known : Bool) (refusal : Refusal) (y : V) → Err refusal ≡ decided (known_reasons known) y → false ≡ known
unknown_where false refusal y e = refl
unknown_where true refusal y e = absurd (cc)

-- ---- one job

-- the neighbour's name decides nothing of a number and a mark
any_name : (from : List ℕ) (known : Bool) (next below : ℕ) (taken : Option Taken) (number mark : ℕ) (job : NewJob)
    → decided (once_reasons known next below taken (key_under [] number mark) job) (hand_in_of taken (key_under [] number mark) next)
    ≡ decided (once_reasons known next below taken (key_under from number mark) job) (hand_in_of taken (key_under from number mark) next)
any_name from known next below None number mark job = refl
any_name from known next below (Some row) number mark job = refl

-- the keys of a map by numbers
at_is : (a b : ℕ) → is_at (nat_cmp a) b ≡ (a == b)
at_is a b = unsigned_tied a b

module _ (s now : State) (from : List ℕ) (number mark : ℕ) (job : NewJob) (old : Progress) (it : IsTaking s from now old) where
  abbrev own : Key
  own = key_under from number mark

  abbrev row_of : ℕ → Taken
  row_of here = record { number = number; mark = mark; job = here }

  known_same : are_known s own job ≡ are_known now own job
  known_same = ap (λ (rows : List SystemRow). list_any (is_system from) rows && list_any (is_system job.system) rows) (sym it.systems)

  -- it is decided as in the state by now
  as_by_now : (known : Bool) (taken : Option Taken) → known ≡ are_known s own job → taken ≡ taken_of s own
      → decided (once_reasons known old.next old.below (kept_now old taken number) (key_under [] number mark) job) (hand_in_of (kept_now old taken number) (key_under [] number mark) old.next)
      ≡ decided (once_reasons_in now own job) (hand_in now own)
  as_by_now known taken k t =
      any_name from known old.next old.below (kept_now old taken number) number mark job
      ∙ ap (λ k. decided (once_reasons k old.next old.below (kept_now old taken number) own job) (hand_in_of (kept_now old taken number) own old.next)) (k ∙ known_same)
      ∙ ap (λ n. decided (once_reasons (are_known now own job) n old.below (kept_now old taken number) own job) (hand_in_of (kept_now old taken number) own n)) it.next
      ∙ ap (λ b. decided (once_reasons (are_known now own job) now.next b (kept_now old taken number) own job) (hand_in_of (kept_now old taken number) own now.next)) it.below
      ∙ ap (λ r. decided (once_reasons (are_known now own job) now.next (link_of now from).below r own job) (hand_in_of r own now.next)) (ap (λ t. kept_now old t number) t ∙ sym (it.taken number))

  -- the same, on the fields and what is kept by now
  pub as_found : (known : Bool) (opened : Progress) (kept taken : Option Taken) → opened ≡ old → kept ≡ kept_now old taken number → known ≡ are_known s own job → taken ≡ taken_of s own
      → decided (once_reasons known opened.next opened.below kept (key_under [] number mark) job) (hand_in_of kept (key_under [] number mark) opened.next) ≡ decided (once_reasons_in now own job) (hand_in now own)
  as_found known opened kept taken same keeps k t =
      ap (λ (p : Progress). decided (once_reasons known p.next p.below kept (key_under [] number mark) job) (hand_in_of kept (key_under [] number mark) p.next)) same
      ∙ ap (λ o. decided (once_reasons known old.next old.below o (key_under [] number mark) job) (hand_in_of o (key_under [] number mark) old.next)) keeps
      ∙ as_by_now known taken k t

  pub still_refused : (refusal : Refusal) → Err refusal ≡ decided (once_reasons_in now own job) (hand_in now own) → IsTaking s from (after now (QueueOnce own job)).0 old
  still_refused refusal e = by_verdict (verdict now (QueueOnce own job)) (some_decided (once_reasons_in now own job) (hand_in now own) refusal (sym e))
    where
      by_verdict : (v : Option Refusal) → v ≡ Some refusal → IsTaking s from (after_verdict v now (QueueOnce own job)).0 old
      by_verdict None e = absurd (cc)
      by_verdict (Some other) e = it

  pub still_again : (here : ℕ) → Ok (Again here) ≡ decided (once_reasons_in now own job) (hand_in now own) → IsTaking s from (after now (QueueOnce own job)).0 old
  still_again here e =
      let both = none_decided (once_reasons_in now own job) (hand_in now own) (Again here) (sym e) in
      let same : (after now (QueueOnce own job)).0 ≡ now = ap (λ v. (after_verdict v now (QueueOnce own job)).0) both.0 ∙ ap (λ comes. with_job_once comes own job now) both.1 in
      subst (λ (then : State). IsTaking s from then old) (sym same) it

  -- what is kept once the row was brought
  kept_more : (here : ℕ) (new : Progress) → new.forgotten ≡ old.forgotten → ((n : ℕ) → brought_at new n ≡ cond (is_at (nat_cmp number) n) (Some (row_of here)) (brought_at old n))
      → (n : ℕ) → taken_at (with_taken (row_of here) (link_of now from)) n ≡ kept_now new (taken_at (link_of s from) n) n
  kept_more here new forgets brought n = by-test (number == n) refl ∙ sym parts
    where
      first : Option Taken
      first = brought_at old n

      rest : Option Taken
      rest = cond (ltb n old.forgotten) None (taken_at (link_of s from) n)

      parts : kept_now new (taken_at (link_of s from) n) n ≡ option_or (cond (number == n) (Some (row_of here)) first) rest
      parts =
          ap (λ o. option_or o (cond (ltb n new.forgotten) None (taken_at (link_of s from) n))) (brought n ∙ ap (λ t. cond t (Some (row_of here)) first) (at_is number n))
          ∙ ap (λ b. option_or (cond (number == n) (Some (row_of here)) first) (cond (ltb n b) None (taken_at (link_of s from) n))) forgets

      not_it : number == n ≡ false → number ≡ n → ⊥
      not_it f e = absurd (let t : number == n ≡ true = grind (arith, nat_tests) in cc)

      by-test : (t : Bool) → number == n ≡ t → taken_at (with_taken (row_of here) (link_of now from)) n ≡ option_or (cond t (Some (row_of here)) first) rest
      by-test true f = ap (λ m. taken_at (with_taken (row_of here) (link_of now from)) m) (sym (eqb-true number n f)) ∙ found_new (row_of here) (link_of now from)
      by-test false f = found_old (row_of here) (link_of now from) n (not_it f) ∙ it.taken n

  pub still_first : (here : ℕ) (new : Progress) → Ok (First here) ≡ decided (once_reasons_in now own job) (hand_in now own)
      → new.next ≡ here + 1 → new.below ≡ old.below → new.forgotten ≡ old.forgotten → ((n : ℕ) → brought_at new n ≡ cond (is_at (nat_cmp number) n) (Some (row_of here)) (brought_at old n))
      → IsTaking s from (after now (QueueOnce own job)).0 new
  still_first here new e next below forgets brought =
      let both = none_decided (once_reasons_in now own job) (hand_in now own) (First here) (sym e) in
      let fresh = first_is (taken_of now own) own now.next here both.1 in
      let then : (after now (QueueOnce own job)).0 ≡ with_job_once (First here) own job now = ap (λ v. (after_verdict v now (QueueOnce own job)).0) both.0 ∙ ap (λ comes. with_job_once comes own job now) both.1 in
      let link : link_of (with_job_once (First here) own job now) from ≡ with_taken (row_of here) (link_of now from) =
      link_own (with_job job now) from (with_taken (row_of here) (link_of now from)) (name_is now from) (λ silent. absurd (taken_says (row_of here) (link_of now from) silent)) in
      subst (λ (t : State). IsTaking s from t new) (sym then) (record {
        systems = it.systems;
        next = next ∙ ap (λ n. n + 1) (sym fresh.1);
        below = below ∙ it.below ∙ ap (λ (l : Link). l.below) (sym link);
        taken = λ n. ap (λ (l : Link). taken_at l n) link ∙ kept_more here new forgets brought n;
      })
