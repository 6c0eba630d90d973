-- What is left of a bundle's jobs, once it was unpacked and answered and the answer settled.
use Rattle.std.proofs.Common.{◌≡◌, ℕ, ◌+◌, Bool, true, false, not, cond, ltb, ◌==◌, ◌&&◌, ◌||◌, length, List, [], ◌∷◌, map, All, AllPairs, ◌<◌, Contains, Option, Some, None, refl, ap, sym, ◌∙◌, subst, inl, inr}
use Rattle.std.specs.List.{flat_map}
use Rattle.std.specs.Cmp.Lexicographic.{bytes_decides}
use Rattle.std.proofs.lemmas.Bool.{eqb-true, eq-eqb, both_ways, and_from}
use Rattle.std.proofs.lemmas.List.Elements.{Contains-append_left, Contains-append_right}
use Rattle.uu_names.proofs.Basics.{first_of, first_or_later, none_in, in_filter, from_filter, in_map, some_passes, find_there, one_of_number, all_from}
use Rattle.uu_core.specs.declared.command.Command.{Command}
use Rattle.uu_core.specs.declared.command.Command.TheVariants.{QueueOnce, Forget}
use Rattle.uu_core.specs.declared.command.Reply.TheVariants.{Number}
use Rattle.uu_core.specs.declared.custody.HandIn.TheVariants.{First}
use Rattle.uu_core.specs.declared.custody.Key.{Key}
use Rattle.uu_core.specs.declared.custody.Taken.{Taken}
use Rattle.uu_core.specs.declared.job.Kind.{Kind}
use Rattle.uu_core.specs.declared.job.NewJob.{NewJob}
use Rattle.uu_core.specs.declared.refusal.Refusal.{Refusal}
use Rattle.uu_core.specs.declared.refusal.Refusal.TheVariants.{NoSystem, TooLarge, NumbersOut, Stale, Differs}
use Rattle.uu_core.specs.Refusal.{first_reason}
use Rattle.uu_core.specs.State.{State, Job, Link, same_text, has_system, link_of, taken_at, is_taken, numbers_end, most_bytes}
use Rattle.uu_core.specs.Verdict.{verdict, has_many_arguments, is_again, is_other, is_too_large, are_known, taken_of, once_reasons, fresh_reasons}
use Rattle.uu_core.specs.After.{after, after_verdict, hand_in, with_job_once, hand_in_number, with_job, with_taken, is_released}
use Rattle.uu_core.specs.Run.{state_after}
use Rattle.uu_handover.specs.Custody.{Parcel, parcel_of}
use Rattle.uu_handover.specs.Bundles.{Bundle, told_of, Packed, packed_of, RefusedJob, has_of, AreWaiting, key_for, is_asked, asked_of, refused_for, settled_of, settling, IsMadeAnew, BundleExchange, IsOfJob, GoesOrIsRefused}
use Rattle.uu_core.proofs.KeyLemmas.{by_hand_in}
use Rattle.uu_core.proofs.KeyLaws.{found_new, found_old, key_kept}
use Rattle.uu_core.proofs.LinkLemmas.{link_own, link_other, taken_says, name_is}
use Rattle.uu_core.proofs.WellFormedLemmas.{once_accepted}
use Rattle.uu_handover.proofs.BundleLaws.{is_waiting_for, one_waits, settled_told, settled_waits}
use Rattle.uu_handover.proofs.SettledLaws.{gone, left_alone, named}

-- ---- what would be accepted was taken

-- what would be accepted under the key is kept under it: of what is known, and of a state
abbrev IsSureOf : Bool → ℕ → ℕ → Option Taken → Key → NewJob → Type 0
IsSureOf known next below taken key job = first_reason (once_reasons known next below taken key job) ≡ None → is_again taken key ≡ true

abbrev IsSure : State → Key → NewJob → Type 0
IsSure state key job = verdict state (QueueOnce key job) ≡ None → is_again (taken_of state key) key ≡ true

-- it stays so with one number fewer, as long as one was left
fewer : (known : Bool) (next below : ℕ) (taken : Option Taken) (key : Key) (job : NewJob) → (next == numbers_end) ≡ false → IsSureOf known next below taken key job → IsSureOf known (next + 1) below taken key job
fewer known next below taken key job left sure accepted = by-test (is_again taken key) refl
  where
    by_reasons : (a b c d f : Bool) → first_reason ((a, TooLarge) ∷ (b, NoSystem) ∷ (c, NumbersOut) ∷ (d, Stale) ∷ (f, Differs) ∷ []) ≡ None → first_reason ((a, TooLarge) ∷ (b, NoSystem) ∷ (false, NumbersOut) ∷ (d, Stale) ∷ (f, Differs) ∷ []) ≡ None
    by_reasons true b c d f e = absurd (cc)
    by_reasons false true c d f e = absurd (cc)
    by_reasons false false true d f e = absurd (cc)
    by_reasons false false false d f e = e

    before : is_again taken key ≡ false → first_reason (fresh_reasons known next below (is_other taken key) key job) ≡ None
    before e =
        ap (λ t. first_reason ((is_too_large job, TooLarge) ∷ (not known, NoSystem) ∷ (t, NumbersOut) ∷ (ltb key.number below, Stale) ∷ (is_other taken key, Differs) ∷ [])) left
        ∙ by_reasons (is_too_large job) (not known) (next + 1 == numbers_end) (ltb key.number below) (is_other taken key) (sym (ap (λ t. first_reason (cond t [] (fresh_reasons known (next + 1) below (is_other taken key) key job))) e) ∙ accepted)

    by-test : (t : Bool) → is_again taken key ≡ t → is_again taken key ≡ true
    by-test true e = e
    by-test false e = sure (ap (λ t. first_reason (cond t [] (fresh_reasons known next below (is_other taken key) key job))) e ∙ before e)

-- what is kept under its number is this very job, or another, which is in its way
same-number : (known : Bool) (next below : ℕ) (row : Taken) (key : Key) (job : NewJob) → IsSureOf known next below (Some row) key job
same-number known next below row key job accepted = by-test (row.mark == key.mark) refl
  where
    by-test : (t : Bool) → (row.mark == key.mark) ≡ t → (row.mark == key.mark) ≡ true
    by-test true e = e
    by-test false e = absurd (let it = once_accepted known next below true key job (sym (ap (λ t. first_reason (cond t [] (fresh_reasons known next below (not t) key job))) e) ∙ accepted) in both_ways _ it.4 refl)

-- once it was handed in, a job is sure
sure_own : (state : State) (key : Key) (job : NewJob) → IsSure (after state (QueueOnce key job)).0 key job
sure_own state key job accepted = by_verdict (verdict state (QueueOnce key job)) refl
  where
    by_verdict : (v : Option Refusal) → verdict state (QueueOnce key job) ≡ v → is_again (taken_of (after state (QueueOnce key job)).0 key) key ≡ true
    by_verdict None e =
        let told : (after state (QueueOnce key job)).1 ≡ Number (hand_in_number (hand_in state key)) = ap (λ v. (after_verdict v state (QueueOnce key job)).1) e in
        ap (λ o. is_again o key) (key_kept state key job (hand_in_number (hand_in state key)) told) ∙ eq-eqb key.mark key.mark refl
    by_verdict (Some refusal) e =
        let same : (after state (QueueOnce key job)).0 ≡ state = ap (λ v. (after_verdict v state (QueueOnce key job)).0) e in
        absurd (differ (sym e ∙ sym (ap (λ s. verdict s (QueueOnce key job)) same) ∙ accepted))
      where
        differ : Some refusal ≡ None → ⊥
        differ q = cc

-- another that is handed in leaves it so
module _ (state : State) (key : Key) (job : NewJob) (sure : IsSure state key job) (other : Key) (new : NewJob) where
  abbrev row : Taken
  row = record { number = other.number; mark = other.mark; job = state.next }

  abbrev then : State
  then = with_job_once (First state.next) other new state

  abbrev IsSureBy : Link → Type 0
  IsSureBy link = IsSureOf (are_known state key job) (state.next + 1) link.below (taken_at link key.number) key job

  one_left : verdict state (QueueOnce other new) ≡ None → is_again (taken_of state other) other ≡ false → (state.next == numbers_end) ≡ false
  one_left accepted first =
      let known = are_known state other new in
      let below = (link_of state other.from).below in
      let differs = is_other (taken_of state other) other in
      (once_accepted known state.next below differs other new (sym (ap (λ t. first_reason (cond t [] (fresh_reasons known state.next below differs other new))) first) ∙ accepted)).2

  by-number : (left : (state.next == numbers_end) ≡ false) → other.from ≡ key.from → (t : Bool) → (other.number == key.number) ≡ t → IsSureBy (with_taken row (link_of state other.from))
  by-number left own true e =
      let same : other.number ≡ key.number = eqb-true other.number key.number e in
      let found : taken_at (with_taken row (link_of state other.from)) key.number ≡ Some row = ap (taken_at (with_taken row (link_of state other.from))) (sym same) ∙ found_new row (link_of state other.from) in
      subst (λ o. IsSureOf (are_known state key job) (state.next + 1) (link_of state other.from).below o key job) (sym found) (same-number (are_known state key job) (state.next + 1) (link_of state other.from).below row key job)
  by-number left own false e =
      let found : taken_at (with_taken row (link_of state other.from)) key.number ≡ taken_at (link_of state other.from) key.number = found_old row (link_of state other.from) key.number (λ same. both_ways _ e (eq-eqb other.number key.number same)) in
      subst (λ o. IsSureOf (are_known state key job) (state.next + 1) (link_of state other.from).below o key job) (sym found)
      (subst (λ n. IsSureBy (link_of state n)) (sym own) (fewer (are_known state key job) state.next (link_of state key.from).below (taken_of state key) key job left sure))

  sure_first : (state.next == numbers_end) ≡ false → IsSure then key job
  sure_first left = by-name (same_text other.from key.from) refl
    where
      by-name : (t : Bool) → same_text other.from key.from ≡ t → IsSure then key job
      by-name false e =
          let link : link_of then key.from ≡ link_of state key.from = link_other (with_job new state) key.from (with_taken row (link_of state other.from)) (ap (λ n. same_text n key.from) (name_is state other.from) ∙ e) in
          subst IsSureBy (sym link) (fewer (are_known state key job) state.next (link_of state key.from).below (taken_of state key) key job left sure)
      by-name true e =
          let own : other.from ≡ key.from = (bytes_decides other.from key.from).0 e in
          let link : link_of then key.from ≡ with_taken row (link_of state other.from) = link_own (with_job new state) key.from (with_taken row (link_of state other.from)) (name_is state other.from ∙ own) (λ silent. absurd (taken_says row (link_of state other.from) silent)) in
          subst IsSureBy (sym link) (by-number left own (other.number == key.number) refl)

  sure_other : IsSure (after state (QueueOnce other new)).0 key job
  sure_other = by_verdict (verdict state (QueueOnce other new)) refl
    where
      by_verdict : (v : Option Refusal) → verdict state (QueueOnce other new) ≡ v → IsSure (after_verdict v state (QueueOnce other new)).0 key job
      by_verdict (Some refusal) e = sure
      by_verdict None e = by_hand_in (λ again comes. is_again (taken_of state other) other ≡ again → IsSure (with_job_once comes other new state) key job) (taken_of state other) other state.next (λ first. sure_first (one_left e first)) (λ row is mark again. sure) refl

-- ---- each job of a bundle

module _ (from : List ℕ) (make : Packed → NewJob) where
  abbrev handing_in : Packed → Command
  handing_in packed = QueueOnce (key_for from packed) (make packed)

  sure_run : (state : State) (packed : Packed) (jobs : List Packed) → IsSure state (key_for from packed) (make packed) → IsSure (state_after state (map handing_in jobs)) (key_for from packed) (make packed)
  sure_run state packed [] sure = sure
  sure_run state packed (job ∷ jobs) sure = sure_run (after state (handing_in job)).0 packed jobs (sure_other state (key_for from packed) (make packed) sure (key_for from job) (make job))

  sure_in : (state : State) (packed : Packed) (jobs : List Packed) → Contains jobs packed → IsSure (state_after state (map handing_in jobs)) (key_for from packed) (make packed)
  sure_in state packed [] there = absurd (none_in packed there)
  sure_in state packed (job ∷ jobs) there = elim (first_or_later job packed jobs there) [
    | inl same ↦ subst (λ (p : Packed). IsSure (state_after (after state (handing_in job)).0 (map handing_in jobs)) (key_for from p) (make p)) same (sure_run (after state (handing_in job)).0 job jobs (sure_own state (key_for from job) (make job)))
    | inr later ↦ sure_in (after state (handing_in job)).0 packed jobs later
  ]

-- a job that is made anew is refused for the same reason
same_verdict : (state : State) (key : Key) (made anew : NewJob) → IsMadeAnew made anew → verdict state (QueueOnce key anew) ≡ verdict state (QueueOnce key made)
same_verdict state key made anew same = ap (λ n. of n anew.kind anew.system) same.size ∙ ap (λ k. of (length made.bytes) k anew.system) same.kind ∙ ap (of (length made.bytes) made.kind) same.system
  where
    of : ℕ → Kind → List ℕ → Option Refusal
    of size kind system =
        first_reason (cond (is_again (taken_of state key) key) [] ((ltb most_bytes size || has_many_arguments kind, TooLarge) ∷ (not (has_system state key.from && has_system state system), NoSystem)
        ∷ (state.next == numbers_end, NumbersOut) ∷ (ltb key.number (link_of state key.from).below, Stale) ∷ (is_other (taken_of state key) key, Differs) ∷ []))

-- ---- what the answer says of it

in_flat_map : {X Y : Type 0} (f : X → List Y) (xs : List X) (x : X) (y : Y) → Contains xs x → Contains (f x) y → Contains (flat_map f xs) y
in_flat_map f [] x y there inside = absurd (none_in x there)
in_flat_map f (one ∷ xs) x y there inside = elim (first_or_later one x xs there) [
  | inl same ↦ Contains-append_left (f one) (flat_map f xs) y (subst (λ z. Contains (f z) y) (sym same) inside)
  | inr later ↦ Contains-append_right (f one) (flat_map f xs) y (in_flat_map f xs x y later inside)
]

-- the answer has what is kept under the key of the job that asks for it
again_told : (state : State) (from : List ℕ) (jobs : List Packed) (packed : Packed) → Contains jobs packed → is_again (taken_of state (key_for from packed)) (key_for from packed) ≡ true
    → Contains (asked_of from state jobs) (record { number = packed.parcel.number; mark = packed.mark })
again_told state from jobs packed there e = by_row (taken_of state (key_for from packed)) refl e
  where
    by_row : (o : Option Taken) → taken_of state (key_for from packed) ≡ o → is_again o (key_for from packed) ≡ true → Contains (asked_of from state jobs) (record { number = packed.parcel.number; mark = packed.mark })
    by_row None is e = absurd (cc)
    by_row (Some row) is e =
        let found = find_there (is_taken packed.parcel.number) (link_of state from).taken row is in
        let told : told_of row ≡ record { number = packed.parcel.number; mark = packed.mark }
        = ap (λ n. record { number = n; mark = row.mark }) (eqb-true row.number packed.parcel.number found.1) ∙ ap (λ m. record { number = packed.parcel.number; mark = m }) (eqb-true row.mark packed.mark e) in
        let has = subst (Contains (has_of from state)) told (in_map told_of (link_of state from).taken row found.0) in
        let asked = some_passes (λ (other : Packed). other.parcel.number == packed.parcel.number && other.mark == packed.mark) jobs packed there
        (and_from (packed.parcel.number == packed.parcel.number) (packed.mark == packed.mark) (eq-eqb packed.parcel.number packed.parcel.number refl) (eq-eqb packed.mark packed.mark refl)) in
        in_filter (is_asked jobs) (has_of from state) (record { number = packed.parcel.number; mark = packed.mark }) has asked

module _ (to : List ℕ) (mark : Parcel → ℕ) (sender : State) (bundle : Bundle) (exchange : BundleExchange bundle) where
  abbrev key : Packed → Key
  key packed = key_for exchange.from packed

  sure : (packed : Packed) → Contains bundle.jobs packed → IsSure exchange.later (key packed) (exchange.make packed)
  sure packed there accepted =
      subst (λ s. IsSure s (key packed) (exchange.made packed)) (sym exchange.later_is)
      (sure_in exchange.from exchange.made (after exchange.neighbour (Forget exchange.from bundle.below)).0 packed bundle.jobs there)
      (sym (same_verdict exchange.later (key packed) (exchange.made packed) (exchange.make packed) (exchange.anew packed)) ∙ accepted)

  pub goes : (packed : Packed) (job : Job) → Contains bundle.jobs packed → Contains sender.jobs job → job.system ≡ to → IsOfJob mark job packed → GoesOrIsRefused to mark sender exchange.answer job
  goes packed job shown waits own of = by_verdict (verdict exchange.later (QueueOnce (key packed) (exchange.make packed))) refl
    where
      by_verdict : (v : Option Refusal) → verdict exchange.later (QueueOnce (key packed) (exchange.make packed)) ≡ v → GoesOrIsRefused to mark sender exchange.answer job
      by_verdict None e =
          let told = again_told exchange.later exchange.from bundle.jobs packed shown (sure packed shown e) in
          let has = subst (λ l. Contains l (record { number = packed.parcel.number; mark = packed.mark })) (sym exchange.answers.has) told in
          inl (gone sender to (settled_of to mark sender exchange.answer.has) job
          (settled_told to mark sender exchange.answer.has (record { number = packed.parcel.number; mark = packed.mark }) job has waits own (sym of.number) of.mark_is) own)
      by_verdict (Some reason) e =
          let refused : RefusedJob = record { number = packed.parcel.number; mark = packed.mark; reason = reason } in
          let one : Contains (refused_for packed (verdict exchange.later (QueueOnce (key packed) (exchange.make packed)))) refused = subst (λ v. Contains (refused_for packed v) refused) (sym e) (first_of refused []) in
          let told = subst (λ l. Contains l refused) (sym exchange.answers.refused)
          (in_flat_map (λ (p : Packed). refused_for p (verdict exchange.later (QueueOnce (key_for exchange.from p) (exchange.make p)))) bundle.jobs packed refused shown one) in
          inr (reason, subst (λ m. Contains exchange.answer.refused (record { number = job.number; mark = m; reason = reason })) of.mark_is (subst (λ n. Contains exchange.answer.refused (record { number = n; mark = packed.mark; reason = reason })) of.number told))

  pub all_go : (waiting : List Job) → AreWaiting to None None sender waiting → bundle.jobs ≡ map (packed_of mark) waiting → All (GoesOrIsRefused to mark sender exchange.answer) waiting
  all_go waiting are shown = all_from (GoesOrIsRefused to mark sender exchange.answer) waiting one
    where
      one : (job : Job) → Contains waiting job → GoesOrIsRefused to mark sender exchange.answer job
      one job there =
          let waits = one_waits to sender job (is_waiting_for to None None sender waiting job are there) in
          goes (packed_of mark job) job (subst (λ l. Contains l (packed_of mark job)) (sym shown) (in_map (packed_of mark) waiting job there)) waits.0 waits.1 (record { number = refl; mark_is = refl })

  pub was_taken : (job : Job) → AllPairs (λ (a b : Job). a.number < b.number) sender.jobs → Contains sender.jobs job → (¬ Contains (after sender (settling to mark sender exchange.answer)).0.jobs job)
      → Contains (has_of exchange.from exchange.later) (record { number = job.number; mark = mark (parcel_of job) })
  was_taken job rising waits went = by-test (is_released to (settled_of to mark sender exchange.answer.has) job) refl
    where
      settled : List ℕ
      settled = settled_of to mark sender exchange.answer.has

      by-test : (t : Bool) → is_released to (settled_of to mark sender exchange.answer.has) job ≡ t → Contains (has_of exchange.from exchange.later) (record { number = job.number; mark = mark (parcel_of job) })
      by-test false e = absurd (went (left_alone sender to (settled_of to mark sender exchange.answer.has) job waits e))
      by-test true e =
          let it = settled_waits to mark sender exchange.answer.has job.number (named to (settled_of to mark sender exchange.answer.has) job e).0 in
          let same : it.3.0 ≡ job = one_of_number (λ (j : Job). j.number) sender.jobs it.3.0 job rising it.3.1 waits it.3.3 in
          let told : it.0 ≡ record { number = job.number; mark = mark (parcel_of job) } = ap (λ n. record { number = n; mark = it.0.mark }) it.2 ∙ ap (λ m. record { number = job.number; mark = m }) (sym it.3.4 ∙ ap (λ (j : Job). mark (parcel_of j)) same) in
          let asked = subst (λ l. Contains l it.0) exchange.answers.has it.1 in
          subst (Contains (has_of exchange.from exchange.later)) told (from_filter (is_asked bundle.jobs) (has_of exchange.from exchange.later) it.0 asked).0
