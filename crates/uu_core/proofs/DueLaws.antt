-- The jobs of a system that may go, beside what is due of it, and what is due job by job.
use Rattle.std.proofs.Common.{◌≡◌, ℕ, ◌<◌, Bool, true, false, not, cond, ◌&&◌, ◌+◌, List, [], ◌∷◌, ◌++◌, length, get_or, take, map, filter, AllPairs, Contains, IsPermutation, refl, ap, sym, ◌∙◌, subst, arith, inl, inr, ◌⊎◌}
use Rattle.std.specs.List.{list_all}
use Rattle.std.specs.Cmp.Lexicographic.{bytes_decides}
use Rattle.std.proofs.lemmas.Bool.Decides.{nat_tests}
use Rattle.std.proofs.lemmas.List.Kept.{AllPairs-filter}
use Rattle.std.proofs.lemmas.List.{map-append, take_more}
use Rattle.std.proofs.lemmas.List.Elements.{All-contains, filter-append}
use Rattle.std.proofs.lemmas.List.Sorted.{IsPermutation-refl, IsPermutation-sym, Contains-permutation}
use Rattle.std.proofs.lemmas.Bool.{and_from, and_parts, both_ways, false≢true}
use Rattle.uu_names.proofs.Basics.{first_of, later_of, first_or_later, in_filter, from_filter, none_in, all_pass, pairs_first, pairs_rest, pairs_front}
use Rattle.uu_times.specs.declared.moment.Moment.{Moment}
use Rattle.uu_core.specs.declared.due.Due.{Due}
use Rattle.uu_core.specs.declared.job.JobHead.{JobHead}
use Rattle.uu_core.specs.declared.system.SystemRow.{SystemRow}
use Rattle.uu_core.specs.State.{same_text}
use Rattle.uu_core.specs.Queues.{jobs_for}
use Rattle.uu_core.specs.Due.{may_go, goes_before, is_due, due_of, all_due, dues_of, ComesFirst, AreDue, AreInOrder}
use Rattle.uu_core.proofs.WellFormedLemmas.{pairs_nil}
use Rattle.uu_core.proofs.DueLemmas.{walk, with_next, walk_step, walk_is_due, due_same, not_back, not_itself}

-- ---- lists

-- nothing that is there passes, so nothing is kept
none_kept : {X : Type 0} (p : X → Bool) (xs : List X) → ((x : X) → Contains xs x → p x ≡ true → ⊥) → filter p xs ≡ []
none_kept p [] none = refl
none_kept p (x ∷ xs) none = by-test (p x) refl (none_kept p xs (λ y there. none y (later_of x y xs there)))
  where
    by-test : (t : Bool) → p x ≡ t → filter p xs ≡ [] → cond t (x ∷ filter p xs) (filter p xs) ≡ []
    by-test true e rest = absurd (none x (first_of x xs) e)
    by-test false e rest = rest

-- only one passes, and it occurs once
one_kept : {X : Type 0} (R : X → X → Type 0) (p : X → Bool) (x : X) (xs : List X) → (R x x → ⊥) → AllPairs R xs → Contains xs x → p x ≡ true
    → ((y : X) → Contains xs y → p y ≡ true → y ≡ x) → filter p xs ≡ x ∷ []
one_kept R p x [] apart pairs there passes alone = absurd (none_in x there)
one_kept {X} R p x (y ∷ ys) apart pairs there passes alone =
    by-test (p y) refl (first_or_later y x ys there)
    (λ later. one_kept R p x ys apart (pairs_rest R y ys pairs) later passes (λ z in_ys. alone z (later_of y z ys in_ys)))
  where
    gone : p y ≡ true → (z : X) → Contains ys z → p z ≡ true → ⊥
    gone e z in_ys f =
        let first : y ≡ x = alone y (first_of y ys) e in
        let second : z ≡ x = alone z (later_of y z ys in_ys) f in
        let related : R y z = All-contains (R y) ys z (pairs_first R y ys pairs) in_ys in
        apart (subst (λ (a : X). R a x) first (subst (R y) second related))

    by-test : (t : Bool) → p y ≡ t → (y ≡ x) ⊎ Contains ys x → (Contains ys x → filter p ys ≡ x ∷ []) → cond t (y ∷ filter p ys) (filter p ys) ≡ x ∷ []
    by-test true e place again = ap (λ (l : List X). y ∷ l) (none_kept p ys (gone e)) ∙ ap (λ (a : X). a ∷ []) (alone y (first_of y ys) e)
    by-test false e (inl same) again = absurd (both_ways _ e (ap p same ∙ passes))
    by-test false e (inr later) again = again later

passes_there : {X : Type 0} (p : X → Bool) (xs : List X) (x : X) → list_all p xs ≡ true → Contains xs x → p x ≡ true
passes_there p [] x h there = absurd (none_in x there)
passes_there p (y ∷ xs) x h there = by-test (p y) refl h (first_or_later y x xs there) (passes_there p xs x)
  where
    by-test : (t : Bool) → p y ≡ t → t && list_all p xs ≡ true → (y ≡ x) ⊎ Contains xs x → (list_all p xs ≡ true → Contains xs x → p x ≡ true) → p x ≡ true
    by-test true e all (inl same) again = ap p (sym same) ∙ e
    by-test true e all (inr later) again = again all later
    by-test false e all place again = absurd (false≢true all)

-- ---- jobs by grade and number

not_first : (a : Due) → ComesFirst a a → ⊥
not_first a h = grind (arith, nat_tests)

not_all : (same goes before : Bool) → same ≡ true → goes ≡ true → before ≡ true → not (same && goes && before) ≡ true → ⊥
not_all same goes before e f g h = cc

-- one more job
pub goes_too : (rows : List SystemRow) (at : Moment) (jobs : List JobHead) (i : ℕ) (d : JobHead) (before after : List Due) → i < length jobs
    → before ≡ map due_of (filter (may_go rows at) (take i jobs)) → after ≡ before ++ map due_of (filter (may_go rows at) (get_or jobs i d ∷ []))
    → after ≡ map due_of (filter (may_go rows at) (take (i + 1) jobs))
goes_too rows at jobs i d before after inside so_far grown =
    let goes = may_go rows at in
    grown ∙ ap (λ l. l ++ map due_of (filter goes (get_or jobs i d ∷ []))) so_far
    ∙ sym (map-append due_of (filter goes (take i jobs)) (filter goes (get_or jobs i d ∷ [])))
    ∙ ap (map due_of) (sym (filter-append goes (take i jobs) (get_or jobs i d ∷ [])) ∙ ap (filter goes) (sym (take_more jobs i d inside)))

module _ (rows : List SystemRow) (at : Moment) (jobs own : List JobHead) (name : List ℕ) (dues : List Due)
    (same : IsPermutation (jobs_for name jobs) own) (order : AreInOrder own) (due : AreDue rows jobs at dues) where
  -- those that may go
  abbrev going : List JobHead
  going = filter (may_go rows at) own

  is_own : JobHead → Bool
  is_own job = same_text job.system name

  -- a job of the system that may go is one of them
  among : (job : JobHead) → Contains jobs job → job.system ≡ name → may_go rows at job ≡ true → Contains going job
  among job there named goes =
      in_filter (may_go rows at) own job
      (Contains-permutation (jobs_for name jobs) own job same (in_filter (λ (other : JobHead). same_text other.system name) jobs job there ((bytes_decides job.system name).1 named))) goes

  -- and each of them is such a job
  of_them : (job : JobHead) → Contains going job → Contains jobs job × (job.system ≡ name) × (may_go rows at job ≡ true)
  of_them job there =
      let goes = from_filter (may_go rows at) own job there in
      let own_of = from_filter (λ (other : JobHead). same_text other.system name) jobs job (Contains-permutation own (jobs_for name jobs) job (IsPermutation-sym (jobs_for name jobs) own same) goes.0) in
      (own_of.0, (bytes_decides job.system name).0 own_of.1, goes.1)

  -- what is due of the system is one of them, before which none goes
  record IsOne (d : Due) : Type 0 where
    job : JobHead
    there : Contains going job
    is : d ≡ due_of job
    first : (other : JobHead) → Contains going other → goes_before other job ≡ true → ⊥

  one_of : (d : Due) → Contains dues d → same_text d.system name ≡ true → IsOne d
  one_of d there named =
      let it = due.sound d there in
      let parts = and_parts (may_go rows at it.job) _ it.first in
      let system : it.job.system ≡ name = ap (λ (e : Due). e.system) (sym it.is) ∙ (bytes_decides d.system name).0 named in
      record {
        job = it.job;
        there = among it.job it.there system parts.0;
        is = it.is;
        first = λ other in_going before.
            let own_of = of_them other in_going in
            not_all (same_text other.system it.job.system) (may_go rows at other) (goes_before other it.job)
            ((bytes_decides other.system it.job.system).1 (own_of.1 ∙ sym system)) own_of.2 before
            (passes_there (λ (o : JobHead). not (same_text o.system it.job.system && may_go rows at o && goes_before o it.job)) jobs other parts.1 own_of.0);
      }

  by_going : (list : List JobHead) → going ≡ list → dues_of name dues ≡ take 1 (map due_of list)
  by_going [] none =
      none_kept (λ (d : Due). same_text d.system name) dues
      (λ d there named. let one = one_of d there named in none_in one.job (subst (λ (l : List JobHead). Contains l one.job) none one.there))
  by_going (first ∷ later) some =
      one_kept ComesFirst (λ (d : Due). same_text d.system name) (due_of first) dues (not_first (due_of first)) due.in_order
      (due.complete (due_of first) (record { job = first; there = first_is.0; first = is_first; is = refl }))
      ((bytes_decides first.system name).1 first_is.1) alone
    where
      first_is : Contains jobs first × (first.system ≡ name) × (may_go rows at first ≡ true)
      first_is = of_them first (subst (λ (l : List JobHead). Contains l first) (sym some) (first_of first later))

      in_order : AllPairs (λ a b. goes_before a b ≡ true) (first ∷ later)
      in_order = subst AreInOrder some (AllPairs-filter (λ a b. goes_before a b ≡ true) (may_go rows at) own order)

      -- each of the others goes after it
      behind : (other : JobHead) → Contains later other → goes_before first other ≡ true
      behind other there = All-contains (λ o. goes_before first o ≡ true) later other (pairs_first (λ a b. goes_before a b ≡ true) first later in_order) there

      none_before : (other : JobHead) → Contains jobs other → not (same_text other.system first.system && may_go rows at other && goes_before other first) ≡ true
      none_before other there = by-test (same_text other.system first.system) (may_go rows at other) refl refl
        where
          closed : (b : Bool) → not (b && false) ≡ true
          closed true = refl
          closed false = refl

          by-test : (s g : Bool) → same_text other.system first.system ≡ s → may_go rows at other ≡ g → not (s && g && goes_before other first) ≡ true
          by-test false g e f = refl
          by-test true false e f = refl
          by-test true true e f =
              let in_going = subst (λ (l : List JobHead). Contains l other) some (among other there ((bytes_decides other.system first.system).0 e ∙ first_is.1) f) in
              elim (first_or_later first other later in_going) [
                | inl itself ↦ rw (ap (λ (o : JobHead). goes_before o first) (sym itself) ∙ not_itself first) (refl)
                | inr later_on ↦ rw (not_back first other (behind other later_on)) (refl)
              ]

      is_first : is_due rows jobs at first ≡ true
      is_first =
          and_from (may_go rows at first) _ first_is.2
          (all_pass (λ (other : JobHead). not (same_text other.system first.system && may_go rows at other && goes_before other first)) jobs none_before)

      alone : (d : Due) → Contains dues d → same_text d.system name ≡ true → d ≡ due_of first
      alone d there named =
          let one = one_of d there named in
          elim (first_or_later first one.job later (subst (λ (l : List JobHead). Contains l one.job) some one.there)) [
            | inl itself ↦ one.is ∙ ap due_of (sym itself)
            | inr later_on ↦ absurd (one.first first (subst (λ (l : List JobHead). Contains l first) (sym some) (first_of first later)) (behind one.job later_on))
          ]

  pub first_to_go : dues_of name dues ≡ take 1 (all_due rows own at)
  first_to_go = by_going going refl

-- ---- job by job

-- two lists of the same elements, each in one order, are one list
one_list : {X : Type 0} (R : X → X → Type 0) → ((a b : X) → R a b → R b a → ⊥) → (xs ys : List X) → AllPairs R xs → AllPairs R ys
    → ((x : X) → Contains xs x → Contains ys x) → ((y : X) → Contains ys y → Contains xs y) → xs ≡ ys
one_list R apart [] [] pairs others there back = refl
one_list R apart [] (y ∷ ys) pairs others there back = absurd (none_in y (back y (first_of y ys)))
one_list R apart (x ∷ xs) [] pairs others there back = absurd (none_in x (there x (first_of x xs)))
one_list {X} R apart (x ∷ xs) (y ∷ ys) pairs others there back =
    by_first (one_list R apart xs ys (pairs_rest R x xs pairs) (pairs_rest R y ys others)) (first_or_later y x ys (there x (first_of x xs))) (first_or_later x y xs (back y (first_of y ys)))
  where
    behind : (z : X) → Contains xs z → R x z
    behind z in_xs = All-contains (R x) xs z (pairs_first R x xs pairs) in_xs

    behind_other : (z : X) → Contains ys z → R y z
    behind_other z in_ys = All-contains (R y) ys z (pairs_first R y ys others) in_ys

    -- what comes after an element isn't that element
    later_than : (a z : X) → R a z → (a ≡ z) → ⊥
    later_than a z r same = apart a a (subst (R a) (sym same) r) (subst (R a) (sym same) r)

    Rest : Type 0
    Rest = ((z : X) → Contains xs z → Contains ys z) → ((z : X) → Contains ys z → Contains xs z) → xs ≡ ys

    rest : Rest → x ≡ y → xs ≡ ys
    rest again same =
        again
        (λ z in_xs. elim (first_or_later y z ys (there z (later_of x z xs in_xs))) [ inl first ↦ absurd (later_than x z (behind z in_xs) (same ∙ first)) | inr later ↦ later ])
        (λ z in_ys. elim (first_or_later x z xs (back z (later_of y z ys in_ys))) [ inl first ↦ absurd (later_than y z (behind_other z in_ys) (sym same ∙ first)) | inr later ↦ later ])

    by_first : Rest → (y ≡ x) ⊎ Contains ys x → (x ≡ y) ⊎ Contains xs y → x ∷ xs ≡ y ∷ ys
    by_first again (inl same) other = (λ i. sym same i ∷ rest again (sym same) i)
    by_first again (inr later) (inl same) = (λ i. same i ∷ rest again same i)
    by_first again (inr later) (inr behind_x) = absurd (apart x y (behind y behind_x) (behind_other x later))

one_first : (a b : Due) → ComesFirst a b → ComesFirst b a → ⊥
one_first a b h k = grind (arith, nat_tests)

-- what is due of jobs in order is what a walk along them lists
due_is_walked : (rows : List SystemRow) (at : Moment) (jobs : List JobHead) (dues : List Due) → AreInOrder jobs → AreDue rows jobs at dues → walk rows jobs at ≡ dues
due_is_walked rows at jobs dues order due =
    let walked = walk_is_due rows at jobs jobs (IsPermutation-refl jobs) order in
    one_list ComesFirst one_first (walk rows jobs at) dues walked.in_order due.in_order (λ d there. due.complete d (walked.sound d there)) (λ d there. walked.complete d (due.sound d there))

pub none_due : (rows : List SystemRow) (at : Moment) → AreDue rows [] at []
none_due rows at = walk_is_due rows at [] [] (IsPermutation-refl []) (pairs_nil (λ a b. goes_before a b ≡ true))

pub one_more_due : (rows : List SystemRow) (at : Moment) (jobs : List JobHead) (job : JobHead) (dues : List Due) → AreInOrder (jobs ++ job ∷ []) → AreDue rows jobs at dues
    → AreDue rows (jobs ++ job ∷ []) at (with_next rows at dues job)
one_more_due rows at jobs job dues order due =
    subst (AreDue rows (jobs ++ job ∷ []) at)
    (walk_step rows at jobs job ∙ ap (λ l. with_next rows at l job) (due_is_walked rows at jobs dues (pairs_front (λ a b. goes_before a b ≡ true) jobs (job ∷ []) order) due))
    (walk_is_due rows at (jobs ++ job ∷ []) (jobs ++ job ∷ []) (IsPermutation-refl (jobs ++ job ∷ [])) order)

pub due_in_any_order : (rows : List SystemRow) (at : Moment) (jobs ordered : List JobHead) (dues : List Due) → IsPermutation jobs ordered → AreDue rows ordered at dues → AreDue rows jobs at dues
due_in_any_order rows at jobs ordered dues same due = record {
  sound = λ d there. let it = due.sound d there in
      record { job = it.job; there = Contains-permutation ordered jobs it.job (IsPermutation-sym jobs ordered same) it.there; first = due_same rows at jobs ordered it.job same ∙ it.first; is = it.is };
  complete = λ d it. due.complete d (record { job = it.job; there = Contains-permutation jobs ordered it.job same it.there; first = sym (due_same rows at jobs ordered it.job same) ∙ it.first; is = it.is });
  in_order = due.in_order;
}
