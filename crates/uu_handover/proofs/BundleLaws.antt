-- Custody allows what bundles say.
use Rattle.std.proofs.Common.{◌≡◌, ℕ, ◌<◌, get_or, true, ◌==◌, ◌&&◌, ◌||◌, ltb, List, [], ◌∷◌, map, filter, AllPairs, Contains, Option, refl, ap, sym, ◌∙◌, subst, arith, inl, inr}
use Rattle.std.specs.Cmp.Lexicographic.{bytes_decides}
use Rattle.std.proofs.lemmas.Bool.{eqb-true, and_from, eq-eqb}
use Rattle.std.proofs.lemmas.Bool.Decides.{nat_tests}
use Rattle.std.proofs.lemmas.List.{get_or-map, length-map, map-append}
use Rattle.std.proofs.lemmas.List.Elements.{All-contains}
use Rattle.std.proofs.lemmas.List.Sorted.{Contains-permutation, IsPermutation-sym}
use Rattle.uu_names.proofs.Basics.{first_of, later_of, first_or_later, none_in, in_filter, from_filter, in_map, from_map, some_passes, passing_one, and_first, and_second, pairs_first, pairs_rest, all_from, in_append, pairs_front}
use Rattle.uu_core.specs.declared.custody.Taken.{Taken}
use Rattle.uu_core.specs.declared.job.JobHead.{JobHead}
use Rattle.uu_core.specs.State.{State, Job, same_text, link_of, head_of}
use Rattle.uu_core.specs.Due.{goes_before}
use Rattle.uu_handover.specs.Custody.{Parcel, parcel_of, Crossing, World, HasTaken, IsQueued}
use Rattle.uu_handover.specs.Bundles.{Bundle, Told, told_of, Packed, packed_of, has_of, waiting_for, is_up_to, named_job, is_behind, jobs_to, IsFront, AreWaiting, AreSomeWaiting, IsSaid, is_settled, settled_of}
use Rattle.uu_handover.proofs.CustodyInvariant.{Holds, IsIn, was_in}

-- ---- what the bundle has was taken, and what waits is there

pub told_taken : (crossing : Crossing) (receiver : State) (mark : Parcel → ℕ) (bundle : Bundle) (told : Told) → IsSaid crossing.to crossing.from mark receiver bundle → Contains bundle.has told
    → (row : Taken) × Contains (link_of receiver crossing.from).taken row × (told_of row ≡ told)
told_taken crossing receiver mark bundle told said there =
    from_map told_of (link_of receiver crossing.from).taken told (All-contains (Contains (has_of crossing.from receiver)) bundle.has told said.has there)

pub has_told : (crossing : Crossing) (receiver : State) (mark : Parcel → ℕ) (bundle : Bundle) (told : Told) → IsSaid crossing.to crossing.from mark receiver bundle → Contains bundle.has told → HasTaken crossing receiver told.number
has_told crossing receiver mark bundle told said there =
    let it = told_taken crossing receiver mark bundle told said there in
    record { row = it.0; there = it.1; is = ap (λ (t : Told). t.number) it.2 }

-- a job that waits for the system
pub one_waits : (system : List ℕ) (state : State) (job : Job) → Contains (waiting_for system state) job → Contains state.jobs job × (job.system ≡ system)
one_waits system state job there =
    let waits = from_filter (λ (job : Job). same_text job.system system) state.jobs job there in
    (waits.0, (bytes_decides job.system system).0 waits.1)

pub waits_there : (crossing : Crossing) (sender : State) (mark : Parcel → ℕ) (bundle : Bundle) (packed : Packed) → IsSaid crossing.from crossing.to mark sender bundle → Contains bundle.jobs packed
    → (job : Job) × (Contains sender.jobs job × (job.system ≡ crossing.to)) × (packed ≡ packed_of mark job)
waits_there crossing sender mark bundle packed said there =
    let one = from_map (packed_of mark) said.waiting packed (subst (λ l. Contains l packed) said.jobs there) in
    (one.0, one_waits crossing.to sender one.0 (All-contains (Contains (waiting_for crossing.to sender)) said.waiting one.0 said.are_waiting.there one.1), sym one.2)

-- ---- the first ones of those that are wanted

-- each of those that are wanted waits
pub is_waiting_for : (system : List ℕ) (lowest after : Option ℕ) (state : State) (jobs : List Job) (job : Job) → AreWaiting system lowest after state jobs → Contains jobs job → Contains (waiting_for system state) job
is_waiting_for system lowest after state jobs job are there =
    (from_filter (λ (job : Job). is_up_to lowest job.grade && is_behind (named_job system after state) job) (waiting_for system state) job
    (Contains-permutation jobs (jobs_to system lowest after state) job (IsPermutation-sym (jobs_to system lowest after state) jobs are.these) there)).0

pub front_waits : (system : List ℕ) (lowest after : Option ℕ) (state : State) (waiting first : List Job) → AreWaiting system lowest after state waiting → IsFront first waiting → AreSomeWaiting system state first
front_waits system lowest after state waiting first are front = record {
  there = all_from (Contains (waiting_for system state)) first (λ job there. is_waiting_for system lowest after state waiting job are (in_append waiting first front.rest job front.is there));
  in_order = pairs_front (λ (a b : JobHead). goes_before a b ≡ true) (map head_of first) (map head_of front.rest) (subst (AllPairs (λ (a b : JobHead). goes_before a b ≡ true)) (ap (map head_of) front.is ∙ map-append head_of first front.rest) are.in_order);
}

-- ---- of a world that is reached

module _ (crossing : Crossing) (world : World) (h : Holds crossing world) (mark : Parcel → ℕ) (bundle : Bundle) (told : Told) (said : IsSaid crossing.to crossing.from mark world.receiver bundle) (there : Contains bundle.has told) where
  pub told_in : IsIn world.handed told.number
  told_in = was_in crossing world h told.number (has_told crossing world.receiver mark bundle told said there)

  pub told_of_job : (job : Job) → Contains world.sender.jobs job → job.number ≡ told.number → IsQueued crossing world (parcel_of job) × (told.mark ≡ crossing.mark (parcel_of job))
  told_of_job job waits number =
      let it = told_taken crossing world.receiver mark bundle told said there in
      let was = h.taken it.0 it.1 in
      let is_number : it.0.number ≡ told.number = ap (λ (t : Told). t.number) it.2 in
      let made = h.made was.number.it was.number.there in
      let queued : parcel_of job ≡ made.0 = (h.shown made.0 made.1).same job waits (number ∙ sym is_number ∙ sym was.number.is ∙ made.2.number) in
      let shown : parcel_of job ≡ was.parcel = (h.shown was.parcel was.shown).same job waits (number ∙ sym is_number ∙ sym was.of) in
      (subst (IsQueued crossing world) (sym queued) (record { handed = was.number.it; there = was.number.there; of = made.2 }), sym (ap (λ (t : Told). t.mark) it.2) ∙ was.mark ∙ ap crossing.mark (sym shown))

-- ---- what is settled

pub settled_told : (system : List ℕ) (mark : Parcel → ℕ) (state : State) (has : List Told) (told : Told) (job : Job) → Contains has told → Contains state.jobs job → job.system ≡ system → job.number ≡ told.number → told.mark ≡ mark (parcel_of job)
    → Contains (settled_of system mark state has) job.number
settled_told system mark state has told job there waits own number same =
    let passes = some_passes (λ (other : Job). same_text other.system system && other.number == told.number && mark (parcel_of other) == told.mark) state.jobs job waits
    (and_from (same_text job.system system && job.number == told.number) (mark (parcel_of job) == told.mark)
    (and_from (same_text job.system system) (job.number == told.number) ((bytes_decides job.system system).1 own) (eq-eqb job.number told.number number))
    (eq-eqb (mark (parcel_of job)) told.mark (sym same))) in
    subst (Contains (settled_of system mark state has)) (sym number)
    (in_map (λ (t : Told). t.number) (filter (is_settled system mark state) has) told (in_filter (is_settled system mark state) has told there passes))

pub settled_waits : (system : List ℕ) (mark : Parcel → ℕ) (state : State) (has : List Told) (number : ℕ) → Contains (settled_of system mark state has) number
    → (told : Told) × Contains has told × (told.number ≡ number) × ((job : Job) × Contains state.jobs job × (job.system ≡ system) × (job.number ≡ number) × (mark (parcel_of job) ≡ told.mark))
settled_waits system mark state has number there =
    let one = from_map (λ (t : Told). t.number) (filter (is_settled system mark state) has) number there in
    let told = one.0 in
    let inside = from_filter (is_settled system mark state) has told one.1 in
    let it = passing_one (λ (job : Job). same_text job.system system && job.number == told.number && mark (parcel_of job) == told.mark) state.jobs inside.1 in
    let job = it.0 in
    let both = and_first (same_text job.system system && job.number == told.number) (mark (parcel_of job) == told.mark) it.2 in (
      told,
      inside.0,
      one.2,
      (
        job,
        it.1,
        (bytes_decides job.system system).0 (and_first (same_text job.system system) (job.number == told.number) both),
        eqb-true job.number told.number (and_second (same_text job.system system) (job.number == told.number) both) ∙ one.2,
        eqb-true (mark (parcel_of job)) told.mark (and_second (same_text job.system system && job.number == told.number) (mark (parcel_of job) == told.mark) it.2),
      ),
    )

-- ---- by grade and number there is one order

abbrev Before : Job → Job → Type 0
Before a b = goes_before (head_of a) (head_of b) ≡ true

not-both : (a b : Job) → Before a b → Before b a → ⊥
not-both a b = by_numbers a.grade b.grade a.number b.number
  where
    by_numbers : (g h n m : ℕ) → ltb g h || (g == h && ltb n m) ≡ true → ltb h g || (h == g && ltb m n) ≡ true → ⊥
    by_numbers g h n m e f = grind (arith, nat_tests)

of_heads : (jobs : List Job) → AllPairs (λ a b. goes_before a b ≡ true) (map head_of jobs) → AllPairs Before jobs
of_heads jobs pairs i j d below within =
    let far = pairs i j (head_of d) below (subst (λ n. j < n) (sym (length-map jobs head_of)) within) in
    subst (λ h. goes_before h (head_of (get_or jobs j d)) ≡ true) (get_or-map head_of jobs i d (head_of d) (omega (arith, below, within)))
    (subst (λ h. goes_before (get_or (map head_of jobs) i (head_of d)) h ≡ true) (get_or-map head_of jobs j d (head_of d) within) far)

same_order : (xs ys : List Job) → AllPairs Before xs → AllPairs Before ys → ((job : Job) → Contains xs job → Contains ys job) → ((job : Job) → Contains ys job → Contains xs job) → xs ≡ ys
same_order [] [] p q there back = refl
same_order [] (y ∷ ys) p q there back = absurd (none_in y (back y (first_of y ys)))
same_order (x ∷ xs) [] p q there back = absurd (none_in x (there x (first_of x xs)))
same_order (x ∷ xs) (y ∷ ys) p q there back = ap (λ j. j ∷ xs) same ∙ ap (λ l. y ∷ l) (same_order xs ys (pairs_rest Before x xs p) (pairs_rest Before y ys q) (inside xs ys x y p same there) (inside ys xs y x q (sym same) back))
  where
    same : x ≡ y
    same = elim (first_or_later y x ys (there x (first_of x xs))) [
      | inl e ↦ sym e
      | inr behind ↦ (elim (first_or_later x y xs (back y (first_of y ys))) [
        | inl e ↦ e
        | inr later ↦ absurd (not-both x y (All-contains (Before x) xs y (pairs_first Before x xs p) later) (All-contains (Before y) ys x (pairs_first Before y ys q) behind))
      ])
    ]

    inside : (some most : List Job) (a b : Job) → AllPairs Before (a ∷ some) → a ≡ b → ((job : Job) → Contains (a ∷ some) job → Contains (b ∷ most) job) → (job : Job) → Contains some job → Contains most job
    inside some most a b pairs e all job at = elim (first_or_later b job most (all job (later_of a job some at))) [
      | inl own ↦ absurd (let l = All-contains (Before a) some job (pairs_first Before a some pairs) at in let l_own = subst (Before a) (sym own ∙ sym e) l in not-both a a l_own l_own)
      | inr later ↦ later
    ]

pub one_order : (system : List ℕ) (lowest after : Option ℕ) (state : State) (one other : List Job) → AreWaiting system lowest after state one → AreWaiting system lowest after state other → one ≡ other
one_order system lowest after state one other a b =
    same_order one other (of_heads one a.in_order) (of_heads other b.in_order) (across one other a b) (across other one b a)
  where
    across : (first second : List Job) → AreWaiting system lowest after state first → AreWaiting system lowest after state second → (job : Job) → Contains first job → Contains second job
    across first second f s job there = Contains-permutation (jobs_to system lowest after state) second job s.these (Contains-permutation first (jobs_to system lowest after state) job (IsPermutation-sym (jobs_to system lowest after state) first f.these) there)
