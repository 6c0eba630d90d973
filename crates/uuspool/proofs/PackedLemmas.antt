-- What `pack` and `answer` print is the text of a bundle, which says what a site may say.
use Rattle.std.proofs.Common.{◌≡◌, ◌∙◌, ℕ, ◌<◌, ◌≤◌, ◌^◌, min, length, Bool, true, false, cond, ◌==◌, ◌&&◌, ◌||◌, List, [], ◌∷◌, ◌++◌, map, find, All, Contains, Option, Some, None, IfSome, option_map, unwrap_or, ap, arith, refl, subst, sym}
use Rattle.std.specs.Prelude.{IsTrue, nat_le}
use Rattle.std.specs.List.{list_any}
use Rattle.std.proofs.lemmas.List.Elements.{All-append, All-contains_itself, All-cons, All-filter, All-head, All-map, All-nil, All-tail, All-weaker, filter_agree}
use Rattle.std.proofs.lemmas.List.Kept.{AllPairs-filter}
use Rattle.std.proofs.lemmas.List.Sorted.{All-permutation}
use Rattle.sqlite_keyed.proofs.ListLemmas.{filter-map}
use Rattle.uu_names.specs.Grade.{grade_count}
use Rattle.uu_names.specs.Name.{is_site_name, is_word}
use Rattle.uu_names.proofs.Basics.{found_has}
use Rattle.uu_bundle.specs.Bundles.{AreTaken, IsBundle, IsGiven, answer_front_text, answer_bundle, bundle_text, front_text, half, jobs_with_room, most_bundle, packed_bundle, takes_job, told_first, told_of, told_with_room, text_with_refused}
use Rattle.uu_bundle.specs.Texts.{IsHeading, IsRefused, heading_text, record_text}
use Rattle.uu_bundle.specs.declared.bundle.Bundle.{Bundle}
use Rattle.uu_bundle.specs.declared.bundle.Heading.{Heading}
use Rattle.uu_bundle.specs.declared.bundle.Parcel.{Parcel}
use Rattle.uu_bundle.specs.declared.bundle.Record.TheVariants.{Has, Job as JobRecord}
use Rattle.uu_bundle.specs.declared.bundle.Refused.{Refused}
use Rattle.uu_handover.specs.Bundles.{AreSomeWaiting, AreWaiting, IsFront, IsSaid, Packed, asked_of, below_of, is_asked, is_behind, is_up_to, jobs_to, key_for, named_job, packed_of, refused_of, waiting_for}
use Rattle.uu_handover.specs.Bundles as handover
use Rattle.uu_core.specs.Marks.{marks_end}
use Rattle.uu_core.specs.State.{IsJob, IsKind, IsLink, IsWellFormed, Job, Link, State, is_link, link_of, new_link, same_text}
use Rattle.uu_core.specs.Verdict.{verdict}
use Rattle.uu_core.specs.WellFormed.{HasWords}
use Rattle.uu_core.specs.declared.command.Command.{Command}
use Rattle.uu_core.specs.declared.command.Command.TheVariants.{QueueOnce}
use Rattle.uu_core.specs.declared.custody.Taken.{Taken}
use Rattle.uu_core.specs.declared.job.Kind.{Kind}
use Rattle.uu_core.specs.declared.job.Kind.TheVariants as kind
use Rattle.uu_core.specs.declared.job.NewJob.{NewJob}
use Rattle.uu_core.specs.declared.refusal.Refusal.{Refusal}
use Rattle.uu_request.specs.Carried.{bundle_crossing, said_of}
use Rattle.uu_request.specs.Carried as carried
use Rattle.uu_request.specs.declared.request.Answering.{Answering}
use Rattle.uu_request.specs.declared.request.Packing.{Packing}
use Rattle.uuspool.specs.Bundles.{AreToGo, AreToGoUnless, IsAnswerText, IsBundleText, IsPacked, answer_of, bundle_of, hands_in, heading_for, most_of, parcel_for, parcels_for, refused_among, refused_for, taken_among}

pub packed_text : (known : Bool) (IsText : List ℕ → Type 0) (output : List ℕ) → IsPacked known IsText output 0 → IsText output
packed_text true IsText output it = it.0
packed_text false IsText output it = absurd (cc)

-- ---- fronts and parts of lists

all_front : {X : Type 0} (P : X → Type 0) (xs ys : List X) → All P (xs ++ ys) → All P xs
all_front P [] ys all = All-nil P
all_front P (x ∷ xs) ys all = All-cons P x xs (All-head P x (xs ++ ys) all) (all_front P xs ys (All-tail P x (xs ++ ys) all))

all_unmapped : {X Y : Type 0} (P : Y → Type 0) (f : X → Y) (xs : List X) → All P (map f xs) → All (λ x. P (f x)) xs
all_unmapped P f [] all = All-nil (λ x. P (f x))
all_unmapped P f (x ∷ xs) all = All-cons (λ x. P (f x)) x xs (All-head P (f x) (map f xs) all) (all_unmapped P f xs (All-tail P (f x) (map f xs) all))

-- the bundle has as much of what was taken as there is room for
told_front : (first further : ℕ) (text : List ℕ) (taken : List Taken) → IsFront (told_with_room first further text taken) taken
told_front first further text [] = record { rest = []; is = refl }
told_front first further text (one ∷ taken) =
    let more = text ++ record_text (Has (told_of one)) in
    let behind = told_front further further more taken in
    elim (nat_le (length more) first) as (λ b. IsFront (cond b (one ∷ told_with_room further further more taken) []) (one ∷ taken)) [
      | true ↦ record { rest = behind.rest; is = ap (λ rows. one ∷ rows) behind.is }
      | false ↦ record { rest = one ∷ taken; is = refl }
    ]

-- and of the jobs
module _ (own : List ℕ) (it : Packing) where
  abbrev parcel : Job → Parcel
  parcel = parcel_for own it.system it.spool

  -- the first ones go into the text, and these are their parcels
  abbrev Going : List Parcel → List Job → Type 0
  Going parcels jobs = (first : List Job) × IsFront first jobs × (parcels ≡ map parcel first)

  room_first : (first further : ℕ) (text : List ℕ) (jobs : List Job) → Going (jobs_with_room first further text (map parcel jobs)) jobs
  room_first first further text [] = ([], record { rest = []; is = refl }, refl)
  room_first first further text (job ∷ jobs) =
      let more = text ++ record_text (JobRecord (parcel job)) in
      let behind = room_first further further more jobs in
      elim (takes_job first text (parcel job)) as (λ b. Going (cond b (parcel job ∷ jobs_with_room further further more (map parcel jobs)) []) (job ∷ jobs)) [
        | true ↦ (job ∷ behind.0, record { rest = behind.1.rest; is = ap (λ js. job ∷ js) behind.1.is }, ap (λ ps. parcel job ∷ ps) behind.2)
        | false ↦ ([], record { rest = job ∷ jobs; is = refl }, refl)
      ]

-- ---- what is said

said_told : (rows : List Taken) → map carried.told_job (map told_of rows) ≡ map handover.told_of rows
said_told [] = refl
said_told (row ∷ rows) = ap (λ told. handover.told_of row ∷ told) (said_told rows)

said_jobs : (own system word : List ℕ) (jobs : List Job) → map carried.packed_job (map (parcel_for own system word) jobs) ≡ map (packed_of (bundle_crossing own system word).mark) jobs
said_jobs own system word [] = refl
said_jobs own system word (job ∷ jobs) = ap (λ js. packed_of (bundle_crossing own system word).mark job ∷ js) (said_jobs own system word jobs)

-- each row of a part of what was taken is among what the site has
told_are_had : (taken part : List Taken) → ((P : Taken → Type 0) → All P taken → All P part) → All (Contains (map handover.told_of taken)) (map carried.told_job (map told_of part))
told_are_had taken part of_part =
    subst (All (Contains (map handover.told_of taken))) (sym (said_told part))
    (All-map (Contains (map handover.told_of taken)) handover.told_of part
    (of_part (λ one. Contains (map handover.told_of taken) (handover.told_of one))
    (all_unmapped (Contains (map handover.told_of taken)) handover.told_of taken (All-contains_itself (map handover.told_of taken)))))

-- ---- what is sound

has_words : (kind : Kind) → IsKind kind → HasWords kind
has_words (kind.Send source target) is = is
has_words (kind.Request source target) is = is
has_words (kind.Execute command arguments) is = (is.0, is.1)

below_within : (system : List ℕ) (s : State) → IsWellFormed s → below_of system s < 2 ^ 32
below_within system s good = go (find (λ job. same_text job.system system) s.jobs) (found_has (λ (job : Job). job.number < s.next) (λ job. same_text job.system system) s.jobs good.below_next)
  where
    go : (found : Option Job) → IfSome found (λ job. job.number < s.next) → unwrap_or (option_map (λ (job : Job). job.number) found) s.next < 2 ^ 32
    go None is = omega (arith, good.next)
    go (Some job) is = omega (arith, good.next, is)

abbrev IsKept : Taken → Type 0
IsKept one = (one.number < 2 ^ 32) × (one.mark < marks_end)

taken_within : (system : List ℕ) (s : State) → IsWellFormed s → AreTaken (link_of s system).taken
taken_within system s good = go (find (is_link system) s.links) (found_has IsLink (is_link system) s.links good.links)
  where
    go : (found : Option Link) → IfSome found IsLink → AreTaken (unwrap_or found (new_link system)).taken
    go None is = record { numbers = All-nil IsKept; rising = λ i j d below within. absurd (omega (arith, within)) }
    go (Some link) is = record {
      numbers = All-weaker (λ (one : Taken). (one.number ≤ 4294967295) × (one.mark < marks_end) × (1 ≤ one.job)) IsKept (λ one kept. (omega (arith, kept.0), kept.1)) link.taken is.numbers;
      rising = is.rising;
    }

abbrev IsWithin : State → Job → Type 0
IsWithin s job = IsJob job × (job.number < s.next)

abbrev pub Fronts : Type 0
Fronts = (system : List ℕ) (lowest after : Option ℕ) (state : State) (waiting first : List Job) → AreWaiting system lowest after state waiting → IsFront first waiting → AreSomeWaiting system state first

module _ (own : List ℕ) (it : Packing) (s : State) (good : IsWellFormed s) where
  given_of : (job : Job) → IsWithin s job → IsGiven (heading_for own it s) (parcel_for own it.system it.spool job)
  given_of job (is, below) = record {
    number = omega (arith, good.next, below);
    grade = is.grade;
    user = is.user;
    kind = has_words job.kind is.kind;
    mark = refl;
  }

  -- the jobs that go are the state's
  within_of : (without : Bool) (lowest : ℕ) (jobs : List Job) → AreToGoUnless without it lowest s jobs → All (IsWithin s) jobs
  within_of true lowest jobs are = subst (All (IsWithin s)) (sym are) (All-nil (IsWithin s))
  within_of false lowest jobs are =
      All-permutation (IsWithin s) (jobs_to it.system (Some lowest) it.after s) jobs are.these
      (All-filter (λ (job : Job). is_up_to (Some lowest) job.grade && is_behind (named_job it.system it.after s) job) (IsWithin s) (waiting_for it.system s)
      (All-filter (λ (job : Job). same_text job.system it.system) (IsWithin s) s.jobs (λ k d within. (good.jobs k d within, good.below_next k d within))))

  given : (lowest : ℕ) (jobs : List Job) → AreToGo it lowest s jobs → All (IsGiven (heading_for own it s)) (parcels_for own it jobs)
  given lowest jobs are =
      All-map (IsGiven (heading_for own it s)) (parcel_for own it.system it.spool) jobs
      (All-weaker (IsWithin s) (λ (job : Job). IsGiven (heading_for own it s) (parcel_for own it.system it.spool job)) given_of jobs (within_of it.no_jobs lowest jobs are))

  headed : IsTrue (is_site_name own) → IsTrue (is_site_name it.system) → IsTrue (is_word it.spool) → it.grade < grade_count → IsHeading (heading_for own it s)
  headed from to spool grade = record { from = from; to = to; spool = spool; below = below_within it.system s good; grade = grade }

  -- the first of them wait
  some_wait : Fronts → (without : Bool) (lowest : ℕ) (jobs first : List Job) → AreToGoUnless without it lowest s jobs → IsFront first jobs → AreSomeWaiting it.system s first
  some_wait fronts true lowest jobs first are front =
      let none : first ≡ [] = no_front first front.rest (sym front.is ∙ are) in
      subst (AreSomeWaiting it.system s) (sym none) (record { there = All-nil (Contains (waiting_for it.system s)); in_order = λ i j d below within. absurd (omega (arith, within)) })
    where
      no_front : (xs ys : List Job) → xs ++ ys ≡ [] → xs ≡ []
      no_front [] ys is = refl
      no_front (x ∷ xs) ys is = absurd (cc)
  some_wait fronts false lowest jobs first are front = fronts it.system (Some lowest) it.after s jobs first are front

  -- a bundle with these rows of what was taken, and with the first of these jobs
  said : Fronts → (lowest : ℕ) (jobs : List Job) (part : List Taken) (refused : List Refused) (text : List ℕ) → AreToGo it lowest s jobs
      → ((P : Taken → Type 0) → All P (link_of s it.system).taken → All P part)
      → (bundle : Bundle) → bundle.from ≡ own → bundle.to ≡ it.system → bundle.below ≡ below_of it.system s → bundle.has ≡ map told_of part → bundle.jobs ≡ jobs_with_room most_bundle (most_of it) text (parcels_for own it jobs)
      → IsSaid own it.system (bundle_crossing own it.system it.spool).mark s (said_of bundle)
  said fronts lowest jobs part refused text are of_part bundle from to below has is =
      let going = room_first own it most_bundle (most_of it) text jobs in record {
        from = from;
        to = to;
        below = below;
        has = subst (λ rows. All (Contains (map handover.told_of (link_of s it.system).taken)) (map carried.told_job rows)) (sym has) (told_are_had (link_of s it.system).taken part of_part);
        waiting = going.0;
        are_waiting = some_wait fronts it.no_jobs lowest jobs going.0 are going.1;
        jobs = ap (map carried.packed_job) (is ∙ going.2) ∙ said_jobs own it.system it.spool going.0;
      }

-- ---- what is packed

abbrev pub SoundBundle : Type 0
SoundBundle = (most : ℕ) (heading : Heading) (taken : List Taken) (jobs : List Parcel) → IsHeading heading → AreTaken taken → All (IsGiven heading) jobs → IsBundle (packed_bundle most heading taken jobs)

pub packed_may_be_said : SoundBundle → Fronts → (own : List ℕ) (it : Packing) (s : State) (known : Bool) (output : List ℕ)
    → IsWellFormed s → IsTrue (is_site_name own) → IsTrue (is_site_name it.system) → IsTrue (is_word it.spool) → it.grade < grade_count → IsPacked known (IsBundleText own it s) output 0
    → (bundle : Bundle) × (output ≡ bundle_text bundle) × IsBundle bundle × (bundle.spool ≡ it.spool) × IsSaid own it.system (bundle_crossing own it.system it.spool).mark s (said_of bundle)
packed_may_be_said sound fronts own it s known output good from to spool grade packs =
    let text = packed_text known (IsBundleText own it s) output packs in
    let heading = heading_for own it s in
    let taken = (link_of s it.system).taken in
    let part = told_first (most_of it) heading taken in
    let front = told_front (half most_bundle) (half (most_of it)) (heading_text heading) taken in (
      bundle_of own it s text.jobs,
      text.is,
      sound (most_of it) heading taken (parcels_for own it text.jobs) (headed own it s good from to spool grade) (taken_within it.system s good) (given own it s good it.grade text.jobs text.are),
      refl,
      said own it s good fronts it.grade text.jobs part [] (front_text (most_of it) heading taken) text.are (λ P all. all_front P part front.rest (subst (All P) front.is all))
          (bundle_of own it s text.jobs) refl refl refl refl refl,
    )

-- ---- what is answered

module _ (system : List ℕ) (make : Packed → NewJob) (s : State) where
  abbrev pub handed : Packed → Command
  handed packed = QueueOnce (key_for system packed) (make packed)

  abbrev pub IsNumbered : Packed → Type 0
  IsNumbered packed = (packed.parcel.number < 2 ^ 32) × (packed.mark < marks_end)

  -- the rows that the jobs ask about are those that they hand in
  same_asked : (one : Taken) (asked : List Packed) → list_any (hands_in one) (map handed asked) ≡ is_asked asked (handover.told_of one)
  same_asked one [] = refl
  same_asked one (packed ∷ asked) = ap (λ rest. (packed.parcel.number == one.number && packed.mark == one.mark) || rest) (same_asked one asked)

  told_is : (asked : List Packed) → map carried.told_job (map told_of (taken_among (map handed asked) (link_of s system).taken)) ≡ asked_of system s asked
  told_is asked =
      said_told (taken_among (map handed asked) (link_of s system).taken)
      ∙ ap (map handover.told_of) (filter_agree (λ (one : Taken). list_any (hands_in one) (map handed asked)) (λ (one : Taken). is_asked asked (handover.told_of one)) (λ (one : Taken). same_asked one asked) (link_of s system).taken)
      ∙ sym (filter-map (is_asked asked) handover.told_of (link_of s system).taken)

  -- and so is what would be refused of them
  refused_is : (asked : List Packed) → map carried.refused_job (refused_among (map handed asked) s) ≡ refused_of system make s asked
  refused_is [] = refl
  refused_is (packed ∷ asked) = one_more (verdict s (handed packed)) (refused_is asked)
    where
      one_more : (reason : Option Refusal) → map carried.refused_job (refused_among (map handed asked) s) ≡ refused_of system make s asked
          → map carried.refused_job (refused_for (handed packed) reason ++ refused_among (map handed asked) s) ≡ handover.refused_for packed reason ++ refused_of system make s asked
      one_more None rest = rest
      one_more (Some reason) rest = ap (λ more. record { number = packed.parcel.number; mark = packed.mark; reason = reason } ∷ more) rest

  refused_are : (asked : List Packed) → All IsNumbered asked → All IsRefused (refused_among (map handed asked) s)
  refused_are [] all = All-nil IsRefused
  refused_are (packed ∷ asked) all =
      All-append IsRefused (refused_for (handed packed) (verdict s (handed packed))) (refused_among (map handed asked) s) (one (verdict s (handed packed))) (refused_are asked (All-tail IsNumbered packed asked all))
    where
      numbered : IsNumbered packed
      numbered = All-head IsNumbered packed asked all

      one : (reason : Option Refusal) → All IsRefused (refused_for (handed packed) reason)
      one None = All-nil IsRefused
      one (Some reason) =
          All-cons IsRefused (record { number = packed.parcel.number; mark = packed.mark; reason = reason }) [] (record { number = numbered.0; mark = numbered.1 }) (All-nil IsRefused)

abbrev pub SoundAnswer : Type 0
SoundAnswer = (most : ℕ) (heading : Heading) (taken : List Taken) (refused : List Refused) (jobs : List Parcel) → IsHeading heading → AreTaken taken → All IsRefused refused → All (IsGiven heading) jobs
    → IsBundle (answer_bundle most heading taken refused jobs)

pub answered_may_be_said : SoundAnswer → Fronts → (own : List ℕ) (it : Answering) (make : Packed → NewJob) (asked : List Packed) (s : State) (known : Bool) (output : List ℕ)
    → IsWellFormed s → IsTrue (is_site_name own) → IsTrue (is_site_name it.packing.system) → IsTrue (is_word it.packing.spool) → it.packing.grade < grade_count
    → it.commands ≡ map (handed it.packing.system make s) asked → All (IsNumbered it.packing.system make s) asked → IsPacked known (IsAnswerText own it s) output 0
    → (bundle : Bundle) × (output ≡ bundle_text bundle) × IsBundle bundle × (bundle.spool ≡ it.packing.spool)
    × handover.IsAnswerBundle own it.packing.system (bundle_crossing own it.packing.system it.packing.spool).mark make s asked (said_of bundle)
answered_may_be_said sound fronts own it make asked s known output good from to spool grade commands numbered packs =
    let text = packed_text known (IsAnswerText own it s) output packs in
    let packing = it.packing in
    let system = packing.system in
    let heading = heading_for own packing s in
    let taken = (link_of s system).taken in
    let part = taken_among it.commands taken in
    let refused = refused_among it.commands s in
    let lowest = min packing.grade it.asked in
    let kept = taken_within system s good in
    let hands : Taken → Bool = λ one. list_any (hands_in one) it.commands in (
      answer_of own it s text.jobs,
      text.is,
      sound (most_of packing) heading part refused (parcels_for own packing text.jobs) (headed own packing s good from to spool grade)
          (record { numbers = All-filter hands IsKept taken kept.numbers; rising = AllPairs-filter (λ (a b : Taken). a.number < b.number) hands taken kept.rising })
          (subst (λ cs. All IsRefused (refused_among cs s)) (sym commands) (refused_are system make s asked numbered))
          (given own packing s good lowest text.jobs text.are),
      refl,
      record {
        said = said own packing s good fronts lowest text.jobs part refused (text_with_refused (answer_front_text heading part) refused) text.are (λ P all. All-filter hands P taken all)
            (answer_of own it s text.jobs) refl refl refl refl refl;
        has = ap (λ cs. map carried.told_job (map told_of (taken_among cs taken))) commands ∙ told_is system make s asked;
        refused = ap (λ cs. map carried.refused_job (refused_among cs s)) commands ∙ refused_is system make s asked;
      },
    )
