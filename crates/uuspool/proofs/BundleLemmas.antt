-- A bundle that is written piece by piece.
use Rattle.std.proofs.Common.{◌≡◌, ◌∙◌, ℕ, suc, ◌<◌, ◌≤◌, Bool, true, false, cond, List, [], ◌∷◌, ◌++◌, drop, get_or, length, map, Some, None, Result, ap, refl, subst, sym}
use Rattle.std.proofs.lemmas.List.{drop_all, get_or-map, length-map}
use Rattle.sqlite.specs.Store.{Ghosts}
use Rattle.uu_bundle.specs.Bundles.{most_bundle, takes_job, text_with_job, text_with_jobs}
use Rattle.uu_bundle.specs.Texts.{end_text, record_text}
use Rattle.uu_bundle.specs.declared.bundle.Parcel.{Parcel}
use Rattle.uu_bundle.specs.declared.bundle.Record.TheVariants.{Job as JobRecord}
use Rattle.uu_handover.specs.Bundles.{below_of}
use Rattle.uu_core.specs.State.{Job, State, job_at}
use Rattle.uu_core.specs.declared.job.Kind.TheVariants.{Send}
use Rattle.uu_request.specs.declared.request.Packing.{Packing}
use Rattle.uu_schema.specs.declared.fault.StoreFault.{StoreFault}
use Rattle.uu_store.specs.declared.spool.Spool.{Spool}
use Rattle.uuspool.specs.Bundles.{IsPacked, most_of, no_system, parcel_for, parcels_for}
use Rattle.uuspool.specs.Internal.Asked.{ArePacked, AreThere, IsAsked, IsBundleFor, WasAsked}
use Rattle.uuspool.proofs.AskedLemmas.{asked_of_any, asked_then}
use Rattle.uuspool.proofs.Places.{at_place}

-- ---- what is printed

pub packed_known : (known : Bool) (IsText : List ℕ → Type 0) (text output : List ℕ) → IsBundleFor known IsText (Some text) → output ≡ text → IsPacked known IsText output 0
packed_known true IsText text output is same = (subst IsText (sym same) is, refl)
packed_known false IsText text output none same = absurd none

pub packed_unknown : (known : Bool) (IsText : List ℕ → Type 0) (output : List ℕ) → IsBundleFor known IsText None → output ≡ no_system → IsPacked known IsText output 1
packed_unknown true IsText output none same = absurd none
packed_unknown false IsText output is same = (same, refl)

-- a system that is known has a text, and another none
pub text_for_known : (known : Bool) (IsText : List ℕ → Type 0) (text : List ℕ) → known ≡ true → IsText text → IsBundleFor known IsText (Some text)
text_for_known true IsText text is made = made
text_for_known false IsText text is made = absurd (cc)

pub none_for_unknown : (known : Bool) (IsText : List ℕ → Type 0) → known ≡ false → IsBundleFor known IsText None
none_for_unknown true IsText is = absurd (cc)
none_for_unknown false IsText is = tt

-- ---- jobs one after the other

-- one job more, if there is room for it, or none
with_one : (first further : ℕ) (text : List ℕ) (job : Parcel) (jobs : List Parcel) (added : Bool) → added ≡ takes_job first text job
    → text_with_jobs first further text (job ∷ jobs) ≡ cond added (text_with_jobs further further (text_with_job first text job) jobs) (text_with_job first text job)
with_one first further text job jobs added is =
    let more = text ++ record_text (JobRecord job) in
    subst (λ b. cond b (text_with_jobs further further more jobs) text ≡ cond added (text_with_jobs further further (cond b more text) jobs) (cond b more text)) is (go more added)
  where
    go : (more : List ℕ) (b : Bool) → cond b (text_with_jobs further further more jobs) text ≡ cond b (text_with_jobs further further (cond b more text) jobs) (cond b more text)
    go more true = refl
    go more false = refl

-- there are as many as numbers, and the number at a place is that of the job there
pub as_many : (numbers : List ℕ) (jobs : List Job) → numbers ≡ map (λ job. job.number) jobs → length numbers ≡ length jobs
as_many numbers jobs are = ap length are ∙ length-map jobs (λ (job : Job). job.number)

pub number_at : (numbers : List ℕ) (jobs : List Job) (i : ℕ) (within : i < length jobs) → numbers ≡ map (λ job. job.number) jobs → get_or numbers i 0 ≡ (at_place jobs i within).0.number
number_at numbers jobs i within are =
    let found = at_place jobs i within in
    ap (λ ns. get_or ns i 0) are ∙ get_or-map (λ (job : Job). job.number) jobs i found.0 0 within ∙ ap (λ (job : Job). job.number) (found.2 found.0)

there_at : (s : State) (jobs : List Job) (i : ℕ) (job : Job) → i < length jobs → ((d : Job) → get_or jobs i d ≡ job) → AreThere jobs s → job_at s job.number ≡ Some job
there_at s jobs i job within is all = subst (λ (j : Job). job_at s j.number ≡ Some j) (is job) (all i job within)

module _ (from : List ℕ) (it : Packing) (start : List ℕ) (jobs : List Job) where
  abbrev parcel : Job → Parcel
  parcel = parcel_for from it.system it.spool

  -- the text with all of them
  abbrev with_all : List ℕ
  with_all = text_with_jobs most_bundle (most_of it) start (parcels_for from it jobs)

  -- so far, with this room for the next one
  abbrev pub Adds : ℕ → ℕ → List ℕ → State → Type 0
  Adds i room text s = text_with_jobs room (most_of it) text (parcels_for from it (drop i jobs)) ≡ with_all

  abbrev pub Adding : ℕ → List ℕ → List ℕ → Job → State → Bool → Type 0
  Adding room text more job s added = (added ≡ takes_job room text (parcel_for from it.system it.spool job)) × (more ≡ text_with_job room text (parcel_for from it.system it.spool job))

  -- the next job was read
  pub asked_for_one : {S : Type 0} {g : Ghosts S} (i room : ℕ) (text more : List ℕ) (number : ℕ) (old mid new : Spool S g) (r : Result Bool StoreFault) (within : i < length jobs) → number ≡ (at_place jobs i within).0.number
      → WasAsked (AreThere jobs) (Adds i room text) old mid
      → IsAsked (λ s. job_at s number ≡ Some (at_place jobs i within).0) (Adding room text more (at_place jobs i within).0) mid new r
      → IsAsked (AreThere jobs) (λ s added. Adds i room text s × Adding room text more (at_place jobs i within).0 s added) old new r
  asked_for_one i room text more number old mid new r within is so_far next =
      let found = at_place jobs i within in
      asked_then (AreThere jobs) (λ s done. Adds i room text s) old mid new tt so_far (λ s. job_at s number ≡ Some found.0) (Adding room text more found.0) r
      (λ s shown known adds. subst (λ n. job_at s n ≡ Some found.0) (sym is) (there_at s jobs i found.0 within found.2 known)) next

  -- it was added, or there was no room for it
  pub one_added : (i room : ℕ) (text more : List ℕ) (within : i < length jobs) (s : State) (added : Bool) → Adds i room text s → Adding room text more (at_place jobs i within).0 s added
      → cond added (text_with_jobs (most_of it) (most_of it) more (parcels_for from it (drop (suc i) jobs))) more ≡ text_with_jobs most_bundle (most_of it) start (parcels_for from it jobs)
  one_added i room text more within s added adds adding =
      let found = at_place jobs i within in
      let behind = parcels_for from it (drop (suc i) jobs) in
      ap (λ t. cond added (text_with_jobs (most_of it) (most_of it) t behind) t) adding.1
      ∙ sym (with_one room (most_of it) text (parcel found.0) behind added adding.0)
      ∙ ap (λ js. text_with_jobs room (most_of it) text (parcels_for from it js)) (sym found.1)
      ∙ adds

  -- there is nothing to add after the last
  pub all_added : (i room : ℕ) (text : List ℕ) (s : State) → length jobs ≤ i → Adds i room text s → text ≡ text_with_jobs most_bundle (most_of it) start (parcels_for from it jobs)
  all_added i room text s past adds =
      ap (λ js. text_with_jobs room (most_of it) text (parcels_for from it js)) (sym (drop_all i jobs past)) ∙ adds

-- jobs of these numbers
abbrev pub Numbered : List ℕ → Type 0
Numbered numbers = (jobs : List Job) × (numbers ≡ map (λ job. job.number) jobs)

some_numbered : (numbers : List ℕ) → Numbered numbers
some_numbered [] = ([], refl)
some_numbered (number ∷ numbers) =
    let rest = some_numbered numbers in
    (record { number = number; system = []; grade = 0; user = []; kind = Send [] []; queued = 0; bytes = [] } ∷ rest.0, ap (λ ns. number ∷ ns) rest.1)

-- the jobs of any numbers were read
pub asked_for_numbered : {S : Type 0} {g : Ghosts S} {T : Type 0} (numbers : List ℕ) (Is : List Job → Type 0) (old new : Spool S g) (r : Result T StoreFault)
    → ((jobs : List Job) → numbers ≡ map (λ job. job.number) jobs → IsAsked (AreThere jobs) (λ s done. Is jobs) old new r)
    → IsAsked (λ s. (it : Numbered numbers) × AreThere it.0 s) (λ s done. (it : Numbered numbers) → AreThere it.0 s → Is it.0) old new r
asked_for_numbered numbers Is old new r asked =
    asked_of_any (some_numbered numbers) (λ it. AreThere it.0) (λ it s done. Is it.0) old new r (λ it. asked it.0 it.1)

-- ---- the text

-- its front, the jobs for which there is room, and its end
pub text_made : (from : List ℕ) (it : Packing) (lowest : ℕ) (s : State) (numbers given : List ℕ) (below : ℕ) (text more whole : List ℕ) (front : ℕ → List ℕ) → (packs : ArePacked it lowest s numbers below)
    → given ≡ numbers → text ≡ front below → ((some : Numbered given) → AreThere some.0 s → more ≡ text_with_jobs most_bundle (most_of it) text (parcels_for from it some.0)) → whole ≡ more ++ end_text
    → whole ≡ text_with_jobs most_bundle (most_of it) (front (below_of it.system s)) (parcels_for from it packs.jobs) ++ end_text
text_made from it lowest s numbers given below text more whole front packs are begun added is =
    is ∙ ap (λ t. t ++ end_text) (added (packs.jobs, are ∙ packs.numbers_are) packs.there
    ∙ ap (λ t. text_with_jobs most_bundle (most_of it) t (parcels_for from it packs.jobs)) (begun ∙ ap front packs.below_is))
