-- What is handed out of an answer.
use Rattle.std.proofs.Common.{◌≡◌, ℕ, Bool, true, false, List, [], ◌∷◌, Option, Some, None, option_map, Result, Ok, Err, sym, ap, subst, refl}
use Rattle.std.specs.Prelude.{IfOk, IfSome, MatchResult, Vec}
use Rattle.std.specs.List.{AllByRecursion, list_all}
use Rattle.std.proofs.lemmas.Bool.{and_parts, leb-true}
use Rattle.std.proofs.lemmas.Result.{IfOk-weaker}
use Rattle.std.specs.declared.alloc.Global.{Global}
use Rattle.sqlite.specs.declared.error.Error.{Error}
use Rattle.sqlite.specs.State as db
use Rattle.uu_core.specs.declared.job.JobHead.{JobHead}
use Rattle.uu_core.specs.declared.system.SystemRow.{SystemRow}
use Rattle.uu_core.specs.State.{State, Job, head_of}
use Rattle.uu_questions.specs.Answers.{Answers}
use Rattle.uu_questions.specs.Listing.{handed_out, head_and_bytes}
use Rattle.uu_store.specs.HandedOut.{IsBounded, IsTimed, is_bounded, is_found_bounded, is_timed, job_with, job_shown, within_limits}

-- the head and the bytes are those of the job
pub shown : (found : Option (JobHead × Vec ℕ Global)) (job : Option Job) → option_map handed_out found ≡ option_map head_and_bytes job → option_map job_shown found ≡ job
shown None None same = refl
shown None (Some j) same = absurd (cc)
shown (Some it) None same = absurd (cc)
shown (Some it) (Some j) same =
    let pair : handed_out it ≡ head_and_bytes j = cc in
    let head : it.0 ≡ head_of j = ap (λ (p : JobHead × List ℕ). p.0) pair in
    let bytes : it.1.items ≡ j.bytes = ap (λ (p : JobHead × List ℕ). p.1) pair in
    λ i. Some (job_with (head i) (bytes i))

-- the same answer, said in other words
pub answers_as : {T : Type 0} (P R : State → T → Type 0) (a b : db.State) (r : Result T Error) → ((s : State) (answer : T) → P s answer → R s answer) → Answers {T = T} P a b r → Answers {T = T} R a b r
answers_as P R a b r step it = record { told = it.told; same = it.same; exact = λ clean s of. IfOk-weaker r (P s) (R s) (step s) (it.exact clean s of) }

-- ---- limits

pub bounded : (head : JobHead) → is_bounded head ≡ true → IsBounded head
bounded head h = let p = and_parts _ _ h in record { queued = leb-true _ _ p.0; size = leb-true _ _ p.1 }

pub all_bounded : (heads : List JobHead) → list_all is_bounded heads ≡ true → AllByRecursion IsBounded heads
all_bounded [] h = tt
all_bounded (head ∷ heads) h = let p = and_parts _ _ h in (bounded head p.0, all_bounded heads p.1)

pub all_timed : (systems : List SystemRow) → list_all is_timed systems ≡ true → AllByRecursion IsTimed systems
all_timed [] h = tt
all_timed (system ∷ systems) h = let p = and_parts _ _ h in (leb-true _ _ p.0, all_timed systems p.1)

-- the same of what is handed out
abbrev pub are_bounded : Vec JobHead Global → Bool
are_bounded heads = list_all is_bounded heads.items

abbrev pub are_timed : Vec SystemRow Global → Bool
are_timed systems = list_all is_timed systems.items

pub found_bounded : (found : Option (JobHead × Vec ℕ Global)) → is_found_bounded found ≡ true → IfSome found (λ job. IsBounded job.0)
found_bounded None h = tt
found_bounded (Some job) h = bounded job.0 h

-- an answer is passed on if it is within the limits
module _ {T : Type 0} (is_fine : T → Bool) where
  abbrev pub HandsOn : Result T Error → Result T Error → Type 0
  HandsOn asked r = MatchResult asked (λ answer. r ≡ within_limits (is_fine answer) answer) (λ error. r ≡ Err error)

  within : (Q : Result T Error → Type 0) (answer : T) → ((is_fine answer ≡ true) → Q (Ok answer)) → ((error : Error) → Q (Err error)) → (fine : Bool) → is_fine answer ≡ fine → Q (within_limits fine answer)
  within Q answer kept gone true is = kept is
  within Q answer kept gone false is = gone _

  -- in any case it isn't another answer
  pub answers_within : (IsAnswer : State → T → Type 0) (a b : db.State) (asked r : Result T Error) → HandsOn asked r → Answers {T = T} IsAnswer a b asked → Answers {T = T} IsAnswer a b r
  answers_within IsAnswer a b (Ok answer) r is it = subst (Answers {T = T} IsAnswer a b) (sym is) (within (Answers {T = T} IsAnswer a b) answer (λ fine. it) refused (is_fine answer) refl)
    where
      refused : (error : Error) → Answers {T = T} IsAnswer a b (Err error)
      refused error = record { told = record { asked = it.told.asked; is_open = λ clean ready. tt }; same = λ clean stands. tt; exact = λ clean s of. tt }
  answers_within IsAnswer a b (Err error) r is it = subst (Answers {T = T} IsAnswer a b) (sym is) it

  -- what is handed on is within them, and as it was
  pub within_ok : (P : T → Type 0) (asked r : Result T Error) → HandsOn asked r → ((answer : T) → is_fine answer ≡ true → P answer) → IfOk r P
  within_ok P (Ok answer) r is passed = subst (λ r. IfOk r P) (sym is) (within (λ r. IfOk r P) answer (passed answer) (λ error. tt) (is_fine answer) refl)
  within_ok P (Err error) r is passed = subst (λ r. IfOk r P) (sym is) tt

  pub within_as : (P : T → Type 0) (asked r : Result T Error) → HandsOn asked r → IfOk asked P → IfOk r P
  within_as P (Ok answer) r is holds = subst (λ r. IfOk r P) (sym is) (within (λ r. IfOk r P) answer (λ fine. holds) (λ error. tt) (is_fine answer) refl)
  within_as P (Err error) r is holds = subst (λ r. IfOk r P) (sym is) tt
