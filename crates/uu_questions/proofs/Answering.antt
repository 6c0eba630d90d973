-- From what a question in SQL shows to what the question answers.
use Rattle.std.proofs.Common.{◌≡◌, Result, Ok, Err, sym, subst, ◌∙◌, refl, arith}
use Rattle.std.specs.Prelude.{ℕ, List, Vec, IfOk, OnOk, IsOk, IsErr}
use Rattle.std.specs.declared.alloc.Global.{Global}
use Rattle.sqlite.specs.declared.error.Error.{Error}
use Rattle.sqlite.specs.Order.{Row}
use Rattle.sqlite.specs.State.{State as DbState, HasCleanDisk}
use Rattle.uu_schema.specs.Steps.{Stands, OpenIfAnswered}
use Rattle.uu_schema.proofs.Steps.{told_also, told_not, told_told}
use Rattle.uu_core.specs.State.{State, IsWellFormed}
use Rattle.uu_schema.specs.Schema.{spool_schema}
use Rattle.uu_questions.specs.Answers.{IsAt, IsStateOf, Answers}
use Rattle.uu_rows.specs.Shows.{ShowsRows}
use Rattle.uu_rows.proofs.Showing.{answered}
use Rattle.std.proofs.lemmas.Result.{IfOk-weaker, IfOk-from_err}

pub from_ok : {T E P : Type 0} (r : Result T E) → IsOk r → OnOk r P → P
from_ok (Ok x) ok p = p
from_ok (Err e) ok p = absurd (cc)

pub to_any : {T E P : Type 0} (r : Result T E) → P → OnOk r P
to_any (Ok x) p = p
to_any (Err e) p = tt

pub none_told : {T E : Type 0} (P : Type 0) (r : Result T E) → IsErr r → OnOk r P
none_told P (Ok x) fails = absurd (cc)
none_told P (Err e) fails = tt

module _ {T : Type 0} (IsAnswer : State → T → Type 0) (text : List ℕ) (params : Row) (a b : DbState) (r : Result (Vec Row Global) Error) (q : Result T Error) (h : ShowsRows text params a b r) where
  -- the question in SQL was refused
  pub not_shown : IsErr q → Answers IsAnswer a b q
  not_shown fails = record { told = told_not spool_schema a b r q fails h.told; same = λ clean stands. none_told _ q fails; exact = λ clean s of. IfOk-from_err q (IsAnswer s) fails }

  -- it was answered, and its rows are read
  pub then_read : IsOk r → (HasCleanDisk b → (s : State) → IsStateOf s a → IfOk q (IsAnswer s)) → Answers IsAnswer a b q
  then_read ok exact = record { told = told_also spool_schema a b r q ok h.told; same = λ clean stands. to_any q (from_ok r ok (h.same clean)); exact = exact }

-- ---- what answered, and what did not

pub both_ok : {T E : Type 0} (r : Result T E) (P Q R : T → Type 0) → ((x : T) → P x → Q x → R x) → IfOk r P → IfOk r Q → IfOk r R
both_ok (Ok x) P Q R step h k = step x h k
both_ok (Err e) P Q R step h k = tt

-- ---- one question after another

as_told : {T U : Type 0} (a b : DbState) (q : Result T Error) (r : Result U Error) → (IsOk r → IsOk q) → OpenIfAnswered spool_schema a b q → OpenIfAnswered spool_schema a b r
as_told a b q (Ok x) ok h = told_also spool_schema a b q (Ok x) (ok refl) h
as_told a b q (Err e) ok h = told_not spool_schema a b q (Err e) refl h

module _ {T : Type 0} (P : State → T → Type 0) (a b : DbState) (p : Result T Error) (first : Answers P a b p) (done : IsOk p) where
  before : {V : Type 0} (c : DbState) (q : Result V Error) → OpenIfAnswered spool_schema b c q → HasCleanDisk c → HasCleanDisk b
  before c q told clean = omega (arith, clean, told.asked.survives.clean)

  stays : HasCleanDisk b → Stands spool_schema a.now → b.now ≡ a.now
  stays clean stands = from_ok p done (first.same clean stands)

  -- the tables are those of the same state
  pub still_of : HasCleanDisk b → (s : State) → IsStateOf s a → IsStateOf s b
  still_of clean s of = subst (λ d. IsAt s d) (sym (stays clean of.stands)) of

  module _ {V : Type 0} (Q : State → V → Type 0) (c : DbState) (q : Result V Error) (second : Answers Q b c q) where
    pub then_answers : {U : Type 0} (R : State → U → Type 0) (r : Result U Error) → (IsOk r → IsOk q) → ((s : State) → IsWellFormed s → IfOk p (P s) → IfOk q (Q s) → IfOk r (R s)) → Answers R a c r
    then_answers R r ok step = record {
      told = as_told a c q r ok (told_told spool_schema a b p c q done first.told second.told);
      same = λ clean stands. go r ok clean stands;
      exact = λ clean s of. let early = before c q second.told clean in step s of.good (first.exact early s of) (second.exact clean s (still_of early s of));
    }
      where
        go : {U : Type 0} (r : Result U Error) → (IsOk r → IsOk q) → HasCleanDisk c → Stands spool_schema a.now → OnOk r (c.now ≡ a.now)
        go (Ok x) ok clean stands = let early = before c q second.told clean in from_ok q (ok refl) (second.same clean (subst (Stands spool_schema) (sym (stays early stands)) stands)) ∙ stays early stands
        go (Err e) ok clean stands = tt

pub answer_in : {T E : Type 0} (P : T → Type 0) (r : Result T E) (x : T) → r ≡ Ok x → IfOk r P → P x
answer_in P r x is h = subst (λ q. IfOk q P) is h

-- the answer of the second question, beside what the first answered
pub beside_first : {T V : Type 0} (P : State → T → Type 0) (a b : DbState) (p : Result T Error) → Answers P a b p → (x : T) → p ≡ Ok x → (Q : State → V → Type 0) (c : DbState) (q : Result V Error) → Answers Q b c q → Answers (λ s v. P s x × Q s v) a c q
beside_first P a b p first x is Q c q second =
    then_answers P a b p first (answered p x is) Q c q second (λ s v. P s x × Q s v) q (λ ok. ok) (λ s good h k. IfOk-weaker q (Q s) (λ v. P s x × Q s v) (λ v it. (answer_in (P s) p x is h, it)) k)

-- the same question, answered otherwise
pub answers_as : {T U : Type 0} (P : State → T → Type 0) (R : State → U → Type 0) (a b : DbState) (p : Result T Error) (r : Result U Error) → Answers P a b p → (IsOk r → IsOk p)
    → ((s : State) → IsWellFormed s → IfOk p (P s) → IfOk r (R s)) → Answers R a b r
answers_as {T} {U} P R a b p r h ok step = record {
  told = as_told a b p r ok h.told;
  same = λ clean stands. go r ok clean stands;
  exact = λ clean s of. step s of.good (h.exact clean s of);
}
  where
    go : (r : Result U Error) → (IsOk r → IsOk p) → HasCleanDisk b → Stands spool_schema a.now → OnOk r (b.now ≡ a.now)
    go (Ok x) ok clean stands = from_ok p (ok refl) (h.same clean stands)
    go (Err e) ok clean stands = tt

pub none_ok : {T U : Type 0} (r : Result T Error) (q : Result U Error) → IsErr r → IsOk r → IsOk q
none_ok (Ok x) q fails ok = absurd (cc)
none_ok (Err e) q fails ok = absurd (cc)
