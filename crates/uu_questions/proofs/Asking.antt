-- Questions over a connection: how one is answered, and one after another.
use Rattle.std.proofs.Common.{◌≡◌, Result, Ok, ℕ, List, []}
use Rattle.std.specs.Prelude.{Vec, IfOk, IsOk, IsErr}
use Rattle.std.specs.declared.alloc.Global.{Global}
use Rattle.std.proofs.lemmas.Result.{IfOk-from_err}
use Rattle.sqlite.specs.declared.error.Error.{Error}
use Rattle.sqlite.specs.Held.{Held, state}
use Rattle.sqlite.specs.Order.{Row}
use Rattle.sqlite.specs.State.{HasCleanDisk, Shown}
use Rattle.sqlite.specs.Store.{Ghosts}
use Rattle.uu_core.specs.State.{State, IsWellFormed}
use Rattle.uu_rows.specs.Shows.{AsksText}
use Rattle.uu_rows.proofs.Showing.{answered}
use Rattle.uu_questions.specs.Answers.{Asks, IsStateOf}
use Rattle.uu_questions.specs.Reading.{AsksAndReads}
use Rattle.uu_questions.specs.Walks.{AsksAndWalks, Took}
use Rattle.uu_questions.proofs.Answering.{then_read, answers_as, beside_first, answer_in, none_ok}
use Rattle.uu_questions.proofs.Reading.{read_answers}
use Rattle.uu_questions.proofs.WalkLemmas.{walk_answers}

module _ {S : Type 0} {g : Ghosts S} where
  -- ---- what is read of the rows that a text shows is the answer

  pub asks_shown : {T : Type 0} {IsAnswer : State → T → Type 0} {text : List ℕ} {a b : Held S} {r : Result (Vec Row Global) Error} {rows : Vec Row Global} {q : Result T Error} → AsksText g text a b r → r ≡ Ok rows
      → (HasCleanDisk (state g b) → (s : State) → IsStateOf s (state g a) → IfOk q (IsAnswer s)) → Asks g IsAnswer a b q
  asks_shown {rows = rows} h was exact = record { idle = h.idle; answers = then_read _ _ [] _ _ _ _ h.shows (answered _ rows was) exact }

  pub asks_read : {T : Type 0} {IsRead : List Row → T → Type 0} {IsAnswer : State → T → Type 0} {text : List ℕ} {params : Row} {a b : Held S} {r : Result T Error} → AsksAndReads g IsRead text params a b r
      → ((s : State) → IsStateOf s (state g a) → (rows : List Row) → Shown text params (state g a) (state g b) rows → (read : T) → IsRead rows read → IsAnswer s read) → Asks g IsAnswer a b r
  asks_read h step = record { idle = h.idle; answers = read_answers _ _ _ _ _ _ _ h.reads step }

  pub asks_walked : {X T U : Type 0} {IsAnswer : State → U → Type 0} {takes : X → Row → X → Type 0} {text : List ℕ} {params : Row} {a b : Held S} {before after : X} {r : Result T Error} {q : Result U Error} → AsksAndWalks g takes text params a b before after r → (IsOk q → IsOk r)
      → ((s : State) → IsStateOf s (state g a) → (rows : List Row) → Shown text params (state g a) (state g b) rows → Took takes before rows after → IfOk q (IsAnswer s)) → Asks g IsAnswer a b q
  asks_walked h ok step = record { idle = h.idle; answers = walk_answers _ _ _ _ _ _ _ _ _ _ h.walks ok step }

  -- ---- one question, and what its caller answers

  pub asks_as : {T U : Type 0} {P : State → T → Type 0} {R : State → U → Type 0} {a b : Held S} {p : Result T Error} {r : Result U Error} → Asks g P a b p → (IsOk r → IsOk p)
      → ((s : State) → IsWellFormed s → IfOk p (P s) → IfOk r (R s)) → Asks g R a b r
  asks_as h ok step = record { idle = h.idle; answers = answers_as _ _ _ _ _ _ h.answers ok step }

  -- the caller answers nothing
  pub asks_refused : {T U : Type 0} {P : State → T → Type 0} {R : State → U → Type 0} {a b : Held S} {p : Result T Error} {r : Result U Error} → Asks g P a b p → IsErr r → Asks g R a b r
  asks_refused {p = p} {r = r} h fails = asks_as h (none_ok r p fails) (λ s good it. IfOk-from_err r _ fails)

  -- ---- one question after another

  -- the answer of the second, beside what the first answered
  pub asks_beside : {T V : Type 0} {P : State → T → Type 0} {Q : State → V → Type 0} {a b c : Held S} {p : Result T Error} {q : Result V Error} {x : T} → Asks g P a b p → p ≡ Ok x → Asks g Q b c q → Asks g (λ s v. P s x × Q s v) a c q
  asks_beside first is second = record { idle = λ before. second.idle (first.idle before); answers = beside_first _ _ _ _ first.answers _ is _ _ _ second.answers }

  -- both were answered
  pub asks_both : {T V U : Type 0} {P : State → T → Type 0} {Q : State → V → Type 0} {R : State → U → Type 0} {a b c : Held S} {p : Result T Error} {q : Result V Error} {r : Result U Error} {x : T} {y : V}
      → Asks g P a b p → p ≡ Ok x → Asks g Q b c q → q ≡ Ok y → ((s : State) → IsWellFormed s → P s x → Q s y → IfOk r (R s)) → Asks g R a c r
  asks_both {q = q} {y = y} first was second is step =
      asks_as (asks_beside first was second) (λ ok. answered q y is) (λ s good h. let it = answer_in _ q y is h in step s good it.0 it.1)
