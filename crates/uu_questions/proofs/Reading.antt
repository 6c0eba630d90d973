-- What is read of the rows that a question in SQL shows.
use Rattle.std.proofs.Common.{◌≡◌, Result, Ok, Err, subst, inl, ℕ, List}
use Rattle.std.specs.Prelude.{Vec, IfOk, IfErr, OnOk, IsOk, IsErr}
use Rattle.std.specs.declared.alloc.Global.{Global}
use Rattle.std.proofs.lemmas.Result.{IfOk-from_err}
use Rattle.sqlite.specs.declared.error.Error.{Error}
use Rattle.sqlite.specs.Order.{Row}
use Rattle.sqlite.specs.Given.{IsPlain}
use Rattle.sqlite.specs.Listing.{understood}
use Rattle.sqlite.specs.State.{State as DbState, HasCleanDisk, Shown, IsUnchanged, FailsToQuery, Survives, CommitsShowing}
use Rattle.uu_schema.specs.Steps.{Stands, OpenIfAnswered}
use Rattle.uu_schema.proofs.Steps.{told_also, told_not}
use Rattle.uu_core.specs.State.{State}
use Rattle.uu_schema.specs.Schema.{spool_schema}
use Rattle.uu_questions.specs.Answers.{Answers, IsStateOf}
use Rattle.uu_questions.specs.Reading.{Reads}
use Rattle.uu_questions.proofs.Answering.{from_ok, to_any, none_told}
use Rattle.uu_questions.proofs.WalkLemmas.{plain_here, refused, commits_nothing, asked}

module _ (sql : List ℕ) (params : Row) (old new : DbState) (plain : IsPlain (understood spool_schema sql)) where
  unchanged : Stands spool_schema old.now → (rows : List Row) → Shown sql params old new rows → IsUnchanged old new
  unfolding Shown
  unchanged stands rows h =
      let bare = subst IsPlain h.1.is (plain_here sql params old new plain stands) in
      (rw bare.0 at h.2).3

  told : (r : Result (Vec Row Global) Error) → (HasCleanDisk new → IfOk r (λ rows. Shown sql params old new rows.items)) → (HasCleanDisk new → IfErr r (FailsToQuery sql params old new)) → Survives old new (CommitsShowing sql params old) → OpenIfAnswered spool_schema old new r
  told (Ok rows) ok err survives = record {
    asked = asked old new (λ clean stands. inl (unchanged stands rows.items (ok clean))) (commits_nothing sql params old new plain survives);
    is_open = λ clean ready. (unchanged ready.stands rows.items (ok clean)).0.is_open;
  }
  told (Err e) ok err survives = record {
    asked = asked old new (λ clean stands. refused sql params old new plain stands e (err clean)) (commits_nothing sql params old new plain survives);
    is_open = λ clean ready. tt;
  }

  same : (r : Result (Vec Row Global) Error) → (HasCleanDisk new → IfOk r (λ rows. Shown sql params old new rows.items)) → HasCleanDisk new → Stands spool_schema old.now → OnOk r (new.now ≡ old.now)
  same (Ok rows) ok clean stands = (unchanged stands rows.items (ok clean)).0.now_is
  same (Err e) ok clean stands = tt

  module _ {T : Type 0} (IsRead : List Row → T → Type 0) (r : Result (Vec Row Global) Error) (ok : HasCleanDisk new → IfOk r (λ rows. Shown sql params old new rows.items)) (err : HasCleanDisk new → IfErr r (FailsToQuery sql params old new)) (survives : Survives old new (CommitsShowing sql params old)) (q : Result T Error) where
    -- the question was refused
    pub none_read : IsErr q → Reads IsRead sql params old new q
    none_read fails = record { told = told_not spool_schema old new r q fails (told r ok err survives); same = λ clean stands. none_told _ q fails; rows = λ clean. IfOk-from_err q _ fails }

    -- it was answered, and this is what is read of its rows
    pub then_reads : IsOk r → (HasCleanDisk new → IfOk q (λ read. (rows : List Row) × Shown sql params old new rows × IsRead rows read)) → Reads IsRead sql params old new q
    then_reads done rows = record { told = told_also spool_schema old new r q done (told r ok err survives); same = λ clean stands. to_any q (from_ok r done (same r ok clean stands)); rows = rows }

-- what is read of a state's tables is its answer
pub read_answers : {T : Type 0} (IsRead : List Row → T → Type 0) (IsAnswer : State → T → Type 0) (text : List ℕ) (params : Row) (a b : DbState) (r : Result T Error) → Reads IsRead text params a b r
    → ((s : State) → IsStateOf s a → (rows : List Row) → Shown text params a b rows → (read : T) → IsRead rows read → IsAnswer s read) → Answers IsAnswer a b r
read_answers {T} IsRead IsAnswer text params a b r h step = record { told = h.told; same = h.same; exact = λ clean s of. go r s of (h.rows clean) }
  where
    go : (r : Result T Error) → (s : State) → IsStateOf s a → IfOk r (λ read. (rows : List Row) × Shown text params a b rows × IsRead rows read) → IfOk r (IsAnswer s)
    go (Ok x) s of it = step s of it.0 it.1 x it.2
    go (Err e) s of it = tt
