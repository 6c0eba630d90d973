-- What a question in SQL does, from the clauses of its call.
use Rattle.std.proofs.Common.{◌≡◌, Ok, Err, ap, is_ok}
use Rattle.std.specs.Prelude.{ℕ, List, Vec, IfOk, IsOk, IfErr, OnOk, Result}
use Rattle.std.specs.declared.alloc.Global.{Global}
use Rattle.sqlite.specs.declared.error.Error.{Error}
use Rattle.sqlite.specs.Order.{Row}
use Rattle.sqlite.specs.State.{State, HasCleanDisk, Shown, FailsToQuery, Survives, CommitsShowing}
use Rattle.uu_schema.specs.Queries.{IsQuery}
use Rattle.uu_schema.proofs.Questions.{same_read, told}
use Rattle.uu_schema.specs.Schema.{spool_schema}
use Rattle.uu_rows.specs.Shows.{ShowsRows}

pub shows : (text : List ℕ) (params : Row) (old new : State) → IsQuery text → (r : Result (Vec Row Global) Error)
    → (HasCleanDisk new → IfOk r (λ rows. Shown text params old new rows.items)) → (HasCleanDisk new → IfErr r (FailsToQuery text params old new))
    → Survives old new (CommitsShowing text params old) → ShowsRows text params old new r
shows text params old new is r ok err survives = record {
  told = told text is params old new spool_schema r ok err survives;
  same = λ clean. go r (ok clean);
  rows = ok;
  refused = err;
}
  where
    go : (r : Result (Vec Row Global) Error) → IfOk r (λ rows. Shown text params old new rows.items) → OnOk r (new.now ≡ old.now)
    go (Ok rows) shown = (same_read text is params old new rows.items shown).0.now_is
    go (Err e) shown = tt

pub answered : {T E : Type 0} (r : Result T E) (x : T) → r ≡ Ok x → IsOk r
answered r x is = ap is_ok is
