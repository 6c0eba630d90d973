-- Which refusals of rows are handed on.
use Rattle.std.proofs.Common.{◌≡◌, Result, Ok, Err, sym, ap, ◌∙◌}
use Rattle.std.specs.Prelude.{IsErrAnd}
use Rattle.uu_rows.specs.declared.fault.RowFault.{RowFault}
use Rattle.uu_rows.specs.declared.fault.RowFault.TheVariants.{Bad}

-- a fault that `?` hands on is the callee's
pub was_bad : {T U : Type 0} (r : Result T RowFault) (q : Result U RowFault) (e : RowFault) → IsErrAnd r (λ f. f ≡ e) → r ≡ Err Bad → q ≡ Err e → q ≡ Err Bad
was_bad (Ok x) q e h is was = absurd (cc)
was_bad (Err f) q e h is was = let same : f ≡ Bad = cc in was ∙ ap Err (sym h ∙ same)
