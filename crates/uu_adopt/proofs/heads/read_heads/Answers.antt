use Rattle.std.proofs.Common.{refl}
use Rattle.std.proofs.lemmas.Result.{IfOk-weaker}
use Rattle.uu_adopt.proofs.Composing.{answers, stops}
use Rattle.uu_adopt.proofs.heads.read_heads.Goals as goal

pub returns-in_err-rows : goal.returns-in_err-rows
returns-in_err-rows g c v = stops (c.ask_heads.ensures v) c.from_residual.ensures.0

pub returns : goal.returns
returns g c v = answers (c.in_ok-rows.ensures v) (λ ok. refl) (λ trees jobs. IfOk-weaker c.found.result _ _ (λ found read. jobs found (rw (c.deref.ensures.value, c.deref-2.ensures.value) at read)) c.found.ensures.read)
