use Rattle.std.proofs.Common.{refl}
use Rattle.uu_adopt.proofs.Composing.{answers, stops}
use Rattle.uu_adopt.proofs.all_rows.are_of_a_state.Goals as goal

pub returns-in_err-all : goal.returns-in_err-all
returns-in_err-all g c = stops c.read_all_rows.ensures c.from_residual.ensures.0

pub returns : goal.returns
returns g c = answers c.in_ok-all.ensures (λ ok. refl) (λ trees found. c.verdict_on.ensures.verdict trees found)
