use Rattle.std.proofs.Common.{refl}
use Rattle.uu_adopt.proofs.Composing.{answers, stops}
use Rattle.uu_adopt.proofs.all_earlier.are_of_a_state.Goals as goal

pub returns-in_err-all : goal.returns-in_err-all
returns-in_err-all g c = stops c.read_all_earlier.ensures c.from_residual.ensures.0

pub returns : goal.returns
returns g c = answers c.in_ok-all.ensures (λ ok. refl) (λ trees found. c.verdict_on.ensures.verdict c.args.version trees c.requires found)
