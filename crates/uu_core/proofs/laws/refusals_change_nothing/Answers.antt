use Rattle.uu_core.proofs.RunLemmas.{refused, refusal_told}
use Rattle.uu_core.proofs.laws.refusals_change_nothing.Goals as goal

pub returns : goal.returns
returns c = record { state = refused; reply = refusal_told }
