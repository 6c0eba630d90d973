use Rattle.uu_core.proofs.TurnLemmas.{reasons_in_turn}
use Rattle.uu_core.proofs.laws.refusals_are_told_in_order.Goals as goal

pub returns : goal.returns
returns c = reasons_in_turn
