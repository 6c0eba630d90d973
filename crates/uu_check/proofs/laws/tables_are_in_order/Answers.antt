use Rattle.uu_check.proofs.WholeState as whole
use Rattle.uu_check.proofs.Rising as earlier
use Rattle.uu_check.proofs.laws.tables_are_in_order.Goals as goal

pub returns : goal.returns
returns c = record { this = whole.in_order; earlier = earlier.in_order }
