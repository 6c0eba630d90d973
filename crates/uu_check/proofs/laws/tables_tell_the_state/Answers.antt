use Rattle.uu_check.proofs.WholeState as whole
use Rattle.uu_check.proofs.OneState as earlier
use Rattle.uu_check.proofs.laws.tables_tell_the_state.Goals as goal

pub returns : goal.returns
returns c = record { this = whole.one_state; earlier = earlier.one_state }
