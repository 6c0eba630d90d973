use Rattle.uu_check.proofs.WholeState as whole
use Rattle.uu_check.proofs.Reading as earlier
use Rattle.uu_check.proofs.laws.tables_are_readable.Goals as goal

pub returns : goal.returns
returns c = record { this = whole.readable; earlier = earlier.readable }
