use Rattle.uu_custody.proofs.Carried.{keeps_to_wire}
use Rattle.uu_custody.proofs.laws.bundles_keep_to_the_wire.Goals as goal

pub returns : goal.returns
returns c = record { keeps = λ crossing deeds goes. (keeps_to_wire crossing deeds goes).0; forgets = λ crossing deeds goes. (keeps_to_wire crossing deeds goes).1 }
