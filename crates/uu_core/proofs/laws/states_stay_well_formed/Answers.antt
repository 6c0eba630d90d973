use Rattle.uu_core.proofs.WellFormedLemmas.{still_empty, still, still_run}
use Rattle.uu_core.proofs.laws.states_stay_well_formed.Goals as goal

pub returns : goal.returns
returns c = record { empty = still_empty; step = still; run = still_run }
