use Rattle.uu_store.proofs.NoWaits.{none_waits}
use Rattle.uu_store.proofs.laws.version_one_has_no_success_waits.Goals as goal

pub returns : goal.returns
returns c database s enc = none_waits s.systems enc.holds.tables.success_waits
