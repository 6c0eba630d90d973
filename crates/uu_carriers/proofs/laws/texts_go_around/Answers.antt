use Rattle.uu_carriers.proofs.Around.{goes_around}
use Rattle.uu_carriers.proofs.laws.texts_go_around.Goals as goal

pub returns : goal.returns
returns c places acts apart around = goes_around places c.what_is_brought_is_unpacked.ensures c.what_is_brought_settles.ensures acts around
