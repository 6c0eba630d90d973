use Rattle.uu_rows.proofs.Meanings.{waits_ask}
use Rattle.uu_rows.proofs.asks.ask_waits.Goals as goal

pub ask-requires : goal.ask-requires
ask-requires g c = waits_ask

pub returns : goal.returns
returns g c = c.ask.ensures
