use Rattle.uu_rows.proofs.Meanings.{systems_ask}
use Rattle.uu_rows.proofs.asks.ask_systems.Goals as goal

pub ask-requires : goal.ask-requires
ask-requires g c = systems_ask

pub returns : goal.returns
returns g c = c.ask.ensures
