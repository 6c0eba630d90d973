use Rattle.uu_rows.proofs.Meanings.{bare_systems_ask}
use Rattle.uu_rows.proofs.asks.ask_bare_systems.Goals as goal

pub ask-requires : goal.ask-requires
ask-requires g c = bare_systems_ask

pub returns : goal.returns
returns g c = c.ask.ensures
