use Rattle.uu_rows.proofs.Meanings.{taken_ask}
use Rattle.uu_rows.proofs.asks.ask_taken.Goals as goal

pub ask-requires : goal.ask-requires
ask-requires g c = taken_ask

pub returns : goal.returns
returns g c = c.ask.ensures
