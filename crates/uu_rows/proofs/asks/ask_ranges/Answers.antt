use Rattle.uu_rows.proofs.Meanings.{ranges_ask}
use Rattle.uu_rows.proofs.asks.ask_ranges.Goals as goal

pub ask-requires : goal.ask-requires
ask-requires g c = ranges_ask

pub returns : goal.returns
returns g c = c.ask.ensures
