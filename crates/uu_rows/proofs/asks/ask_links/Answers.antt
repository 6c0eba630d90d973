use Rattle.uu_rows.proofs.Meanings.{links_ask}
use Rattle.uu_rows.proofs.asks.ask_links.Goals as goal

pub ask-requires : goal.ask-requires
ask-requires g c = links_ask

pub returns : goal.returns
returns g c = c.ask.ensures
