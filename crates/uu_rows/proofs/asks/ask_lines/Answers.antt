use Rattle.uu_rows.proofs.Meanings.{lines_ask}
use Rattle.uu_rows.proofs.asks.ask_lines.Goals as goal

pub ask-requires : goal.ask-requires
ask-requires g c = lines_ask

pub returns : goal.returns
returns g c = c.ask.ensures
