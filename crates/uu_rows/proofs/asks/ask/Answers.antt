use Rattle.std.proofs.Common.{[]}
use Rattle.sqlite.specs.Held.{state}
use Rattle.uu_schema.proofs.Questions.{spares}
use Rattle.uu_rows.proofs.Showing.{shows}
use Rattle.uu_rows.proofs.asks.ask.Goals as goal

pub returns : goal.returns
returns g c =
    let sql = c.args.sql.now in
    let old = state g.S.Store c.args.conn.now in
    let new = state g.S.Store c.query_all.new.self in
    let it = c.query_all.ensures in
    record {
      idle = it.mode;
      shows = shows sql [] old new c.requires c.query_all.result it.ok it.err it.survives;
      spares = spares sql c.requires [] old new c.query_all.result it.ok it.err it.survives;
    }
