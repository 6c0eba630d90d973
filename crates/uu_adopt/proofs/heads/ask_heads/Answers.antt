use Rattle.std.proofs.lemmas.Result.{IfOk-weaker}
use Rattle.sqlite.specs.Held.{state}
use Rattle.uu_adopt.proofs.ReadHeads.{finds_heads}
use Rattle.uu_adopt.proofs.Meanings.{heads_ask}
use Rattle.uu_adopt.proofs.heads.ask_heads.Goals as goal

pub ask-requires : goal.ask-requires
ask-requires g c = heads_ask

pub returns : goal.returns
returns g c v =
    let a = state g.S.Store c.args.conn.now in
    let b = state g.S.Store c.ask.new.conn in
    record {
      idle = c.ask.ensures.idle;
      reads = record {
        spares = c.ask.ensures.spares;
        same = c.ask.ensures.shows.same;
        found = λ clean stands. IfOk-weaker c.ask.result _ _ (λ rows shown. finds_heads v a b rows.items stands shown) (c.ask.ensures.shows.rows clean);
      };
    }
