use Rattle.std.proofs.lemmas.Result.{IfOk-weaker}
use Rattle.sqlite.specs.Held.{state}
use Rattle.uu_rows.proofs.Showing.{answered}
use Rattle.uu_adopt.proofs.TwoQuestions.{one_read, not_read}
use Rattle.uu_adopt.proofs.SpoolRow.{next_seen}
use Rattle.uu_adopt.proofs.Meanings.{spool_ask}
use Rattle.uu_adopt.proofs.spool.read_next.Goals as goal

pub ask-requires : goal.ask-requires
ask-requires g c = spool_ask

pub returns-in_err-rows-clause-reads : goal.returns-in_err-rows-clause-reads
returns-in_err-rows-clause-reads g c = not_read g.S.Store c.args.version c.args.conn.now c.ask.new.conn c.ask.result _ c.from_residual.ensures.0 c.ask.ensures.idle c.ask.ensures.spares

pub returns-clause-reads : goal.returns-clause-reads
returns-clause-reads g c =
    let v = c.args.version in
    let a = c.args.conn.now in
    let b = c.ask.new.conn in
    one_read g.S.Store v a b c.ask.result _ (answered _ _ c.in_ok-rows.was) c.ask.ensures.idle c.ask.ensures.shows c.ask.ensures.spares
    (λ clean stands. IfOk-weaker c.found_next.result _ _
    (λ found seen. next_seen v (state g.S.Store a) (state g.S.Store b) c.in_ok-rows.rows.items stands (c.in_ok-rows.ensures.shows.rows clean) found (rw c.deref.ensures.value at seen)) c.found_next.ensures.found)
