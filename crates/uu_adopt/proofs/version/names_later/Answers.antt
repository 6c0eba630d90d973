use Rattle.sqlite.specs.Held.{state}
use Rattle.uu_rows.proofs.Showing.{answered}
use Rattle.uu_adopt.proofs.TwoQuestions.{one_read, not_read}
use Rattle.uu_adopt.proofs.Later.{later_found, later_not}
use Rattle.uu_adopt.proofs.Meanings.{version_ask}
use Rattle.uu_adopt.proofs.version.names_later.Goals as goal

pub ask-requires : goal.ask-requires
ask-requires g c = version_ask

pub returns-in_err-rows-clause-reads : goal.returns-in_err-rows-clause-reads
returns-in_err-rows-clause-reads g c v = not_read g.S.Store v c.args.conn.now c.ask.new.conn c.ask.result _ c.from_residual.ensures.0 c.ask.ensures.idle c.ask.ensures.spares

pub returns-clause-reads : goal.returns-clause-reads
returns-clause-reads g c v =
    let a = c.args.conn.now in
    let b = c.ask.new.conn in
    one_read g.S.Store v a b c.ask.result _ (answered _ _ c.in_ok-rows.was) c.ask.ensures.idle c.ask.ensures.shows c.ask.ensures.spares (λ clean stands.
    let shown = c.in_ok-rows.ensures.shows.rows clean in (
      λ yes. later_found v (state g.S.Store a) (state g.S.Store b) c.in_ok-rows.rows.items stands shown ((rw c.deref.ensures.value at c.later_in.ensures.later) yes),
      λ no. later_not v (state g.S.Store a) (state g.S.Store b) c.in_ok-rows.rows.items stands shown ((rw c.deref.ensures.value at c.later_in.ensures.none) no),
    ))
