use Rattle.std.proofs.lemmas.Result.{IfOk-weaker}
use Rattle.sqlite.specs.Held.{state}
use Rattle.uu_schema.specs.declared.version.Version.TheVariants.{Fourth}
use Rattle.uu_rows.proofs.Showing.{answered}
use Rattle.uu_adopt.proofs.TwoQuestions.{one_read, not_read}
use Rattle.uu_adopt.proofs.ReadContents.{bodies_found}
use Rattle.uu_adopt.proofs.Meanings.{bodies_ask}
use Rattle.uu_adopt.proofs.contents.read_bodies.Goals as goal

pub ask-requires : goal.ask-requires
ask-requires g c = bodies_ask

pub returns-in_err-rows : goal.returns-in_err-rows
returns-in_err-rows g c = not_read g.S.Store Fourth c.args.conn.now c.ask.new.conn c.ask.result _ c.from_residual.ensures.0 c.ask.ensures.idle c.ask.ensures.spares

pub returns : goal.returns
returns g c =
    let a = c.args.conn.now in
    let b = c.ask.new.conn in
    one_read g.S.Store Fourth a b c.ask.result c.read_rows.result (answered _ _ c.in_ok-rows.was) c.ask.ensures.idle c.ask.ensures.shows c.ask.ensures.spares
    (λ clean stands. IfOk-weaker c.read_rows.result _ _ (λ found read. bodies_found (state g.S.Store a) (state g.S.Store b) c.in_ok-rows.rows.items stands (c.in_ok-rows.ensures.shows.rows clean) found (rw c.deref.ensures.value at read)) c.read_rows.ensures.rows)
