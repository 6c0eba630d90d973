use Rattle.std.proofs.lemmas.Result.{IfOk-weaker}
use Rattle.sqlite.specs.Held.{state}
use Rattle.uu_schema.specs.declared.version.Version.TheVariants.{Fourth}
use Rattle.uu_rows.proofs.Showing.{answered}
use Rattle.uu_adopt.proofs.TwoQuestions.{both_read, none_read, not_read}
use Rattle.uu_adopt.proofs.ReadTables.{finds_systems}
use Rattle.uu_adopt.proofs.Meanings.{system_rowids_ask}
use Rattle.uu_adopt.proofs.reading.read_systems.Goals as goal

pub ask-requires : goal.ask-requires
ask-requires g c = system_rowids_ask

pub returns-in_err-rows : goal.returns-in_err-rows
returns-in_err-rows g c = not_read g.S.Store Fourth c.args.conn.now c.ask_systems.new.conn c.ask_systems.result _ c.from_residual.ensures.0 c.ask_systems.ensures.idle c.ask_systems.ensures.spares

pub returns-in_err-ids : goal.returns-in_err-ids
returns-in_err-ids g c =
    none_read g.S.Store Fourth c.args.conn.now c.ask_systems.new.conn c.ask.new.conn c.ask_systems.result (answered _ _ c.in_ok-rows.was) c.ask_systems.ensures.idle c.ask_systems.ensures.spares
    c.ask.result _ c.from_residual-in_err-ids.ensures.0 c.ask.ensures.idle c.ask.ensures.spares

pub returns : goal.returns
returns g c =
    let a = c.args.conn.now in
    let b = c.ask_systems.new.conn in
    let d = c.ask.new.conn in
    both_read g.S.Store Fourth a b d c.ask_systems.result (answered _ _ c.in_ok-rows.was) c.ask_systems.ensures.idle c.ask_systems.ensures.spares
    c.ask.result c.found.result (answered _ _ c.in_ok-ids.was) c.ask.ensures.idle c.ask_systems.ensures.shows c.ask.ensures.shows c.ask.ensures.spares
    (λ early clean stands same. IfOk-weaker c.found.result _ _
    (λ found read. finds_systems (state g.S.Store a) (state g.S.Store b) (state g.S.Store d) c.in_ok-rows.rows.items c.in_ok-ids.ids.items stands same (c.in_ok-rows.ensures.shows.rows early) (c.in_ok-ids.ensures.shows.rows clean) found (rw (c.deref.ensures.value, c.deref-2.ensures.value) at read)) c.found.ensures.read)
