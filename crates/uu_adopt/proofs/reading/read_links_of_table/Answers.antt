use Rattle.std.proofs.lemmas.Result.{IfOk-weaker}
use Rattle.sqlite.specs.Held.{state}
use Rattle.uu_rows.proofs.Showing.{answered}
use Rattle.uu_adopt.proofs.TwoQuestions.{both_read, none_read, not_read}
use Rattle.uu_adopt.proofs.ReadTables.{finds_links}
use Rattle.uu_adopt.proofs.Meanings.{link_rowids_ask}
use Rattle.uu_adopt.proofs.reading.read_links_of_table.Goals as goal

pub ask-requires : goal.ask-requires
ask-requires g c = link_rowids_ask

pub returns-in_err-rows : goal.returns-in_err-rows
returns-in_err-rows g c v has = not_read g.S.Store v c.args.conn.now c.ask_links.new.conn c.ask_links.result _ c.from_residual.ensures.0 c.ask_links.ensures.idle c.ask_links.ensures.spares

pub returns-in_err-ids : goal.returns-in_err-ids
returns-in_err-ids g c v has =
    none_read g.S.Store v c.args.conn.now c.ask_links.new.conn c.ask.new.conn c.ask_links.result (answered _ _ c.in_ok-rows.was) c.ask_links.ensures.idle c.ask_links.ensures.spares
    c.ask.result _ c.from_residual-in_err-ids.ensures.0 c.ask.ensures.idle c.ask.ensures.spares

pub returns : goal.returns
returns g c v has =
    let a = c.args.conn.now in
    let b = c.ask_links.new.conn in
    let d = c.ask.new.conn in
    both_read g.S.Store v a b d c.ask_links.result (answered _ _ c.in_ok-rows.was) c.ask_links.ensures.idle c.ask_links.ensures.spares
    c.ask.result c.found.result (answered _ _ c.in_ok-ids.was) c.ask.ensures.idle c.ask_links.ensures.shows c.ask.ensures.shows c.ask.ensures.spares
    (λ early clean stands same. IfOk-weaker c.found.result _ _
    (λ found read. finds_links v has (state g.S.Store a) (state g.S.Store b) (state g.S.Store d) c.in_ok-rows.rows.items c.in_ok-ids.ids.items stands same (c.in_ok-rows.ensures.shows.rows early) (c.in_ok-ids.ensures.shows.rows clean) found (rw (c.deref.ensures.value, c.deref-2.ensures.value) at read)) c.found.ensures.read)
