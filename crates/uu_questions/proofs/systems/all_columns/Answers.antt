use Rattle.sqlite.specs.Held.{state}
use Rattle.uu_questions.proofs.Answering.{both_ok}
use Rattle.uu_questions.proofs.Asking.{asks_shown}
use Rattle.uu_questions.proofs.SystemRows.{systems_found}
use Rattle.uu_questions.proofs.systems.all_columns.Goals as goal

pub returns : goal.returns
returns g c =
    let a = state g.S.Store c.args.conn.now in
    let b = state g.S.Store c.ask_systems.new.conn in
    asks_shown c.ask_systems.ensures c.in_ok-rows.was
    (λ clean s of. both_ok c.read_rows.result _ _ _ (λ found read good. systems_found a b s c.in_ok-rows.rows.items of (c.in_ok-rows.ensures.shows.rows clean) found.items good (rw c.deref.ensures.value at read)) c.read_rows.ensures.rows c.read_rows.ensures.readable)
