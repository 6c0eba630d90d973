use Rattle.std.proofs.Common.{ap, ◌∙◌, nat_eq, not, Ok}
use Rattle.sqlite.specs.Held.{state}
use Rattle.sqlite.specs.Values.{bound}
use Rattle.uu_questions.specs.Reading.{IsAnyRow}
use Rattle.uu_questions.proofs.Reading.{none_read, then_reads}
use Rattle.uu_rows.proofs.Showing.{answered}
use Rattle.uu_questions.proofs.asks.has_row.Goals as goal

pub returns-in_err-rows : goal.returns-in_err-rows
returns-in_err-rows g c =
    let old = state g.S.Store c.args.conn.now in
    let new = state g.S.Store c.query_all.new.self in
    let it = c.query_all.ensures in
    record {
      idle = it.mode;
      reads = none_read c.args.sql.now (bound c.args.params.now) old new c.requires IsAnyRow c.query_all.result it.ok it.err it.survives c.from_residual.result c.from_residual.ensures.0;
    }

pub returns : goal.returns
returns g c =
    let old = state g.S.Store c.args.conn.now in
    let new = state g.S.Store c.query_all.new.self in
    let it = c.query_all.ensures in
    record {
      idle = it.mode;
      reads = then_reads c.args.sql.now (bound c.args.params.now) old new c.requires IsAnyRow c.query_all.result it.ok it.err it.survives (Ok (not c.is_empty.result)) (answered _ _ c.in_ok-rows.was)
          (λ clean. (c.in_ok-rows.rows.items, c.in_ok-rows.ensures.ok clean, ap not (c.is_empty.ensures ∙ ap (λ n. nat_eq n 0) c.in_ok-rows.rows.ok.0)));
    }
