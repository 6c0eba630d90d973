use Rattle.std.proofs.Common.{[], ◌∙◌}
use Rattle.std.proofs.lemmas.Result.{IfOk-weaker}
use Rattle.sqlite.specs.Held.{state}
use Rattle.uu_questions.proofs.Texts.{next_text}
use Rattle.uu_questions.proofs.Answering.{then_read, not_shown}
use Rattle.uu_questions.proofs.Meanings.{next_ask}
use Rattle.uu_rows.proofs.Showing.{answered, shows}
use Rattle.uu_questions.proofs.Known.{next_rows}
use Rattle.uu_questions.proofs.facts.next_number.Goals as goal

pub returns-in_err-rows : goal.returns-in_err-rows
returns-in_err-rows g c =
    let a = state g.S.Store c.args.conn.now in
    let b = state g.S.Store c.query_all.new.self in
    let it = c.query_all.ensures in
    record { idle = it.mode; answers = not_shown _ next_text [] a b c.query_all.result _ (shows next_text [] a b next_ask c.query_all.result it.ok it.err it.survives) c.from_residual.ensures.0 }

pub returns : goal.returns
returns g c =
    let a = state g.S.Store c.args.conn.now in
    let b = state g.S.Store c.query_all.new.self in
    let it = c.query_all.ensures in
    record {
      idle = it.mode;
      answers = then_read _ next_text [] a b c.query_all.result _ (shows next_text [] a b next_ask c.query_all.result it.ok it.err it.survives) (answered _ _ c.in_ok-rows.was)
          (λ clean s of. IfOk-weaker c.next_in.result _ _ (λ next h. h s.next (c.as_slice.ensures.value ∙ next_rows a b s c.in_ok-rows.rows.items of (c.in_ok-rows.ensures.ok clean))) c.next_in.ensures.next);
    }
