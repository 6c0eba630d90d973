use Rattle.std.proofs.Common.{ap}
use Rattle.std.specs.Prelude.{is_ok}
use Rattle.std.specs.Result.{is_err}
use Rattle.sqlite.specs.Held.{state}
use Rattle.uu_statements.proofs.Steps.{step_written, step_unwritten}
use Rattle.uu_statements.proofs.planned.write_changes.Goals as goal

pub returns-in_err-commit-clause-step : goal.returns-in_err-commit-clause-step
returns-in_err-commit-clause-step g c s t leads =
    let old = state g.S.Store c.args.conn.now in
    let new = state g.S.Store c.commit.new.conn in
    step_unwritten s t c.args.reply old new c.args.changes.now leads c.commit.result c.commit.ensures.whole c.from_residual.result c.from_residual.ensures.0 (ap is_err c.in_err-commit.was)

pub returns-clause-step : goal.returns-clause-step
returns-clause-step g c s t leads =
    let old = state g.S.Store c.args.conn.now in
    let new = state g.S.Store c.commit.new.conn in
    step_written s t c.args.reply old new c.args.changes.now leads c.commit.result c.commit.ensures.whole (ap is_ok c.in_ok-commit.was)
