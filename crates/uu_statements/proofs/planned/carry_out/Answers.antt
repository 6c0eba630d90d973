use Rattle.sqlite.specs.Held.{state}
use Rattle.uu_schema.proofs.Resting.{is_memory}
use Rattle.uu_statements.proofs.Steps.{told_written, told_unwritten, memory_before}
use Rattle.uu_statements.proofs.planned.carry_out.Goals as goal

pub returns-in-Ok-clause-step : goal.returns-in-Ok-clause-step
returns-in-Ok-clause-step g c s t leads =
    told_written s t c.args.reply (state g.S.Store c.args.conn.now) (state g.S.Store c.write_changes.new.conn) c.in-Ok.reply (rw c.in-Ok.is at (c.write_changes.ensures.step s t leads))

pub returns-in-Err-clause-step : goal.returns-in-Err-clause-step
returns-in-Err-clause-step g c s t leads =
    told_unwritten s t c.args.reply (state g.S.Store c.args.conn.now) (state g.S.Store c.write_changes.new.conn) (state g.S.Store c.halt_fault.new.conn) c.in-Err.halt c.halt_fault.result
    (rw c.in-Err.is at (c.write_changes.ensures.step s t leads)) c.halt_fault.ensures.memory c.halt_fault.ensures.survives

pub returns-in-Err-clause-memory : goal.returns-in-Err-clause-memory
returns-in-Err-clause-memory g c is =
    memory_before (state g.S.Store c.args.conn.now) (state g.S.Store c.write_changes.new.conn) (state g.S.Store c.halt_fault.new.conn) c.in-Err.halt c.halt_fault.result
    (rw c.in-Err.is at c.write_changes.ensures.before) c.halt_fault.ensures.commit c.halt_fault.ensures.survives (is_memory c.halt_fault.result is)
