use Rattle.uu_rows.proofs.Told.{told_ok, told_memory, told_bad}
use Rattle.uu_questions.proofs.due.due_in.Goals as goal

pub returns-clause-due : goal.returns-clause-due
returns-clause-due c = told_ok c.read_due.result c.or_error.result c.or_error.ensures _ c.read_due.ensures.due

pub returns-clause-memory : goal.returns-clause-memory
returns-clause-memory c due name grade number is = told_memory c.read_due.result c.or_error.result c.or_error.ensures (λ bad. c.read_due.ensures.bad due name grade number bad is)

pub returns-clause-bad : goal.returns-clause-bad
returns-clause-bad c = told_bad c.read_due.result c.or_error.result c.or_error.ensures
