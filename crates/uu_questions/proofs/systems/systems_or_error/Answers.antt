use Rattle.uu_rows.proofs.Told.{told_ok, told_memory, told_bad}
use Rattle.uu_questions.proofs.systems.systems_or_error.Goals as goal

pub returns-clause-systems : goal.returns-clause-systems
returns-clause-systems c = told_ok c.systems_of.result c.or_error.result c.or_error.ensures _ c.systems_of.ensures.systems

pub returns-clause-memory : goal.returns-clause-memory
returns-clause-memory c made theirs = told_memory c.systems_of.result c.or_error.result c.or_error.ensures (λ bad. c.systems_of.ensures.bad made bad theirs)

pub returns-clause-bad : goal.returns-clause-bad
returns-clause-bad c = told_bad c.systems_of.result c.or_error.result c.or_error.ensures
