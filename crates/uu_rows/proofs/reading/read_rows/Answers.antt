use Rattle.uu_rows.proofs.Told.{told_ok, told_memory, told_bad}
use Rattle.uu_rows.proofs.reading.read_rows.Goals as goal

pub returns-clause-rows : goal.returns-clause-rows
returns-clause-rows g c = told_ok c.read_all.result c.or_error.result c.or_error.ensures _ c.read_all.ensures.rows

pub returns-clause-readable : goal.returns-clause-readable
returns-clause-readable g c = told_ok c.read_all.result c.or_error.result c.or_error.ensures _ c.read_all.ensures.readable

pub returns-clause-memory : goal.returns-clause-memory
returns-clause-memory g c all good full = told_memory c.read_all.result c.or_error.result c.or_error.ensures (λ bad. c.read_all.ensures.bad all good bad full)

pub returns-clause-bad : goal.returns-clause-bad
returns-clause-bad g c = told_bad c.read_all.result c.or_error.result c.or_error.ensures
