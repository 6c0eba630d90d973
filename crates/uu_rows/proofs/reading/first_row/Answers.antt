use Rattle.uu_rows.proofs.Told.{told_ok, told_memory, told_bad}
use Rattle.uu_rows.proofs.reading.first_row.Goals as goal

pub returns-clause-row : goal.returns-clause-row
returns-clause-row g c = told_ok c.read_first.result c.or_error.result c.or_error.ensures _ c.read_first.ensures.row

pub returns-clause-readable : goal.returns-clause-readable
returns-clause-readable g c = told_ok c.read_first.result c.or_error.result c.or_error.ensures _ c.read_first.ensures.readable

pub returns-clause-memory : goal.returns-clause-memory
returns-clause-memory g c found good full = told_memory c.read_first.result c.or_error.result c.or_error.ensures (λ bad. c.read_first.ensures.bad found good bad full)

pub returns-clause-bad : goal.returns-clause-bad
returns-clause-bad g c = told_bad c.read_first.result c.or_error.result c.or_error.ensures
