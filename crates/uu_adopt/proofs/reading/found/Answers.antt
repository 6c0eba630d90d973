use Rattle.uu_rows.proofs.Told.{found_or_none, none_but_memory}
use Rattle.uu_adopt.proofs.reading.found.Goals as goal

pub returns-clause-read : goal.returns-clause-read
returns-clause-read g c = found_or_none c.typed.result c.or_none.result c.or_none.ensures _ _ c.typed.ensures.rows c.typed.ensures.bad

pub returns-clause-memory : goal.returns-clause-memory
returns-clause-memory g c = none_but_memory c.typed.result c.or_none.result c.or_none.ensures
