use Rattle.uu_rows.proofs.Told.{found_or_none, none_but_memory}
use Rattle.uu_adopt.proofs.heads.found_heads.Goals as goal

pub returns-clause-read : goal.returns-clause-read
returns-clause-read c = found_or_none c.typed_heads.result c.or_none.result c.or_none.ensures _ _ c.typed_heads.ensures.heads c.typed_heads.ensures.bad

pub returns-clause-memory : goal.returns-clause-memory
returns-clause-memory c = none_but_memory c.typed_heads.result c.or_none.result c.or_none.ensures
