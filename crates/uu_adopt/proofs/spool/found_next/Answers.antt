use Rattle.uu_rows.proofs.Told.{found_or_none, none_but_memory}
use Rattle.uu_adopt.proofs.spool.found_next.Goals as goal

pub returns-clause-found : goal.returns-clause-found
returns-clause-found c = found_or_none c.next_in_row.result c.or_none.result c.or_none.ensures _ _ c.next_in_row.ensures.row (λ bad next small is. c.next_in_row.ensures.bad next small bad is)

pub returns-clause-memory : goal.returns-clause-memory
returns-clause-memory c = none_but_memory c.next_in_row.result c.or_none.result c.or_none.ensures
