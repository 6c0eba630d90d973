use Rattle.uu_store.proofs.OneState.{one_state}
use Rattle.uu_store.proofs.laws.one_database_has_one_state.Goals as goal

pub returns : goal.returns
returns c =
    one_state
    (record { in_order = c.tables_are_in_order.ensures.this; readable = c.tables_are_readable.ensures.this; one = c.tables_tell_the_state.ensures.this })
    (record { in_order = c.tables_are_in_order.ensures.earlier; readable = c.tables_are_readable.ensures.earlier; one = c.tables_tell_the_state.ensures.earlier })
