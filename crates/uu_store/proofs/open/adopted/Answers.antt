use Rattle.sqlite.specs.Held.{state}
use Rattle.uu_adopt.proofs.Creating.{none_found}
use Rattle.uu_adopt.proofs.Settling.{leaves}
use Rattle.uu_store.specs.Spool.{connection_of, disk}
use Rattle.uu_store.proofs.Opening.{not_taken}
use Rattle.uu_store.proofs.open.adopted.Goals as goal

pub returns-in-Err-clause-away : goal.returns-in-Err-clause-away
returns-in-Err-clause-away g c =
    let turned = c.in-Err.ensures.handed_back in
    not_taken g.S.Store c.args.conn c.in-Err.field-0.conn c.into_store.result c.in-Err.field-0.fault turned.turned_away c.into_store.ensures.quiet c.into_store.ensures.numbered turned.spool_never_refused
    (λ stands. turned.empty_never_refused (none_found (state g.S.Store c.args.conn).now stands)) (λ other. (rw c.in-Err.is at (c.adopt.ensures.other_is_foreign other)).0)
    turned.stop_when_turned_away turned.stop_when_refused turned.newer_names_a_later_version turned.foreign_encodes_no_state

pub returns-in-Ok-clause-alone : goal.returns-in-Ok-clause-alone
returns-in-Ok-clause-alone g c s shows =
    leaves s (disk c.in-Ok.spool) (g.met.S.Store.settled (connection_of c.in-Ok.spool).store) shows.rests shows.encodes
