use Rattle.uuspool_main.proofs.CopyLemmas.{closes}
use Rattle.uuspool_main.proofs.copying.close_old.Goals as goal

pub returns-in-Ok : goal.returns-in-Ok
returns-in-Ok g c = closes c.args.spool c.in-Ok.old c.args.new c.in-Ok.ensures.closed c.with_short_log.result c.with_short_log.ensures

pub returns-in-Err : goal.returns-in-Err
returns-in-Err g c = c.in-Err.ensures.let_go
