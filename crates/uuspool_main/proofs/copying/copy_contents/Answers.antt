use Rattle.uuspool_main.proofs.CopyLemmas.{copies}
use Rattle.uuspool_main.proofs.copying.copy_contents.Goals as goal

pub returns-in-Ok : goal.returns-in-Ok
returns-in-Ok g c = copies _ c.args.contents.now c.args.spool _ c.in-Ok.new c.in-Ok.ensures c.close_old.result c.close_old.ensures

pub returns-in-Err : goal.returns-in-Err
returns-in-Err g c = record { ended = c.let_go.ensures }
