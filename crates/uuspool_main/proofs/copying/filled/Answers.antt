use Rattle.std.proofs.lemmas.Result.{IfOk-weaker}
use Rattle.uuspool_main.proofs.CopyLemmas.{filled_has}
use Rattle.uuspool_main.proofs.copying.filled.Goals as goal

pub returns-in-Ok : goal.returns-in-Ok
returns-in-Ok g c blank shows =
    IfOk-weaker c.closed.result _ _
    (λ new closed. filled_has g.met.N.Disk.seen_may_stay c.args.contents.now blank c.args.copy c.fill.new.self shows c.fill.ensures.clean
    (λ s are clean nothing. (rw c.in-Ok.is at ((c.fill.ensures.step s are).ok clean nothing)).1) new closed)
    c.closed.ensures
