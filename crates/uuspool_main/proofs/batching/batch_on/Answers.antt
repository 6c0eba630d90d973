use Rattle.std.proofs.Common.{[], refl}
use Rattle.uuspool_main.proofs.StretchLemmas.{batch_ended}
use Rattle.uuspool_main.proofs.batching.batch_on.Goals as goal

pub returns-in_default : goal.returns-in_default
returns-in_default g c =
    let run = c.lines_are_one_run.ensures.lines c.args.settings.now [] c.args.spool.now c.args.spool.now refl in (_, _, run.replies, run.stopped, run.ran, ([], tt, refl, run, refl, tt))

pub returns-in_default-with_capacity : goal.returns-in_default-with_capacity
returns-in_default-with_capacity g c =
    let run = c.lines_are_one_run.ensures.lines c.args.settings.now [] c.args.spool.now c.args.spool.now refl in (_, _, run.replies, run.stopped, run.ran, ([], tt, refl, run, refl, tt))

pub returns : goal.returns
returns g c =
    let is = c.batch.ensures in
    (_, _, is.run.replies, is.run.stopped, is.run.ran, (is.lines, is.requests, is.served, is.run, refl, batch_ended is.lines is.left _ _ _ c.batch.result is.answered is.broken_off))
