use Rattle.std.proofs.Common.{refl}
use Rattle.clap.specs.Words.{found_of, rows_of}
use Rattle.uu_line.specs.Lines.{MeansDone, done_task}
use Rattle.uu_line.proofs.LineLemmas.{meaning, memory_meets}
use Rattle.uu_line.proofs.entered.done_in.Goals as goal

pub returns-in-Ok : goal.returns-in-Ok
returns-in-Ok c =
    let system = c.text_in-system.result.now in
    meaning (MeansDone (rows_of (found_of c.args.given.now))) c.done_task.result (done_task system c.in-Ok.jobs)
    (system, c.text_in-system.ensures, (c.in-Ok.jobs, c.in-Ok.ensures.jobs, refl)) c.done_task.ensures

pub returns-in-Err : goal.returns-in-Err
returns-in-Err c = memory_meets (MeansDone (rows_of (found_of c.args.given.now))) c.in-Err.fault c.in-Err.ensures.memory
