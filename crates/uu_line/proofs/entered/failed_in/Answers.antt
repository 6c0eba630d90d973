use Rattle.std.proofs.Common.{refl}
use Rattle.clap.specs.Words.{found_of, rows_of}
use Rattle.uu_line.specs.Lines.{MeansFailed, failed_task}
use Rattle.uu_line.proofs.LineLemmas.{meaning}
use Rattle.uu_line.proofs.entered.failed_in.Goals as goal

pub returns : goal.returns
returns c =
    let system = c.text_in.result.now in
    let why = c.text_in-2.result.now in
    meaning (MeansFailed (rows_of (found_of c.args.given.now))) c.failed_task.result (failed_task system why)
    (system, c.text_in.ensures, (why, c.text_in-2.ensures, refl)) c.failed_task.ensures
