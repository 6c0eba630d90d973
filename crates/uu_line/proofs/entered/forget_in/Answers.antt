use Rattle.std.proofs.Common.{refl}
use Rattle.clap.specs.Words.{found_of, rows_of}
use Rattle.uu_line.specs.Lines.{MeansForget, forget_task}
use Rattle.uu_line.proofs.LineLemmas.{meaning}
use Rattle.uu_line.proofs.entered.forget_in.Goals as goal

pub returns : goal.returns
returns c =
    let system = c.text_in.result.now in
    meaning (MeansForget (rows_of (found_of c.args.given.now))) c.forget_task.result (forget_task system c.job_in.result)
    (system, c.text_in.ensures, (c.job_in.ensures.0, c.job_in.ensures.1, (c.job_in.result, c.job_in.ensures.2, refl))) c.forget_task.ensures
