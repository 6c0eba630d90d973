use Rattle.std.proofs.Common.{refl}
use Rattle.clap.specs.Words.{found_of, rows_of}
use Rattle.uu_line.specs.Lines.{MeansRegrade, regrade_task}
use Rattle.uu_line.proofs.LineLemmas.{meaning}
use Rattle.uu_line.proofs.entered.regrade_in.Goals as goal

pub returns : goal.returns
returns c =
    let grade = c.text_in.result.now in
    meaning (MeansRegrade (rows_of (found_of c.args.given.now))) c.regrade_task.result (regrade_task c.job_in.result grade)
    (grade, c.text_in.ensures, (c.job_in.ensures.0, c.job_in.ensures.1, (c.job_in.result, c.job_in.ensures.2, refl))) c.regrade_task.ensures
