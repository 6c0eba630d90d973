use Rattle.std.proofs.Common.{refl}
use Rattle.clap.specs.Words.{found_of, rows_of}
use Rattle.uu_line.specs.Lines.{MeansDrop, drop_task}
use Rattle.uu_line.proofs.LineLemmas.{meaning}
use Rattle.uu_line.proofs.entered.drop_in.Goals as goal

pub returns : goal.returns
returns c =
    let text = c.text_in.result.now in
    meaning (MeansDrop (rows_of (found_of c.args.given.now))) c.drop_task.result (drop_task text) (text, c.text_in.ensures, refl) c.drop_task.ensures
