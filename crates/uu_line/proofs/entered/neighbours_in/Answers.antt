use Rattle.std.proofs.Common.{refl}
use Rattle.clap.specs.Words.{found_of, rows_of}
use Rattle.uu_line.specs.Lines.{MeansNeighbours, neighbours_task}
use Rattle.uu_line.proofs.LineLemmas.{meaning}
use Rattle.uu_line.proofs.entered.neighbours_in.Goals as goal

pub returns : goal.returns
returns c =
    let text = c.text_in.result.now in
    meaning (MeansNeighbours (rows_of (found_of c.args.given.now))) c.neighbours_task.result (neighbours_task text) (text, c.text_in.ensures, refl) c.neighbours_task.ensures
