use Rattle.std.proofs.Common.{codes, refl}
use Rattle.clap.specs.Words.{found_of, rows_of}
use Rattle.uu_line.specs.Lines.{MeansUnpack, texts_at, unpack_task}
use Rattle.uu_line.proofs.LineLemmas.{meaning}
use Rattle.uu_line.proofs.entered.unpack_in.Goals as goal

pub returns : goal.returns
returns c =
    let rows = rows_of (found_of c.args.given.now) in
    let sender = c.text_in.result.now in
    meaning (MeansUnpack rows) c.unpack_task.result (unpack_task sender (texts_at (codes "system") rows)) (sender, c.text_in.ensures, refl) c.unpack_task.ensures
