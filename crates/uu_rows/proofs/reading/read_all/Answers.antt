use Rattle.std.proofs.Common.{arith}
use Rattle.uu_rows.proofs.RowByRow.{met}
use Rattle.uu_rows.proofs.Refused.{was_bad}
use Rattle.uu_rows.proofs.reading.read_all.Goals as goal

pub returns-in_err-read-clause-bad : goal.returns-in_err-read-clause-bad
returns-in_err-read-clause-bad g c all good bad full =
    let m = met g.T.TypedRow.cells g.T.TypedRow.IsReadable c.args.rows.now all c.loop-row.row-index c.row-item.result good full (omega arith) c.row-item.is in
    c.read.ensures.bad m.it m.good (was_bad c.from_residual.result c.read.result _ c.from_residual.ensures.1 bad c.in_err-read.was) m.is
