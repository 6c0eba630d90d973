use Rattle.std.proofs.Common.{arith}
use Rattle.uu_schema.specs.Cells.{job_cells}
use Rattle.uu_rows.specs.Readable.{IsTypedHead}
use Rattle.uu_rows.proofs.RowByRow.{met}
use Rattle.uu_rows.proofs.Refused.{was_bad}
use Rattle.uu_rows.proofs.borrowed.read_heads.Goals as goal

pub returns-in_err-head_in-clause-bad : goal.returns-in_err-head_in-clause-bad
returns-in_err-head_in-clause-bad c all good bad full =
    let m = met job_cells IsTypedHead c.args.rows.now all c.loop-row.row-index c.row-item.result good full (omega arith) c.row-item.is in
    c.head_in.ensures.bad m.it m.good (was_bad c.from_residual.result c.head_in.result _ c.from_residual.ensures.1 bad c.in_err-head_in.was) m.is
