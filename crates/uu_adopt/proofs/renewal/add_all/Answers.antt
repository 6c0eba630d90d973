use Rattle.std.proofs.Common.{arith}
use Rattle.uu_adopt.proofs.Renewing.{next_row}
use Rattle.uu_adopt.proofs.renewal.add_all.Goals as goal

pub loop-row-preserved : goal.loop-row-preserved
loop-row-preserved g c t = next_row g.R.Added.adds c.args.rows.now c.loop-row.row-index c.row-item.result (omega arith) c.row-item.is (c.in_ok-add_to.ensures t) (c.loop-row.invariant t)
