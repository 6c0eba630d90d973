use Rattle.uu_times.specs.Lines.{uncommented}
use Rattle.uu_times.proofs.LineLemmas.{uncommented_ends}
use Rattle.uu_times.proofs.lines.uncommented.Goals as goal

pub returns-then-line-at-eq35 : goal.returns-then-line-at-eq35
returns-then-line-at-eq35 c =
    uncommented_ends c.loop-at.clean.items c.args.line.now c.loop-at.at (uncommented c.args.line.now) c.loop-at-test.true c.if-line-at-eq35.true c.loop-at.invariant.0
