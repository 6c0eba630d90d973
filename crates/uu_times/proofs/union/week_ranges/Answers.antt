use Rattle.std.proofs.Common.{add-one}
use Rattle.uu_times.specs.Internal.Union.{week_ranges}
use Rattle.uu_times.proofs.UnionLemmas.{week_more}
use Rattle.uu_times.proofs.union.week_ranges.Goals as goal

pub loop-simple-preserved : goal.loop-simple-preserved
loop-simple-preserved c =
    rw add-one (week_more c.loop-simple.ranges.items c.push_simple.new.ranges.items c.args.simples.now c.loop-simple.simple-index _ (week_ranges c.args.simples.now)
    c.loop-simple-test.true c.in_ok-push_simple.ensures c.loop-simple.invariant)
