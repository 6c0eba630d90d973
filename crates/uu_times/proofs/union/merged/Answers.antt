use Rattle.std.proofs.Common.{◌-◌, ◌++◌, add-one, ap, drop, length, suc, take, ◌∙◌}
use Rattle.uu_times.specs.Internal.Union.{merged_from, merged}
use Rattle.uu_times.proofs.UnionLemmas.{goes-on, stands_apart}
use Rattle.uu_times.proofs.union.merged.Goals as goal
use Rattle.uu_times.proofs.union.merged.Goals.{then-range-run, else-range-run+in_ok-push}

pub loop-range-preserved : goal.loop-range-preserved
loop-range-preserved c =
    let rest = take (length c.args.sorted.now - 1) (drop 1 c.args.sorted.now) in
    let i = c.loop-range.range-index in
    elim c.if-range-run.branch [
      | then-range-run w ↦
          rw (add-one, w.runs-is, w.run-is)
          (ap (λ last. c.loop-range.runs.items ++ merged_from (c.loop-range.run.0, last) (drop (suc i) rest)) w.max.ensures
          ∙ goes-on c.loop-range.runs.items c.loop-range.run rest i (0, 0) (merged c.args.sorted.now) c.loop-range-test.true w.if-range-run.true c.loop-range.invariant)
      | else-range-run+in_ok-push w ↦
          rw (add-one, w.runs-is, w.run-is, w.in_ok-push.ensures.items)
          (stands_apart c.loop-range.runs.items c.loop-range.run rest i (0, 0) (merged c.args.sorted.now) c.loop-range-test.true w.if-range-run.false c.loop-range.invariant)
    ]
