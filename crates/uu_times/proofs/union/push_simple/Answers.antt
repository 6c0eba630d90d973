use Rattle.std.proofs.Common.{◌++◌, ap, sym, ◌∙◌, append_assoc}
use Rattle.uu_times.specs.Internal.Union.{ranges_on, days_ranges}
use Rattle.uu_times.proofs.UnionLemmas.{days_ranges_more}
use Rattle.uu_times.proofs.union.push_simple.Goals as goal

pub loop-day-preserved : goal.loop-day-preserved
loop-day-preserved c =
    let simple = c.args.simple.now in
    let day = c.loop-day.day in
    c.in_ok-push_day.ensures
    ∙ ap (λ r. r ++ ranges_on simple day) c.loop-day.invariant
    ∙ append_assoc c.args.ranges.now.items (days_ranges simple day) (ranges_on simple day)
    ∙ ap (λ r. c.args.ranges.now.items ++ r) (sym (days_ranges_more simple day))
