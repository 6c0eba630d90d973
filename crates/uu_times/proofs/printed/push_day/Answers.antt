use Rattle.std.proofs.Common.{◌++◌, ap, ◌∙◌}
use Rattle.uu_times.specs.Printed.{on_day, part_text}
use Rattle.uu_times.proofs.PrintedText.{grow}
use Rattle.uu_times.proofs.printed.push_day.Goals as goal

pub loop-range-preserved : goal.loop-range-preserved
loop-range-preserved c =
    grow (λ range. part_text c.args.word.now (on_day c.args.day range)) c.args.ranges.now c.loop-range.range-index (0, 0) c.args.text.now.items c.loop-range.text.items c.push_part.new.text.items
    c.loop-range-test.true c.loop-range.invariant
    (c.in_ok-push_part.ensures ∙ ap (λ o. c.loop-range.text.items ++ part_text c.args.word.now o) c.on_day.ensures.value)
