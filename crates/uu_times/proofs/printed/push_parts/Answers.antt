use Rattle.std.proofs.lemmas.Result.{on_ok_weaker}
use Rattle.uu_times.proofs.PrintedText.{parts_text}
use Rattle.uu_times.proofs.printed.push_parts.Goals as goal

pub returns : goal.returns
returns c =
    on_ok_weaker c.push_day-3.result
    (λ last. parts_text c.args.text.now.items c.push_day.new.text.items c.push_day-2.new.text.items c.push_day-3.new.text.items c.args.ranges.now c.in_ok-push_day.ensures c.in_ok-push_day-2.ensures last)
    c.push_day-3.ensures
