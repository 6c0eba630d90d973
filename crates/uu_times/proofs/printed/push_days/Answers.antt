use Rattle.std.proofs.lemmas.Result.{on_ok_weaker}
use Rattle.uu_times.proofs.PrintedText.{week_text}
use Rattle.uu_times.proofs.printed.push_days.Goals as goal

pub returns : goal.returns
returns c =
    on_ok_weaker c.push_day-7.result
    (λ last. week_text c.args.text.now.items c.push_day.new.text.items c.push_day-2.new.text.items c.push_day-3.new.text.items c.push_day-4.new.text.items c.push_day-5.new.text.items
    c.push_day-6.new.text.items c.push_day-7.new.text.items c.args.ranges.now
    c.in_ok-push_day.ensures c.in_ok-push_day-2.ensures c.in_ok-push_day-3.ensures c.in_ok-push_day-4.ensures c.in_ok-push_day-5.ensures c.in_ok-push_day-6.ensures last)
    c.push_day-7.ensures
