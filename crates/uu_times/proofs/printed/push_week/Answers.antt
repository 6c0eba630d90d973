use Rattle.std.proofs.Common.{sym, ◌∙◌, [], ◌∷◌}
use Rattle.std.proofs.lemmas.Result.{on_ok_weaker}
use Rattle.uu_times.specs.Grammar.{any}
use Rattle.uu_times.specs.Printed.{days_of_week, weekdays_and_ends}
use Rattle.uu_times.proofs.PrintedText.{grouped, one_text, groups_days, groups_any, groups_parts}
use Rattle.uu_times.proofs.printed.push_week.Goals as goal

pub returns-then-not-weekdays_alike : goal.returns-then-not-weekdays_alike
returns-then-not-weekdays_alike c =
    on_ok_weaker c.push_days.result
    (grouped c.args.text.now.items c.push_days.new.text.items c.args.ranges.now days_of_week (groups_days c.args.ranges.now (sym c.weekdays_alike.ensures ∙ c.if-not-weekdays_alike.true)))
    c.push_days.ensures

pub returns-then-ends_alike : goal.returns-then-ends_alike
returns-then-ends_alike c =
    on_ok_weaker c.push_day.result
    (λ last. grouped c.args.text.now.items c.push_day.new.text.items c.args.ranges.now ((any, 0) ∷ [])
    (groups_any c.args.ranges.now (sym c.weekdays_alike.ensures ∙ c.if-not-weekdays_alike.false) (sym c.ends_alike.ensures ∙ c.if-ends_alike.true))
    (one_text c.args.text.now.items c.push_day.new.text.items c.args.ranges.now (any, 0) last))
    c.push_day.ensures

pub returns : goal.returns
returns c =
    on_ok_weaker c.push_parts.result
    (grouped c.args.text.now.items c.push_parts.new.text.items c.args.ranges.now weekdays_and_ends
    (groups_parts c.args.ranges.now (sym c.weekdays_alike.ensures ∙ c.if-not-weekdays_alike.false) (sym c.ends_alike.ensures ∙ c.if-ends_alike.false)))
    c.push_parts.ensures
