use Rattle.std.proofs.Common.{sym, ◌∙◌}
use Rattle.std.proofs.lemmas.Result.{IfOk-weaker}
use Rattle.uu_times.specs.Grammar.{lower}
use Rattle.uu_times.proofs.Predefined.{found_non_peak, found_night, found_evening, found_none}
use Rattle.uu_times.proofs.timetable.find_predefined.Goals as goal

pub returns-then-equals_in_any_case : goal.returns-then-equals_in_any_case
returns-then-equals_in_any_case c =
    IfOk-weaker c.listed_windows.result _ _ (λ windows is. is ∙ found_non_peak (lower c.args.name.now) (sym c.equals_in_any_case.ensures ∙ c.if-equals_in_any_case.true)) c.listed_windows.ensures

pub returns-then-equals_in_any_case-2 : goal.returns-then-equals_in_any_case-2
returns-then-equals_in_any_case-2 c =
    IfOk-weaker c.listed_windows-then-equals_in_any_case-2.result _ _
    (λ windows is. is ∙ found_night (lower c.args.name.now) (sym c.equals_in_any_case.ensures ∙ c.if-equals_in_any_case.false)
    (sym c.equals_in_any_case-else-equals_in_any_case.ensures ∙ c.if-equals_in_any_case-2.true))
    c.listed_windows-then-equals_in_any_case-2.ensures

pub returns-then-equals_in_any_case-3 : goal.returns-then-equals_in_any_case-3
returns-then-equals_in_any_case-3 c =
    IfOk-weaker c.listed_windows-then-equals_in_any_case-3.result _ _
    (λ windows is. is ∙ found_evening (lower c.args.name.now) (sym c.equals_in_any_case.ensures ∙ c.if-equals_in_any_case.false)
    (sym c.equals_in_any_case-else-equals_in_any_case.ensures ∙ c.if-equals_in_any_case-2.false)
    (sym c.equals_in_any_case-else-equals_in_any_case-2.ensures ∙ c.if-equals_in_any_case-3.true))
    c.listed_windows-then-equals_in_any_case-3.ensures

pub returns-else-equals_in_any_case-3 : goal.returns-else-equals_in_any_case-3
returns-else-equals_in_any_case-3 c =
    found_none (lower c.args.name.now) (sym c.equals_in_any_case.ensures ∙ c.if-equals_in_any_case.false)
    (sym c.equals_in_any_case-else-equals_in_any_case.ensures ∙ c.if-equals_in_any_case-2.false)
    (sym c.equals_in_any_case-else-equals_in_any_case-2.ensures ∙ c.if-equals_in_any_case-3.false)
