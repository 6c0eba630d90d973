use Rattle.std.proofs.Common.{List, All, subst, sym}
use Rattle.std.proofs.lemmas.Result.{IfOk-weaker}
use Rattle.uu_core.specs.NextCalls.{IsAhead}
use Rattle.uu_core.specs.declared.next_call.NextCall.{NextCall}
use Rattle.uu_report.specs.Reports.{IsNextCallsReport}
use Rattle.uuspool.proofs.answer.next_calls_text.Goals as goal

pub next_calls_report-requires : goal.next_calls_report-requires
next_calls_report-requires c = record { ahead = subst (λ (calls : List NextCall). All (IsAhead c.args.at.now.second) calls) (sym c.deref.ensures.value) c.in_ok-calls.ensures.ahead }

pub returns : goal.returns
returns c =
    IfOk-weaker c.next_calls_report.result _ _
    (λ text is. (c.in_ok-calls.calls.items, c.in_ok-calls.ensures.calls, subst (λ (calls : List NextCall). IsNextCallsReport c.args.settings.now.zone c.args.at.now.second calls text.items) c.deref.ensures.value is))
    c.next_calls_report.ensures
