use Rattle.std.proofs.Common.{◌≡◌, List, ℕ, option_copied, refl, subst, sym}
use Rattle.std.specs.Io.KnownBytes.{Appends}
use Rattle.uu_core.specs.Definitions.{picked}
use Rattle.uu_core.specs.NextCalls.{AreNextPolls}
use Rattle.uu_core.specs.Order.{AreByName}
use Rattle.uu_core.specs.declared.next_call.NextPoll.{NextPoll}
use Rattle.uu_core.specs.declared.system.SystemRow.{SystemRow}
use Rattle.uu_report.specs.Reports.{IsNextPollsReport}
use Rattle.uu_request.specs.declared.request.Question.TheVariants as question
use Rattle.uuspool.proofs.ServedLemmas.{Answers, Appends_nothing, fault_goes_on, printed, question_served}
use Rattle.uuspool.proofs.answer.polls.Goals as goal

pub returns : goal.returns
returns g c =
    let written : List ℕ → Type 0 = λ output. Appends (g.W.Write.contents c.args.out.now) (g.W.Write.contents c.print.new.out) output in
    let system = option_copied c.args.system in
    let asked = question.NextPolls system c.args.at.now in
    let zone = c.args.settings.now.zone in
    let second = c.args.at.now.second in
    let rows = c.in_ok-rows.rows.items in
    question_served c.args.settings.now asked c.args.spool.now c.systems.new.self written c.print.result c.in_ok-rows.ensures.question.ran c.in_ok-rows.ensures.question.marked
    (λ clean s shown. (c.in_ok-rows.ensures.question.answer clean s shown).1)
    (printed c.print.result c.next_polls_text.result 0 written
    (λ output. (polls : List NextPoll) × (AreByName (λ (row : SystemRow). row.def.name) rows → AreNextPolls zone (picked system rows) second polls) × IsNextPollsReport zone second polls output)
    (Answers c.args.settings.now asked c.args.spool.now c.systems.new.self)
    (λ output is clean s shown.
    let same : rows ≡ s.systems = (c.in_ok-rows.ensures.question.answer clean s shown).0 in
    let by_name = subst (AreByName (λ (row : SystemRow). row.def.name)) (sym same) shown.encodes.holds.good.by_name in (
      is.0,
      subst (λ (all : List SystemRow). AreNextPolls zone (picked system all) second is.0) same (is.1 by_name),
      is.2,
      refl,
    ))
    c.print.ensures.printed c.print.ensures.status c.print.ensures.fault c.print.ensures.cut c.print.ensures.nothing c.next_polls_text.ensures)

pub returns-in_err-rows : goal.returns-in_err-rows
returns-in_err-rows g c =
    let asked = c.in_err-rows.ensures.question in
    fault_goes_on c.args.settings.now (question.NextPolls (option_copied c.args.system) c.args.at.now) c.args.spool.now c.systems.new.self
    (λ output. Appends (g.W.Write.contents c.args.out.now) (g.W.Write.contents c.args.out.now) output) c.from_residual.result c.in_err-rows.field-0.0 c.from_residual.ensures.1
    asked.ran asked.marked (λ had. (asked.failed had).1) (Appends_nothing (g.W.Write.contents c.args.out.now))
