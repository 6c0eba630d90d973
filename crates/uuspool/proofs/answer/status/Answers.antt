use Rattle.std.proofs.Common.{List, ℕ, refl, subst, ◌∙◌}
use Rattle.std.specs.Io.KnownBytes.{Appends}
use Rattle.uu_request.specs.declared.request.Question.TheVariants as question
use Rattle.uuspool.proofs.ServedLemmas.{Answers, Appends_nothing, fault_goes_on, printed, question_served}
use Rattle.uu_report.specs.Reports.{IsStatusReport}
use Rattle.uuspool.proofs.answer.status.Goals as goal

pub returns : goal.returns
returns g c =
    let written : List ℕ → Type 0 = λ output. Appends (g.W.Write.contents c.args.out.now) (g.W.Write.contents c.print.new.out) output in
    question_served c.args.settings.now question.Systems c.args.spool.now c.systems.new.self written c.print.result c.in_ok-systems.ensures.question.ran c.in_ok-systems.ensures.question.marked
    (λ clean s shown. (c.in_ok-systems.ensures.question.answer clean s shown).1)
    (printed c.print.result c.status_report.result 0 written (IsStatusReport c.args.settings.now.zone c.deref.result.now)
    (Answers c.args.settings.now question.Systems c.args.spool.now c.systems.new.self)
    (λ output is clean s shown. (subst (λ rows. IsStatusReport c.args.settings.now.zone rows output) (c.deref.ensures.value ∙ (c.in_ok-systems.ensures.question.answer clean s shown).0) is, refl))
    c.print.ensures.printed c.print.ensures.status c.print.ensures.fault c.print.ensures.cut c.print.ensures.nothing c.status_report.ensures)

pub returns-in_err-systems : goal.returns-in_err-systems
returns-in_err-systems g c =
    let asked = c.in_err-systems.ensures.question in
    fault_goes_on c.args.settings.now question.Systems c.args.spool.now c.systems.new.self
    (λ output. Appends (g.W.Write.contents c.args.out.now) (g.W.Write.contents c.args.out.now) output) c.from_residual.result c.in_err-systems.field-0.0 c.from_residual.ensures.1
    asked.ran asked.marked (λ had. (asked.failed had).1) (Appends_nothing (g.W.Write.contents c.args.out.now))
