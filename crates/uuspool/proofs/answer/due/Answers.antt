use Rattle.std.proofs.Common.{List, ℕ, refl, ◌≡◌, ◌∙◌, ap}
use Rattle.std.specs.Io.KnownBytes.{Appends}
use Rattle.uu_request.specs.declared.request.Question.TheVariants as question
use Rattle.uuspool.proofs.ServedLemmas.{Answers, Appends_nothing, fault_goes_on, printed, question_served}
use Rattle.std.specs.List.{flat_map}
use Rattle.uu_report.specs.Reports.{due_text}
use Rattle.uuspool.proofs.answer.due.Goals as goal

pub returns : goal.returns
returns g c =
    let written : List ℕ → Type 0 = λ output. Appends (g.W.Write.contents c.args.out.now) (g.W.Write.contents c.print.new.out) output in
    let asked = question.Due c.args.at.now in
    question_served c.args.settings.now asked c.args.spool.now c.due.new.self written c.print.result c.in_ok-dues.ensures.question.ran c.in_ok-dues.ensures.question.marked
    (λ clean s shown. (c.in_ok-dues.ensures.question.answer clean s shown).1)
    (printed c.print.result c.due_report.result 0 written (λ output. output ≡ flat_map due_text c.deref.result.now) (Answers c.args.settings.now asked c.args.spool.now c.due.new.self)
    (λ output is clean s shown. (c.in_ok-dues.dues.items, (c.in_ok-dues.ensures.question.answer clean s shown).0, is ∙ ap (flat_map due_text) c.deref.ensures.value, refl))
    c.print.ensures.printed c.print.ensures.status c.print.ensures.fault c.print.ensures.cut c.print.ensures.nothing c.due_report.ensures)

pub returns-in_err-dues : goal.returns-in_err-dues
returns-in_err-dues g c =
    let asked = c.in_err-dues.ensures.question in
    fault_goes_on c.args.settings.now (question.Due c.args.at.now) c.args.spool.now c.due.new.self
    (λ output. Appends (g.W.Write.contents c.args.out.now) (g.W.Write.contents c.args.out.now) output) c.from_residual.result c.in_err-dues.field-0.0 c.from_residual.ensures.1
    asked.ran asked.marked (λ had. (asked.failed had).1) (Appends_nothing (g.W.Write.contents c.args.out.now))
