use Rattle.std.proofs.Common.{◌≡◌, ◌∷◌, [], List, ℕ, refl}
use Rattle.std.specs.Io.KnownBytes.{Appends}
use Rattle.uu_report.specs.Reports.{line_of}
use Rattle.uu_request.specs.declared.request.Question.TheVariants as question
use Rattle.uuspool.proofs.ServedLemmas.{Answers, Appends_nothing, fault_goes_on, printed, question_served}
use Rattle.uuspool.proofs.answer.name.Goals as goal

pub returns : goal.returns
returns g c =
    let written : List ℕ → Type 0 = λ output. Appends (g.W.Write.contents c.args.out.now) (g.W.Write.contents c.print.new.out) output in
    question_served c.args.settings.now question.Name c.args.spool.now c.next.new.self written c.print.result c.in_ok-next.ensures.question.ran c.in_ok-next.ensures.question.marked
    (λ clean s shown. (c.in_ok-next.ensures.question.answer clean s shown).1)
    (printed c.print.result c.name_text.result 0 written (λ output. output ≡ line_of (c.args.settings.now.name ∷ [])) (Answers c.args.settings.now question.Name c.args.spool.now c.next.new.self)
    (λ output is clean s shown. (is, refl))
    c.print.ensures.printed c.print.ensures.status c.print.ensures.fault c.print.ensures.cut c.print.ensures.nothing c.name_text.ensures)

pub returns-in_err-next : goal.returns-in_err-next
returns-in_err-next g c =
    let asked = c.in_err-next.ensures.question in
    fault_goes_on c.args.settings.now question.Name c.args.spool.now c.next.new.self
    (λ output. Appends (g.W.Write.contents c.args.out.now) (g.W.Write.contents c.args.out.now) output) c.from_residual.result c.in_err-next.field-0.0 c.from_residual.ensures.1
    asked.ran asked.marked (λ had. (asked.failed had).1) (Appends_nothing (g.W.Write.contents c.args.out.now))
