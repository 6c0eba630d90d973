use Rattle.std.proofs.Common.{◌≡◌, ◌∙◌, List, ℕ, ap, option_copied, refl}
use Rattle.std.specs.Io.KnownBytes.{Appends}
use Rattle.uu_core.specs.Definitions.{definitions_of}
use Rattle.uu_core.specs.declared.system.SystemRow.{SystemRow}
use Rattle.uu_request.specs.declared.request.Question.TheVariants as question
use Rattle.uu_times.specs.Printed.{sys_text}
use Rattle.uuspool.proofs.ServedLemmas.{Answers, Appends_nothing, fault_goes_on, printed, question_served}
use Rattle.uuspool.proofs.answer.systems.Goals as goal

pub returns : goal.returns
returns g c =
    let written : List ℕ → Type 0 = λ output. Appends (g.W.Write.contents c.args.out.now) (g.W.Write.contents c.print.new.out) output in
    let name = option_copied c.args.name in
    let asked = question.Definitions name in
    question_served c.args.settings.now asked c.args.spool.now c.systems.new.self written c.print.result c.in_ok-rows.ensures.question.ran c.in_ok-rows.ensures.question.marked
    (λ clean s shown. (c.in_ok-rows.ensures.question.answer clean s shown).1)
    (printed c.print.result c.systems_text.result 0 written (λ output. output ≡ sys_text (definitions_of name c.in_ok-rows.rows.items))
    (Answers c.args.settings.now asked c.args.spool.now c.systems.new.self)
    (λ output is clean s shown. (is ∙ ap (λ (rows : List SystemRow). sys_text (definitions_of name rows)) (c.in_ok-rows.ensures.question.answer clean s shown).0, refl))
    c.print.ensures.printed c.print.ensures.status c.print.ensures.fault c.print.ensures.cut c.print.ensures.nothing c.systems_text.ensures)

pub returns-in_err-rows : goal.returns-in_err-rows
returns-in_err-rows g c =
    let asked = c.in_err-rows.ensures.question in
    fault_goes_on c.args.settings.now (question.Definitions (option_copied c.args.name)) c.args.spool.now c.systems.new.self
    (λ output. Appends (g.W.Write.contents c.args.out.now) (g.W.Write.contents c.args.out.now) output) c.from_residual.result c.in_err-rows.field-0.0 c.from_residual.ensures.1
    asked.ran asked.marked (λ had. (asked.failed had).1) (Appends_nothing (g.W.Write.contents c.args.out.now))
