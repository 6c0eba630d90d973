use Rattle.std.proofs.Common.{List, ℕ, refl, subst, ◌∙◌}
use Rattle.std.specs.Io.KnownBytes.{Appends}
use Rattle.uu_request.specs.declared.request.Question.TheVariants as question
use Rattle.uuspool.proofs.ServedLemmas.{Answers, Appends_nothing, fault_goes_on, printed, question_served}
use Rattle.uu_report.specs.Reports.{IsJobsReport}
use Rattle.uuspool.proofs.answer.list.Goals as goal

pub returns : goal.returns
returns g c =
    let written : List ℕ → Type 0 = λ output. Appends (g.W.Write.contents c.args.out.now) (g.W.Write.contents c.print.new.out) output in
    let asked = question.Jobs c.args.filter.now in
    question_served c.args.settings.now asked c.args.spool.now c.jobs.new.self written c.print.result c.in_ok-jobs.ensures.question.ran c.in_ok-jobs.ensures.question.marked
    (λ clean s shown. (c.in_ok-jobs.ensures.question.answer clean s shown).1)
    (printed c.print.result c.jobs_report.result 0 written (IsJobsReport c.args.settings.now.zone c.deref.result.now) (Answers c.args.settings.now asked c.args.spool.now c.jobs.new.self)
    (λ output is clean s shown. (subst (λ jobs. IsJobsReport c.args.settings.now.zone jobs output) (c.deref.ensures.value ∙ (c.in_ok-jobs.ensures.question.answer clean s shown).0) is, refl))
    c.print.ensures.printed c.print.ensures.status c.print.ensures.fault c.print.ensures.cut c.print.ensures.nothing c.jobs_report.ensures)

pub returns-in_err-jobs : goal.returns-in_err-jobs
returns-in_err-jobs g c =
    let asked = c.in_err-jobs.ensures.question in
    fault_goes_on c.args.settings.now (question.Jobs c.args.filter.now) c.args.spool.now c.jobs.new.self
    (λ output. Appends (g.W.Write.contents c.args.out.now) (g.W.Write.contents c.args.out.now) output) c.from_residual.result c.in_err-jobs.field-0.0 c.from_residual.ensures.1
    asked.ran asked.marked (λ had. (asked.failed had).1) (Appends_nothing (g.W.Write.contents c.args.out.now))
