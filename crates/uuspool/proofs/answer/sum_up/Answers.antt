use Rattle.std.proofs.Common.{◌∙◌, List, ℕ, refl, subst}
use Rattle.std.specs.Io.KnownBytes.{Appends}
use Rattle.uu_core.specs.Queues.{AreQueues}
use Rattle.uu_core.specs.declared.job.JobHead.{JobHead}
use Rattle.uu_core.specs.declared.queue.Queue.{Queue}
use Rattle.uu_report.specs.Reports.{IsQueuesReport}
use Rattle.uu_request.specs.declared.request.Question.TheVariants as question
use Rattle.uuspool.proofs.ServedLemmas.{Answers, Appends_nothing, fault_goes_on, printed, question_served}
use Rattle.uuspool.proofs.answer.sum_up.Goals as goal

pub returns : goal.returns
returns g c =
    let written : List ℕ → Type 0 = λ output. Appends (g.W.Write.contents c.args.out.now) (g.W.Write.contents c.print.new.out) output in
    let asked = question.Queues c.args.filter.now in
    question_served c.args.settings.now asked c.args.spool.now c.jobs.new.self written c.print.result c.in_ok-jobs.ensures.question.ran c.in_ok-jobs.ensures.question.marked
    (λ clean s shown. (c.in_ok-jobs.ensures.question.answer clean s shown).1)
    (printed c.print.result c.queues_text.result 0 written
    (λ output. (queues : List Queue) × AreQueues c.deref.result.now queues × IsQueuesReport c.args.settings.now.zone queues output)
    (Answers c.args.settings.now asked c.args.spool.now c.jobs.new.self)
    (λ output is clean s shown. (is.0, subst (λ (heads : List JobHead). AreQueues heads is.0) (c.deref.ensures.value ∙ (c.in_ok-jobs.ensures.question.answer clean s shown).0) is.1, is.2, refl))
    c.print.ensures.printed c.print.ensures.status c.print.ensures.fault c.print.ensures.cut c.print.ensures.nothing c.queues_text.ensures)

pub returns-in_err-jobs : goal.returns-in_err-jobs
returns-in_err-jobs g c =
    let asked = c.in_err-jobs.ensures.question in
    fault_goes_on c.args.settings.now (question.Queues c.args.filter.now) c.args.spool.now c.jobs.new.self
    (λ output. Appends (g.W.Write.contents c.args.out.now) (g.W.Write.contents c.args.out.now) output) c.from_residual.result c.in_err-jobs.field-0.0 c.from_residual.ensures.1
    asked.ran asked.marked (λ had. (asked.failed had).1) (Appends_nothing (g.W.Write.contents c.args.out.now))
