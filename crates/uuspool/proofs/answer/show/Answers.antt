use Rattle.std.proofs.Common.{◌≡◌, ◌∙◌, ◌++◌, List, ℕ, Some, ap, length, option_map, refl, subst, sym}
use Rattle.std.specs.Io.KnownBytes.{Appends}
use Rattle.uu_request.specs.declared.request.Question.TheVariants as question
use Rattle.uuspool.specs.Answers.{IsShown, no_job}
use Rattle.uuspool.proofs.ServedLemmas.{Answers, Appends_nothing, marked_is_of_call, marks_of_call, noted_of_call, printed, question_served, question_unanswered}
use Rattle.uu_report.specs.Reports.{IsJobLine}
use Rattle.uu_store.specs.HandedOut.{job_shown, job_with}
use Rattle.uuspool.proofs.AnswerLemmas.{shown_head}
use Rattle.uuspool.proofs.answer.show.Goals as goal

pub returns-in-Ok-Some : goal.returns-in-Ok-Some
returns-in-Ok-Some g c =
    let written : List ℕ → Type 0 = λ output. Appends (g.W.Write.contents c.args.out.now) (g.W.Write.contents c.print.new.out) output in
    let asked = question.Job c.args.number in
    let size : c.in-Ok-Some.head.size ≡ length c.in-Ok-Some.bytes.items = rw c.in-Ok-Some.field-0-is at c.in-Ok-Some.ensures.size in
    question_served c.args.settings.now asked c.args.spool.now c.job.new.self written c.print.result c.in-Ok-Some.ensures.question.ran c.in-Ok-Some.ensures.question.marked
    (λ clean s shown. (c.in-Ok-Some.ensures.question.answer clean s shown).1)
    (printed c.print.result c.job_text-text.result 0 written
    (λ output. (line : List ℕ) × IsJobLine c.args.settings.now.zone c.in-Ok-Some.head line × (output ≡ line ++ c.deref.result.now))
    (Answers c.args.settings.now asked c.args.spool.now c.job.new.self)
    (λ output is clean s shown. subst (λ job. IsShown c.args.settings.now.zone job output 0)
    (ap (λ bytes. Some (job_with c.in-Ok-Some.head bytes)) c.deref.ensures.value ∙ sym (ap (option_map job_shown) c.in-Ok-Some.field-0-is) ∙ (c.in-Ok-Some.ensures.question.answer clean s shown).0) (
      is.0,
      subst (λ head. IsJobLine c.args.settings.now.zone head is.0)
          (shown_head c.in-Ok-Some.head c.deref.result.now (size ∙ ap length (sym c.deref.ensures.value))) is.1,
      is.2,
      refl,
    ))
    c.print.ensures.printed c.print.ensures.status c.print.ensures.fault c.print.ensures.cut c.print.ensures.nothing c.job_text-text.ensures)

pub returns-in-Ok-None : goal.returns-in-Ok-None
returns-in-Ok-None g c =
    let written : List ℕ → Type 0 = λ output. Appends (g.W.Write.contents c.args.out.now) (g.W.Write.contents c.print-in-Ok-None.new.out) output in
    let asked = question.Job c.args.number in
    let print = c.print-in-Ok-None.ensures in
    question_served c.args.settings.now asked c.args.spool.now c.job.new.self written c.print-in-Ok-None.result c.in-Ok-None.ensures.question.ran c.in-Ok-None.ensures.question.marked
    (λ clean s shown. (c.in-Ok-None.ensures.question.answer clean s shown).1)
    (printed c.print-in-Ok-None.result c.from_slice.result 1 written (λ output. output ≡ no_job) (Answers c.args.settings.now asked c.args.spool.now c.job.new.self)
    (λ output is clean s shown. subst (λ job. IsShown c.args.settings.now.zone job output 1) (sym (ap (option_map job_shown) c.in-Ok-None.field-0-is) ∙ (c.in-Ok-None.ensures.question.answer clean s shown).0) (is, refl))
    print.printed print.status print.fault print.cut print.nothing c.from_slice.ensures.items)

pub returns-in-Err : goal.returns-in-Err
returns-in-Err g c =
    question_unanswered c.args.settings.now (question.Job c.args.number) c.args.spool.now c.job.new.self
    (λ output. Appends (g.W.Write.contents c.args.out.now) (g.W.Write.contents c.args.out.now) output) c.in-Err.fault
    c.in-Err.ensures.question.ran (marks_of_call _ _ c.in-Err.fault c.in-Err.ensures.question.marked) (noted_of_call c.args.spool.now c.job.new.self c.in-Err.fault c.in-Err.ensures.question.marked) (λ had. (c.in-Err.ensures.question.failed had).1)
    (marked_is_of_call _ _ c.in-Err.fault c.in-Err.ensures.question.marked) (Appends_nothing (g.W.Write.contents c.args.out.now))
