use Rattle.std.proofs.Common.{◌≡◌, ◌∙◌, ap₂, List, ℕ, refl}
use Rattle.std.specs.List.{flat_map}
use Rattle.std.specs.Io.KnownBytes.{Appends}
use Rattle.uu_core.specs.Due.{all_due}
use Rattle.uu_core.specs.declared.job.JobHead.{JobHead}
use Rattle.uu_core.specs.declared.system.SystemRow.{SystemRow}
use Rattle.uu_questions.specs.Listing.{listed_jobs}
use Rattle.uu_report.specs.Reports.{due_text}
use Rattle.uu_request.specs.declared.request.Question.TheVariants as question
use Rattle.uuspool.proofs.ServedLemmas.{Answers, Appends_nothing, fault_goes_on, printed, question_served}
use Rattle.uuspool.proofs.answer.due_jobs.Goals as goal

pub returns : goal.returns
returns g c =
    let written : List ℕ → Type 0 = λ output. Appends (g.W.Write.contents c.args.out.now) (g.W.Write.contents c.print.new.out) output in
    let asked = question.AllDue c.args.filter.now c.args.at.now in
    let rows = c.deref.result.now in
    let jobs = c.deref-2.result.now in
    question_served c.args.settings.now asked c.args.spool.now c.systems_and_jobs.new.spool written c.print.result c.in_ok-systems.ensures.ran c.in_ok-systems.ensures.marked
    (λ clean s shown. (c.in_ok-systems.ensures.answer clean s shown).2)
    (printed c.print.result c.due_jobs_text.result 0 written
    (λ output. output ≡ flat_map due_text (all_due rows jobs c.args.at.now))
    (Answers c.args.settings.now asked c.args.spool.now c.systems_and_jobs.new.spool)
    (λ output is clean s shown.
    let found = c.in_ok-systems.ensures.answer clean s shown in
    let systems : rows ≡ s.systems = c.deref.ensures.value ∙ found.0 in
    let fitting : jobs ≡ listed_jobs c.args.filter.now s = c.deref-2.ensures.value ∙ found.1 in
    (is ∙ ap₂ (λ (all : List SystemRow) (heads : List JobHead). flat_map due_text (all_due all heads c.args.at.now)) systems fitting, refl))
    c.print.ensures.printed c.print.ensures.status c.print.ensures.fault c.print.ensures.cut c.print.ensures.nothing c.due_jobs_text.ensures)

pub returns-in_err-systems : goal.returns-in_err-systems
returns-in_err-systems g c =
    let asked = c.in_err-systems.ensures in
    fault_goes_on c.args.settings.now (question.AllDue c.args.filter.now c.args.at.now) c.args.spool.now c.systems_and_jobs.new.spool
    (λ output. Appends (g.W.Write.contents c.args.out.now) (g.W.Write.contents c.args.out.now) output) c.from_residual.result c.in_err-systems.field-0.0 c.from_residual.ensures.1
    asked.ran asked.marked asked.failed (Appends_nothing (g.W.Write.contents c.args.out.now))
