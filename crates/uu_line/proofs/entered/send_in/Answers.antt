use Rattle.std.proofs.Common.{◌∙◌, codes, refl, subst}
use Rattle.clap.specs.Words.{first_of, found_of, rows_of}
use Rattle.clap.proofs.WalkLemmas.{first_value-rows}
use Rattle.uu_line.specs.Lines.{AnswersUnlessMemory, MeansFile, file_task}
use Rattle.uu_line.specs.declared.task.Task.TheVariants as task
use Rattle.uu_line.proofs.LineLemmas.{meaning}
use Rattle.uu_line.proofs.entered.send_in.Goals as goal

pub returns : goal.returns
returns c =
    let system = c.text_in-system.result.now in
    let source = c.text_in-source.result.now in
    let target = c.text_in-target.result.now in
    let grade = c.text_in-grade.result.now in
    let rows = rows_of (found_of c.args.given.now) in
    meaning (MeansFile task.Send rows) c.send_task.result (file_task task.Send system source target grade (first_of (codes "once") rows))
    (system, c.text_in-system.ensures, (source, c.text_in-source.ensures, (target, c.text_in-target.ensures, (grade, c.text_in-grade.ensures, refl))))
    (subst (λ once. AnswersUnlessMemory c.send_task.result (file_task task.Send system source target grade once))
    (c.get_str.ensures ∙ first_value-rows (found_of c.args.given.now) (codes "once")) c.send_task.ensures)
