use Rattle.std.proofs.Common.{◌∙◌, codes, refl, subst}
use Rattle.clap.specs.Words.{first_of, found_of, rows_of}
use Rattle.clap.proofs.WalkLemmas.{first_value-rows}
use Rattle.uu_line.specs.Lines.{texts_at}
use Rattle.uu_line.specs.Lines.{AnswersUnlessMemory, MeansExec, exec_task}
use Rattle.uu_line.proofs.LineLemmas.{meaning}
use Rattle.uu_line.proofs.entered.execute_in.Goals as goal

pub returns : goal.returns
returns c =
    let grade = c.text_in-grade.result.now in
    let system = c.text_in-system.result.now in
    let command = c.text_in-command.result.now in
    let rows = rows_of (found_of c.args.given.now) in
    let texts = texts_at (codes "argument") rows in
    meaning (MeansExec rows) c.execute_task.result (exec_task grade (first_of (codes "once") rows) system command texts)
    (grade, c.text_in-grade.ensures, (system, c.text_in-system.ensures, (command, c.text_in-command.ensures, refl)))
    (subst (λ once. AnswersUnlessMemory c.execute_task.result (exec_task grade once system command texts))
    (c.get_str-once.ensures ∙ first_value-rows (found_of c.args.given.now) (codes "once")) c.execute_task.ensures)
