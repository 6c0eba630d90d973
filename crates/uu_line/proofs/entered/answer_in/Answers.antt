use Rattle.std.proofs.Common.{◌∙◌, ap₂, codes, refl, subst}
use Rattle.clap.specs.Words.{first_of, found_of, rows_of}
use Rattle.clap.proofs.WalkLemmas.{first_value-rows}
use Rattle.uu_line.specs.Lines.{AnswersUnlessMemory, MeansAnswer, answer_task, has_flag, texts_at}
use Rattle.uu_line.proofs.LineLemmas.{meaning}
use Rattle.uu_line.proofs.entered.answer_in.Goals as goal

pub returns : goal.returns
returns c =
    let found = found_of c.args.given.now in
    let rows = rows_of found in
    let sender = c.text_in-sender.result.now in
    let onward = texts_at (codes "system") rows in
    let grade = c.text_in-grade.result.now in
    let after = c.after_in-after.result in
    let most = c.most_in-most.result in
    meaning (MeansAnswer rows) c.answer_task.result (answer_task sender onward grade (first_of (codes "spool") rows) after most (has_flag (codes "no-jobs") rows))
    (sender, c.text_in-sender.ensures, (grade, c.text_in-grade.ensures, (after, c.after_in-after.ensures, most, c.most_in-most.ensures, refl)))
    (subst (AnswersUnlessMemory c.answer_task.result)
    (ap₂ (λ spool no_jobs. answer_task sender onward grade spool after most no_jobs) (c.get_str-spool.ensures ∙ first_value-rows found (codes "spool")) c.has_flag-no_jobs.ensures) c.answer_task.ensures)
