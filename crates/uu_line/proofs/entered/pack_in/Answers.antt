use Rattle.std.proofs.Common.{◌∙◌, ap₂, codes, refl, subst}
use Rattle.clap.specs.Words.{first_of, found_of, rows_of}
use Rattle.clap.proofs.WalkLemmas.{first_value-rows}
use Rattle.uu_line.specs.Lines.{AnswersUnlessMemory, MeansPack, has_flag, pack_task}
use Rattle.uu_line.proofs.LineLemmas.{meaning}
use Rattle.uu_line.proofs.entered.pack_in.Goals as goal

pub returns : goal.returns
returns c =
    let found = found_of c.args.given.now in
    let rows = rows_of found in
    let system = c.text_in-system.result.now in
    let grade = c.text_in-grade.result.now in
    let after = c.after_in-after.result in
    let most = c.most_in-most.result in
    meaning (MeansPack rows) c.pack_task.result (pack_task system grade (first_of (codes "spool") rows) after most (has_flag (codes "no-jobs") rows))
    (system, c.text_in-system.ensures, (grade, c.text_in-grade.ensures, (after, c.after_in-after.ensures, most, c.most_in-most.ensures, refl)))
    (subst (AnswersUnlessMemory c.pack_task.result)
    (ap₂ (λ spool no_jobs. pack_task system grade spool after most no_jobs) (c.get_str-spool.ensures ∙ first_value-rows found (codes "spool")) c.has_flag-no_jobs.ensures) c.pack_task.ensures)
