use Rattle.std.proofs.Common.{◌∙◌, ap, codes, refl, subst}
use Rattle.clap.specs.Words.{first_of, found_of, rows_of}
use Rattle.clap.proofs.WalkLemmas.{first_value-rows}
use Rattle.uu_line.specs.Lines.{AnswersUnlessMemory, MeansSettle, settle_task}
use Rattle.uu_line.proofs.LineLemmas.{meaning}
use Rattle.uu_line.proofs.entered.settle_in.Goals as goal

pub returns : goal.returns
returns c =
    let found = found_of c.args.given.now in
    let rows = rows_of found in
    let system = c.text_in.result.now in
    meaning (MeansSettle rows) c.settle_task.result (settle_task system (first_of (codes "spool") rows))
    (system, c.text_in.ensures, refl)
    (subst (AnswersUnlessMemory c.settle_task.result) (ap (settle_task system) (c.get_str.ensures ∙ first_value-rows found (codes "spool"))) c.settle_task.ensures)
