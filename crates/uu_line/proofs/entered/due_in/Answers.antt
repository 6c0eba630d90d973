use Rattle.std.proofs.Common.{◌∙◌, ap, subst, codes}
use Rattle.clap.specs.Words.{found_of}
use Rattle.clap.proofs.WalkLemmas.{first_value-rows}
use Rattle.uu_line.specs.Lines.{AnswersUnlessMemory, due_task}
use Rattle.uu_line.proofs.entered.due_in.Goals as goal

pub returns : goal.returns
returns c =
    let found = found_of c.args.given.now in
    subst (AnswersUnlessMemory c.due_task.result) (ap due_task (c.get_str.ensures ∙ first_value-rows found (codes "system"))) c.due_task.ensures
