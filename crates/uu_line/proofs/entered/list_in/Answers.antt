use Rattle.std.proofs.Common.{◌∙◌, ap₂, subst, codes}
use Rattle.clap.specs.Words.{found_of}
use Rattle.clap.proofs.WalkLemmas.{first_value-rows}
use Rattle.uu_line.specs.Lines.{AnswersUnlessMemory, list_task}
use Rattle.uu_line.proofs.entered.list_in.Goals as goal

pub returns : goal.returns
returns c =
    let found = found_of c.args.given.now in
    subst (AnswersUnlessMemory c.list_task.result)
    (ap₂ list_task (c.get_str.ensures ∙ first_value-rows found (codes "system")) (c.get_str-2.ensures ∙ first_value-rows found (codes "user"))) c.list_task.ensures
