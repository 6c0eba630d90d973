use Rattle.std.proofs.Common.{◌∙◌, ap₂, codes, subst}
use Rattle.clap.specs.Words.{found_of}
use Rattle.clap.proofs.WalkLemmas.{first_value-rows}
use Rattle.uu_line.specs.Lines.{AnswersUnlessMemory, when_task}
use Rattle.uu_line.proofs.entered.when_in.Goals as goal

pub returns : goal.returns
returns c =
    let found = found_of c.args.given.now in
    subst (AnswersUnlessMemory c.when_task.result) (ap₂ when_task c.has_flag-all.ensures (c.get_str.ensures ∙ first_value-rows found (codes "system"))) c.when_task.ensures
