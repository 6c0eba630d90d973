use Rattle.std.proofs.Common.{subst}
use Rattle.uu_line.specs.Lines.{AnswersUnlessMemory, mail_by}
use Rattle.uu_line.proofs.LineLemmas.{same_some}
use Rattle.uu_line.proofs.reading.mail_task.Goals as goal

pub returns : goal.returns
returns c = λ first is.
    subst (λ f. AnswersUnlessMemory c.mail_by.result (mail_by c.args.terms f c.args.paths.now))
    (same_some c.in-Some.first.now first _ c.in-Some.ensures.value is) c.mail_by.ensures
