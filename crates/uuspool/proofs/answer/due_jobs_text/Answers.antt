use Rattle.std.proofs.Common.{◌∙◌, ap}
use Rattle.std.proofs.lemmas.Result.{IfOk-weaker}
use Rattle.std.specs.List.{flat_map}
use Rattle.uu_report.specs.Reports.{due_text}
use Rattle.uuspool.proofs.answer.due_jobs_text.Goals as goal

pub returns : goal.returns
returns c =
    IfOk-weaker c.due_report.result _ _ (λ text is. is ∙ ap (flat_map due_text) (c.deref.ensures.value ∙ c.in_ok-dues.ensures)) c.due_report.ensures
