use Rattle.std.proofs.Common.{◌∙◌, refl, append_assoc}
use Rattle.std.proofs.lemmas.Result.{IfOk-weaker}
use Rattle.uu_report.proofs.settled.line_of_refused.Goals as goal

pub returns : goal.returns
returns c = IfOk-weaker c.format.result _ _ (λ line e. e ∙ simp (c.as_str-system.ensures.text, c.name-name.ensures, append_assoc) refl) c.format.ensures.ok
