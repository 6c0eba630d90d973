use Rattle.std.proofs.Common.{◌∙◌, refl, append_assoc}
use Rattle.std.proofs.lemmas.Result.{IfOk-weaker}
use Rattle.std.specs.String.{string_bytes}
use Rattle.uu_report.proofs.queues.queue_line.Goals as goal

pub returns : goal.returns
returns c =
    let moment = c.in_ok-moment.ensures in
    IfOk-weaker c.format.result _ _ (λ line e. (string_bytes c.in_ok-moment.moment, moment, e ∙ simp (c.as_str-system.ensures.text, c.letter-grade.ensures, append_assoc) refl)) c.format.ensures.ok
