use Rattle.std.proofs.lemmas.Result.{IfOk-weaker}
use Rattle.std.specs.String.{string_bytes}
use Rattle.uu_report.proofs.next_calls.coming_text.Goals as goal

pub returns : goal.returns
returns c =
    let moment = c.in_ok-moment.ensures in
    IfOk-weaker c.format.result _ _ (λ text e. (string_bytes c.in_ok-moment.moment, moment, e)) c.format.ensures.ok
