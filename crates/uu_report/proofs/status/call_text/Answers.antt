use Rattle.std.proofs.Common.{◌∙◌, refl}
use Rattle.std.proofs.lemmas.Result.{IfOk-weaker}
use Rattle.std.specs.String.{string_bytes}
use Rattle.uu_report.proofs.status.call_text.Goals as goal

pub returns-in-Never : goal.returns-in-Never
returns-in-Never c =
    let moment = c.in_ok-moment.ensures in
    IfOk-weaker c.from_str.result _ _ (λ text e. (string_bytes c.in_ok-moment.moment, moment, e ∙ simp (c.in-Never.is) refl)) c.from_str.ensures.ok

pub returns-in-Done : goal.returns-in-Done
returns-in-Done c =
    let moment = c.in_ok-moment.ensures in
    IfOk-weaker c.format.result _ _ (λ text e. (string_bytes c.in_ok-moment.moment, moment, e ∙ simp (c.in-Done.is) refl)) c.format.ensures.ok

pub returns : goal.returns
returns c =
    let moment = c.in_ok-moment.ensures in
    IfOk-weaker c.format-in-Failed.result _ _
    (λ text e. (string_bytes c.in_ok-moment.moment, moment, e ∙ simp (c.as_str-why.ensures.text, c.in-Failed.is) refl)) c.format-in-Failed.ensures.ok
