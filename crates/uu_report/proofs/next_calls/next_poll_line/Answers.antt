use Rattle.std.proofs.Common.{◌∙◌, refl, append_assoc}
use Rattle.std.proofs.lemmas.Result.{IfOk-weaker}
use Rattle.std.specs.String.{string_bytes}
use Rattle.uu_report.proofs.next_calls.next_poll_line.Goals as goal

pub returns : goal.returns
returns c =
    let time = c.in_ok-time.ensures in
    IfOk-weaker c.format.result _ _
    (λ line e. (string_bytes c.in_ok-time.time, time, e ∙ simp (c.as_str-system.ensures.text, c.why_text-why.ensures, append_assoc) refl)) c.format.ensures.ok
