use Rattle.std.proofs.Common.{◌∙◌, refl, append_assoc}
use Rattle.std.proofs.lemmas.Result.{IfOk-weaker}
use Rattle.std.specs.String.{string_bytes}
use Rattle.uu_report.proofs.status.system_line.Goals as goal

pub returns : goal.returns
returns c =
    let state = c.in_ok-state.ensures in
    rw (← c.row.view_is)
    (IfOk-weaker c.format.result _ _ (λ line e. (string_bytes c.in_ok-state.state, state, e ∙ simp (c.as_str-system.ensures.text, append_assoc) refl)) c.format.ensures.ok)
