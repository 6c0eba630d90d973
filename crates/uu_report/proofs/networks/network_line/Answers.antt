use Rattle.std.proofs.Common.{◌∙◌, refl, append_assoc}
use Rattle.std.proofs.lemmas.Result.{IfOk-weaker}
use Rattle.uu_report.proofs.networks.network_line.Goals as goal

pub returns-in-Value : goal.returns-in-Value
returns-in-Value c = IfOk-weaker c.format.result _ _ (λ line e. e ∙ simp (c.as_str-name.ensures.text, c.in_ok-sites.ensures, c.as_slice.ensures, c.in-Value.is, append_assoc) refl) c.format.ensures.ok

pub returns : goal.returns
returns c = IfOk-weaker c.format-in-Dead.result _ _ (λ line e. e ∙ simp (c.as_str-name.ensures.text, c.in_ok-sites.ensures, c.as_slice.ensures, c.in-Dead.is, append_assoc) refl) c.format-in-Dead.ensures.ok
