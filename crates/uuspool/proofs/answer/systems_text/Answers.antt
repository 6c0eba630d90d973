use Rattle.std.proofs.Common.{◌∙◌, ap}
use Rattle.std.proofs.lemmas.Result.{IfOk-weaker}
use Rattle.uu_times.specs.Printed.{sys_text}
use Rattle.uuspool.proofs.answer.systems_text.Goals as goal

pub returns : goal.returns
returns c = IfOk-weaker c.write_sys.result _ _ (λ text is. is ∙ ap sys_text (c.deref.ensures.value ∙ c.in_ok-systems.ensures)) c.write_sys.ensures.text
