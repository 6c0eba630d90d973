use Rattle.uu_rows.proofs.Ascii.{words_ascii}
use Rattle.uu_rows.proofs.Refused.{was_bad}
use Rattle.uu_rows.proofs.values.arguments_in.Goals as goal

pub returns-in_err-text-clause-bad : goal.returns-in_err-text-clause-bad
returns-in_err-text-clause-bad c ws all is value =
    c.text_in.ensures.bad _ (words_ascii ws all) (was_bad c.from_residual.result c.text_in.result _ c.from_residual.ensures.1 is c.in_err-text.was) value
