use Rattle.std.proofs.Common.{◌≡◌, ◌∙◌, sym, ap}
use Rattle.std.proofs.lemmas.Result.{IfOk-weaker}
use Rattle.uu_tables.specs.Tables.{definition_text}
use Rattle.uu_rows.proofs.definition.definition_read.Goals as goal

pub returns-clause-text : goal.returns-clause-text
returns-clause-text c =
    let kept : c.as_slice.result.now ≡ definition_text c.in_ok-def.def = c.as_slice.ensures.value ∙ c.in_ok-text.ensures in
    IfOk-weaker c.if_same.result _ _ (λ same it. sym it.1 ∙ kept ∙ ap definition_text (sym it.0)) c.if_same.ensures.yes

pub returns-clause-bad : goal.returns-clause-bad
returns-clause-bad c def good refused is =
    let kept : c.as_slice.result.now ≡ definition_text c.in_ok-def.def = c.as_slice.ensures.value ∙ c.in_ok-text.ensures in
    c.if_same.ensures.no refused (kept ∙ ap definition_text (c.in_ok-def.ensures.kept def good is) ∙ sym is)
