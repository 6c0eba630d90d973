use Rattle.std.proofs.Common.{◌≡◌, ◌∙◌, sym, ap, subst}
use Rattle.std.proofs.lemmas.Result.{IfOk-weaker}
use Rattle.sqlite.specs.declared.types.Value.TheVariants.{Text, Blob}
use Rattle.uu_times.specs.Printed.{IsSystem}
use Rattle.uu_times.specs.System.{System}
use Rattle.uu_tables.specs.Tables.{definition_text}
use Rattle.uu_rows.proofs.Definitions.{same_definition, text_is, blob_is}
use Rattle.uu_rows.proofs.Refused.{was_bad}
use Rattle.uu_rows.proofs.definition.definition_in.Goals as goal

pub returns-clause-name : goal.returns-clause-name
returns-clause-name c = IfOk-weaker c.if_named.result _ _ (λ same it. c.in_ok-name.ensures.value ∙ ap Text (sym it.1) ∙ ap (λ (d : System). Text d.name) (sym it.0)) c.if_named.ensures.yes

pub returns-clause-text : goal.returns-clause-text
returns-clause-text c =
    IfOk-weaker c.if_named.result _ _ (λ same it. c.in_ok-bytes.ensures.value ∙ ap Blob c.in_ok-def.ensures.text ∙ ap (λ d. Blob (definition_text d)) (sym it.0)) c.if_named.ensures.yes

pub returns-clause-def : goal.returns-clause-def
returns-clause-def c = IfOk-weaker c.if_named.result _ _ (λ same it. subst IsSystem (sym it.0) c.definition_is_sound.ensures) c.if_named.ensures.yes

pub returns-clause-bad : goal.returns-clause-bad
returns-clause-bad c def good name refused text =
    let mine : definition_text c.in_ok-def.def ≡ definition_text def = sym c.in_ok-def.ensures.text ∙ blob_is _ _ (sym c.in_ok-bytes.ensures.value ∙ text) in
    let same = same_definition c.in_ok-def.def def c.definition_is_sound.ensures good mine in
    c.if_named.ensures.no refused (ap (λ (d : System). d.name) same ∙ sym (text_is _ _ (sym c.in_ok-name.ensures.value ∙ name)))

pub returns-in_err-def-clause-bad : goal.returns-in_err-def-clause-bad
returns-in_err-def-clause-bad c def good name refused text =
    c.definition_of.ensures.bad def good (was_bad c.from_residual-in_err-def.result c.definition_of.result _ c.from_residual-in_err-def.ensures.1 refused c.in_err-def.was) (blob_is _ _ (sym c.in_ok-bytes.ensures.value ∙ text))
