use Rattle.std.proofs.Common.{◌∙◌, refl, append_assoc}
use Rattle.std.proofs.lemmas.Result.{IfOk-weaker}
use Rattle.uu_report.proofs.output.answer_line.Goals as goal

pub returns-in-Site : goal.returns-in-Site
returns-in-Site c =
    IfOk-weaker c.format.result _ _ (λ line e. e ∙ simp (c.as_str-name.ensures.text, c.in_ok-answer.ensures, c.in-Site.is, append_assoc) refl) c.format.ensures.ok

pub returns-in-Entry : goal.returns-in-Entry
returns-in-Entry c =
    IfOk-weaker c.format-in-Entry.result _ _ (λ line e. e ∙ simp (c.in_ok-answer.ensures, c.in-Entry.is, append_assoc) refl) c.format-in-Entry.ensures.ok

pub returns-in-Parcel : goal.returns-in-Parcel
returns-in-Parcel c =
    IfOk-weaker c.format-in-Parcel.result _ _ (λ line e. e ∙ simp (c.in_ok-answer.ensures, c.in-Parcel.is, append_assoc) refl) c.format-in-Parcel.ensures.ok
