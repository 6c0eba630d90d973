use Rattle.std.proofs.Common.{◌∙◌, ◌≡◌, ap, false, None}
use Rattle.std.proofs.lemmas.Result.{IfOk-weaker}
use Rattle.jiff_fmt.specs.Printer.{options, datetime_text}
use Rattle.jiff_fmt.specs.Text as Text
use Rattle.uu_report.specs.Reports.{clock_text}
use Rattle.uu_report.proofs.clock.moment_text.Goals as goal

pub returns : goal.returns
unfolding clock_text
returns c =
    let shown = c.local_time-local.result in
    let local = c.local_time-local.ensures.value in
    let with_space : options c.separator.result ≡ (false, 32, None) = c.separator.ensures ∙ ap (λ o. (o.0, 32, o.2)) c.new.ensures in
    let text : datetime_text c.separator.result shown ≡ clock_text shown = ap (λ o. Text.datetime_text o.0 o.1 o.2 shown) with_space in
    IfOk-weaker c.from_str.result _ _ (λ text_of e. (shown, local, e ∙ (c.as_str.ensures.value ∙ (c.datetime_text-text.ensures ∙ text)))) c.from_str.ensures.ok
