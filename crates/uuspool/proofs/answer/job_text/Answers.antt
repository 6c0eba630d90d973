use Rattle.std.proofs.Common.{◌∙◌, ◌++◌, ap}
use Rattle.std.specs.String.{string_bytes}
use Rattle.uu_report.specs.Reports.{IsJobLine}
use Rattle.uuspool.proofs.answer.job_text.Goals as goal

pub returns : goal.returns
returns c =
    let line : IsJobLine c.args.settings.now.zone c.args.head.now (string_bytes c.in_ok-line.line) = c.in_ok-line.ensures in (
      string_bytes c.in_ok-line.line,
      line,
      c.in_ok-extend_from_slice.ensures.items ∙ ap (λ t. t.items ++ c.args.bytes.now) c.into_bytes-text.ensures.value,
    )
