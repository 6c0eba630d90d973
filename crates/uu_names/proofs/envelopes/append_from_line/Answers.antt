-- The pieces in a row.
use Rattle.std.proofs.Common.{◌∷◌, [], codes, ◌∙◌}
use Rattle.std.proofs.lemmas.Result.{IfOk-weaker}
use Rattle.uu_names.specs.Envelope.{date_text}
use Rattle.uu_names.specs.Text.{line_feed}
use Rattle.uu_names.proofs.EnvelopeJoins.{joined}
use Rattle.uu_names.proofs.envelopes.append_from_line.Goals as goal

pub returns : goal.returns
returns c =
    IfOk-weaker c.append-2.result _ _
    (λ _ e. joined c.args.bytes.now.items _ _ _ (codes "From ") c.args.user.now _ (codes " ") (date_text c.args.local.now) (codes " remote from ") c.args.site.now _ (line_feed ∷ [])
    c.in_ok-append.ensures c.in_ok-append_date.ensures e (c.as_bytes.ensures.value ∙ c.as_str.ensures.text) (c.as_bytes-2.ensures.value ∙ c.as_str-2.ensures.text))
    c.append-2.ensures
