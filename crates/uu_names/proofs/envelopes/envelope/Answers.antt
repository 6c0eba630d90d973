-- The line, the quote and the message in a row.
use Rattle.std.proofs.Common.{◌≡◌, [], Bool, sym, ◌∙◌, cond, codes, ap}
use Rattle.uu_names.specs.Envelope.{from_line, quote_of}
use Rattle.uu_names.proofs.EnvelopeJoins.{quoted}
use Rattle.uu_names.proofs.envelopes.envelope.Goals as goal
use Rattle.uu_names.proofs.envelopes.envelope.Goals.{then-starts_with, else-starts_with}

pub returns-clause-bytes : goal.returns-clause-bytes
returns-clause-bytes c =
    let message = c.args.message.now in
    let quote : c.if-starts_with.quote.now ≡ quote_of message =
    elim c.if-starts_with.branch [
      | then-starts_with w ↦ ap (λ q. q.now) w.quote-is ∙ ap (λ (b : Bool). cond b (codes ">") []) (sym w.if-starts_with.true ∙ c.starts_with.ensures.value)
      | else-starts_with w ↦ ap (λ q. q.now) w.quote-is ∙ ap (λ (b : Bool). cond b (codes ">") []) (sym w.if-starts_with.false ∙ c.starts_with.ensures.value)
    ] in
    quoted _ _ _ (from_line c.args.user.now c.args.local.now c.args.site.now) (quote_of message) c.if-starts_with.quote.now message
    c.new-bytes.ensures.items c.in_ok-append_from_line.ensures c.in_ok-append.ensures quote
