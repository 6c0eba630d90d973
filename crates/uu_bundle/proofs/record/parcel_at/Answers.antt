use Rattle.std.proofs.Common.{◌∙◌, sym}
use Rattle.uu_bundle.proofs.Records.{no_bytes, other_mark}
use Rattle.uu_bundle.proofs.record.parcel_at.Goals as goal

pub returns-in_default : goal.returns-in_default
returns-in_default c = no_bytes c.args.heading.now c.args.stated c.args.text.now c.requires c.in_default.ensures

pub returns-then-number : goal.returns-then-number
returns-then-number c =
    other_mark c.args.heading.now c.args.stated c.args.text.now c.in-Some.bytes.now c.in-Some.rest.now c.in_ok-mark.mark c.requires c.in-Some.ensures c.in_ok-mark.ensures
    (λ same. c.if-number.true (c.number.ensures.value ∙ same ∙ sym c.number-2.ensures.value))
