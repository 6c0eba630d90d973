use Rattle.std.proofs.Common.{◌≡◌, sym, subst}
use Rattle.uu_handover.specs.Bundles.{IsSaid}
use Rattle.uu_custody.specs.Carried.{IsSaidBy}
use Rattle.uu_bundle.specs.Bundles.{bundle_text}
use Rattle.uu_bundle.specs.Reading.{IsRead}
use Rattle.uu_request.specs.Carried.{said_of}
use Rattle.uu_carriers.proofs.laws.a_text_says_one_bundle.Goals as goal

pub returns : goal.returns
returns c own system mark state whole bundle good well same said =
    let read = c.written_bundles_are_read.ensures in
    let one : whole ≡ bundle = c.a_text_has_one_bundle.ensures (bundle_text whole) whole bundle (read whole good) (subst (λ t. IsRead t bundle) (sym same) (read bundle well)) in
    (subst (λ b. IsSaidBy own state (said_of b)) (sym one) (mark, subst (λ t. IsSaid own t mark state (said_of bundle)) (sym said.to) said), one)
