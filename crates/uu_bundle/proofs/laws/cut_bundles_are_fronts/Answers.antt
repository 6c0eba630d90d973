use Rattle.uu_bundle.proofs.OneBundle.{front_is_read, no_heading, some_heading}
use Rattle.uu_bundle.proofs.laws.cut_bundles_are_fronts.Goals as goal

pub returns : goal.returns
returns c = record { front = front_is_read; nothing = λ bundle text good cut. (some_heading bundle text good cut, no_heading bundle text good cut) }
