use Rattle.uu_bundle.proofs.OneBundle.{one_bundle}
use Rattle.uu_bundle.proofs.laws.a_text_has_one_bundle.Goals as goal

pub returns : goal.returns
returns c = one_bundle
