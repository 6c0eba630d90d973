use Rattle.uu_bundle.proofs.OneBundle.{told_apart}
use Rattle.uu_bundle.proofs.laws.texts_tell_apart.Goals as goal

pub returns : goal.returns
returns c = told_apart
