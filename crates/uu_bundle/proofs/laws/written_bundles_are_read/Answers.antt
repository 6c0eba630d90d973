use Rattle.uu_bundle.proofs.OneBundle.{written_is_read}
use Rattle.uu_bundle.proofs.laws.written_bundles_are_read.Goals as goal

pub returns : goal.returns
returns c = written_is_read
