use Rattle.uu_seal.proofs.Sealed.{whole_opens}
use Rattle.uu_seal.proofs.laws.sealed_texts_open.Goals as goal

pub returns : goal.returns
returns c = whole_opens
