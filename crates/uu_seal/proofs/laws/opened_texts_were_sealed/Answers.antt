use Rattle.uu_seal.proofs.Made.{any_were_sealed, were_sealed}
use Rattle.uu_seal.proofs.laws.opened_texts_were_sealed.Goals as goal

pub returns : goal.returns
returns c = record { one = were_sealed; any = any_were_sealed }
