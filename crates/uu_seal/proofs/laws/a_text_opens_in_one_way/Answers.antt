use Rattle.uu_seal.proofs.Opened.{one_way}
use Rattle.uu_seal.proofs.laws.a_text_opens_in_one_way.Goals as goal

pub returns : goal.returns
returns c = one_way
