use Rattle.uu_seal.proofs.Made.{cut_is_unforged}
use Rattle.uu_seal.proofs.laws.unchanged_texts_are_unforged.Goals as goal

pub returns : goal.returns
returns c = cut_is_unforged
