use Rattle.uu_seal.proofs.Sealed.{front_opens, whole_pieces_open}
use Rattle.uu_seal.proofs.laws.cut_texts_open_as_far.Goals as goal

pub returns : goal.returns
returns c = record { front = front_opens; whole = whole_pieces_open }
