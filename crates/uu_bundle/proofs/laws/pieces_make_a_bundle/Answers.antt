use Rattle.uu_bundle.proofs.Made.{longest_front, packed_is_bundle, pieces_are_text, pieces_fit, pieces_limited}
use Rattle.uu_bundle.proofs.First.{first_job, first_told}
use Rattle.uu_bundle.proofs.laws.pieces_make_a_bundle.Goals as goal

pub returns : goal.returns
returns c = record { text = pieces_are_text; longest = longest_front; some_told = first_told; some_job = first_job; sound = packed_is_bundle; room = pieces_fit; most = pieces_limited }
