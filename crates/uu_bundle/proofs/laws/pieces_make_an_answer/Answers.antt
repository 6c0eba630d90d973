use Rattle.uu_bundle.proofs.Made.{answered_is_bundle, answers_are_text, answers_fit, answers_limited}
use Rattle.uu_bundle.proofs.laws.pieces_make_an_answer.Goals as goal

pub returns : goal.returns
returns c = record { text = answers_are_text; sound = answered_is_bundle; room = answers_fit; most = answers_limited }
