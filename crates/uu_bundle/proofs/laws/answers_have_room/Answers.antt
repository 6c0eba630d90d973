use Rattle.uu_bundle.proofs.Room.{answers_small}
use Rattle.uu_bundle.proofs.laws.answers_have_room.Goals as goal

pub returns : goal.returns
returns c = answers_small
