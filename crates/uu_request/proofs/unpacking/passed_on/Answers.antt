use Rattle.uu_request.proofs.WordLemmas.{more_said}
use Rattle.uu_request.proofs.unpacking.passed_on.Goals as goal

pub message_to-requires-clause-rests : goal.message_to-requires-clause-rests
message_to-requires-clause-rests c = more_said c.args.onward.now c.args.parcel.now.kind c.in-Some.system.now c.in-Some.ensures
