use Rattle.uu_core.specs.State.{has_system}
use Rattle.uuspool.proofs.PackedLemmas.{packed_may_be_said}
use Rattle.uuspool.proofs.laws.what_is_packed_may_be_said.Goals as goal

pub returns : goal.returns
returns c = λ settings state it output good own to spool grade printed.
    packed_may_be_said c.pieces_make_a_bundle.ensures.sound c.bundles_say_what_may_be_said.ensures.fronts settings.name it state (has_system state it.system) output good own to spool grade printed
