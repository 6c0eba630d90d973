use Rattle.uu_core.specs.State.{has_system}
use Rattle.uuspool.proofs.PackedLemmas.{answered_may_be_said}
use Rattle.uuspool.proofs.laws.what_is_answered_may_be_said.Goals as goal

pub returns : goal.returns
returns c = λ settings state it make asked output good own to spool grade commands numbered printed.
    answered_may_be_said c.pieces_make_an_answer.ensures.sound c.bundles_say_what_may_be_said.ensures.fronts settings.name it make asked state (has_system state it.packing.system) output
    good own to spool grade commands numbered printed
