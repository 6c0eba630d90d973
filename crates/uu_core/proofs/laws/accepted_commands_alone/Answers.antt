use Rattle.uu_core.proofs.RunLemmas.{accepted_same, accepted_twice}
use Rattle.uu_core.proofs.laws.accepted_commands_alone.Goals as goal

pub returns : goal.returns
returns c = record { same = accepted_same; accepted = accepted_twice }
