use Rattle.uu_request.proofs.CarriedLemmas.{unpacked}
use Rattle.uu_request.proofs.laws.bundles_are_steps_of_custody.Goals as goal

pub returns : goal.returns
returns c = λ settings at input user sender onward it asks. unpacked settings at input sender onward it asks.0 asks.1 asks.2
