use Rattle.uu_request.proofs.CarriedLemmas.{users_named}
use Rattle.uu_request.proofs.laws.users_of_neighbours_name_them.Goals as goal

pub returns : goal.returns
returns c = λ settings at input user sender onward it named asks. users_named settings at input sender onward it asks.0 named asks.1 asks.2
