use Rattle.uu_core.proofs.DueLaws.{first_to_go}
use Rattle.uu_core.proofs.laws.the_first_to_go_is_due.Goals as goal

pub returns : goal.returns
returns c = first_to_go
