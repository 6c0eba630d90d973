use Rattle.uu_names.proofs.ReturnRuns.{one_run_of, one_way_back}
use Rattle.uu_names.proofs.laws.a_text_has_one_way_back.Goals as goal

pub returns : goal.returns
returns c = record { run = one_run_of; path = one_way_back }
