use Rattle.uu_times.proofs.Predefined.{all_read}
use Rattle.uu_times.proofs.laws.predefined_tables_are_read.Goals as goal

pub returns : goal.returns
returns c = all_read
