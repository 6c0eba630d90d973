use Rattle.uu_times.proofs.TableLemmas.{table_known}
use Rattle.uu_times.proofs.laws.the_last_timetable_counts.Goals as goal

pub returns : goal.returns
returns c = table_known
