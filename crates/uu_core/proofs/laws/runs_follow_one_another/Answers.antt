use Rattle.uu_core.proofs.RunLemmas.{states_append, replies_append}
use Rattle.uu_core.proofs.laws.runs_follow_one_another.Goals as goal

pub returns : goal.returns
returns c = record { states = states_append; replies = replies_append }
