-- From nine failures on it is a day.
use Rattle.std.proofs.Common.{sym, arith}
use Rattle.uu_core.proofs.WaitingLemmas.{growing_day}
use Rattle.uu_core.proofs.waiting.growing_minutes.Goals as goal

pub returns-in_default : goal.returns-in_default
returns-in_default c = sym (growing_day c.args.failures (omega arith))
