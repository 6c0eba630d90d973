use Rattle.std.proofs.Common.{arith, pos, ◌+ℤ◌}
use Rattle.std.proofs.lemmas.Int.{ints}
use Rattle.uu_times.proofs.Clock.{week_later}
use Rattle.uu_times.proofs.moment.week_minute.Goals as goal

pub returns-clause-value : goal.returns-clause-value
returns-clause-value c = week_later (pos c.args.second +ℤ c.args.offset) _ (omega (arith, ints))
