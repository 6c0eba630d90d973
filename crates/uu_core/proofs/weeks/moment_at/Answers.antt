-- The minute of the week is that of the moment.
use Rattle.std.proofs.Common.{◌≡◌, IfOk, ap, subst, pos}
use Rattle.uu_times.specs.Moment.{local_second, week_minute}
use Rattle.uu_core.specs.NextCalls.{natural, week_at}
use Rattle.uu_core.proofs.weeks.moment_at.Goals as goal

pub returns-clause-second : goal.returns-clause-second
returns-clause-second c = subst (λ r. IfOk r (λ moment. moment.second ≡ c.args.second)) c.unwrap.ensures c.new.ensures.second

pub returns-clause-week : goal.returns-clause-week
unfolding week_at
returns-clause-week c =
    ap natural (subst (λ r. IfOk r (λ moment. pos moment.week ≡ week_minute (local_second c.args.zone.now c.args.second))) c.unwrap.ensures c.new.ensures.week)
