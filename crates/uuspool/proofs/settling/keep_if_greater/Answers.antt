use Rattle.std.proofs.Common.{arith, ◌≤◌, ◌<◌}
use Rattle.uuspool.proofs.SettlingLemmas.{rising_more, rising_same}
use Rattle.uuspool.proofs.settling.keep_if_greater.Goals as goal

pub returns-in_ok-push : goal.returns-in_ok-push
returns-in_ok-push c = λ others.
    let less : c.args.last < c.args.one.now.number = omega (arith, c.if-last-number.true) in
    rising_more c.args.last c.args.kept.now.items c.push.new.self.items c.args.one.now others less c.in_ok-push.ensures.items

pub returns-else-last-number : goal.returns-else-last-number
returns-else-last-number c = λ others.
    let less : c.args.one.now.number ≤ c.args.last = omega (arith, c.if-last-number.false) in
    rising_same c.args.last c.args.kept.now.items c.args.one.now others less
