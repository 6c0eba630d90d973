use Rattle.uu_core.proofs.DoneLemmas.{repeats_is}
use Rattle.uu_core.proofs.decide.has_repeat.Goals as goal

pub loop-i-init : goal.loop-i-init
loop-i-init c = repeats_is c.args.numbers.now
