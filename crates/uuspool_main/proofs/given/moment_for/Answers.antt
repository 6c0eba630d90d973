use Rattle.std.proofs.Common.{ap}
use Rattle.std.specs.Prelude.{unwrap_or}
use Rattle.uuspool_main.proofs.StretchLemmas.{at_second}
use Rattle.uuspool_main.proofs.given.moment_for.Goals as goal

pub returns-in-Some : goal.returns-in-Some
returns-in-Some c =
    at_second c.args.settings.now c.args.second 0 c.in-Some.second (ap (λ s. unwrap_or s 0) c.in-Some.is) c.moment_of.result c.moment_of.ensures.moment

pub returns-in-Ok : goal.returns-in-Ok
returns-in-Ok c =
    at_second c.args.settings.now c.args.second c.in-Ok.now c.in-Ok.now (ap (λ s. unwrap_or s c.in-Ok.now) c.in-None.is) c.moment_of-in-Ok.result c.moment_of-in-Ok.ensures.moment
