use Rattle.uuspool_main.specs.Stretch.{HasMoment}
use Rattle.uuspool_main.proofs.serving.run_on_file.Given as goal

abbrev pub invariant-loop-attempt : goal.invariant-loop-attempt
invariant-loop-attempt l = HasMoment l.settings l.invocation
