use Rattle.std.proofs.Common.{◌≡◌, List, filter, not, subst, sym}
use Rattle.uu_core.specs.Run.{state_after}
use Rattle.uu_core.specs.declared.command.Command.{Command}
use Rattle.uuspool.specs.Bundles.{is_had}
use Rattle.uuspool.proofs.ReleaseLemmas.{had_goes}
use Rattle.uuspool.proofs.laws.what_is_had_goes.Goals as goal

pub returns : goal.returns
returns c = λ settings state it commands good are.
    subst (λ (cs : List Command). state_after state cs ≡ record state { jobs = filter (λ job. not (is_had settings.name it job)) state.jobs }) (sym are)
    (had_goes settings.name it state good)
