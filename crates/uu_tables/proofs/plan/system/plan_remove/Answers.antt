use Rattle.std.proofs.Common.{◌∙◌, ◌∷◌, [], sym}
use Rattle.uu_core.specs.declared.command.Command.TheVariants.{Remove}
use Rattle.uu_core.specs.Verdict.{remove_reasons}
use Rattle.uu_tables.specs.declared.change.Change.TheVariants.{RemoveSystem}
use Rattle.uu_tables.proofs.PlanLemmas.{when_accepted, accepts_with}
use Rattle.uu_tables.proofs.SystemLemmas.{removed}
use Rattle.uu_tables.proofs.plan.system.plan_remove.Goals as goal

pub returns-in-Ok : goal.returns-in-Ok
returns-in-Ok c s known waiting =
    let name = c.args.system.now in
    let decided = when_accepted (remove_reasons c.args.known c.args.waiting) tt c.in-Ok.field-0 (sym c.decide_drop.ensures ∙ c.in-Ok.is) in
    accepts_with s (Remove name) (RemoveSystem c.args.system ∷ []) _ (rw (known, waiting) at decided.0) c.one_change.ensures.reply c.one_change.ensures.changes (removed s name)
