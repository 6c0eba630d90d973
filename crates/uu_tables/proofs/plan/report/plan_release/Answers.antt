use Rattle.std.proofs.Common.{◌∙◌, refl, ap}
use Rattle.uu_core.specs.declared.command.Command.TheVariants.{Release}
use Rattle.uu_tables.specs.Tables.{tables_of}
use Rattle.uu_tables.specs.Changes.{applied}
use Rattle.uu_tables.specs.Parts.{without_jobs}
use Rattle.uu_tables.proofs.PlanLemmas.{accepts}
use Rattle.uu_tables.proofs.ReleaseLemmas.{release}
use Rattle.uu_tables.proofs.plan.report.plan_release.Goals as goal

pub returns : goal.returns
returns c s system jobs good found =
    accepts s (Release system jobs) _ refl refl (c.in_ok-remove_jobs.ensures (tables_of s)
    ∙ ap (λ l. without_jobs c.args.found.now (applied l (tables_of s))) c.new-changes.ensures.items
    ∙ ap (λ numbers. without_jobs numbers (tables_of s)) found
    ∙ release s system jobs good.rising)
