use Rattle.std.proofs.Common.{◌∙◌, ◌∷◌, [], sym}
use Rattle.std.specs.Option.{option_copied}
use Rattle.uu_core.specs.declared.command.Command.TheVariants.{Regrade}
use Rattle.uu_core.specs.Verdict.{job_reasons}
use Rattle.uu_tables.specs.declared.change.Change.TheVariants.{SetGrade}
use Rattle.uu_tables.proofs.PlanLemmas.{when_accepted, accepts_with}
use Rattle.uu_tables.proofs.JobLemmas.{regraded}
use Rattle.uu_tables.proofs.plan.job.plan_regrade.Goals as goal

pub returns-in-Ok : goal.returns-in-Ok
returns-in-Ok c s found =
    let by = c.args.by.now in
    let decided = when_accepted (job_reasons (option_copied c.args.head) by) tt c.in-Ok.field-0 (sym c.decide_job.ensures ∙ c.in-Ok.is) in
    accepts_with s (Regrade c.args.number c.args.grade by) (SetGrade c.args.number c.args.grade ∷ []) _ (rw found at decided.0) c.one_change.ensures.reply c.one_change.ensures.changes (regraded s c.args.number c.args.grade by)
