use Rattle.std.proofs.Common.{◌∙◌, ◌∷◌, [], sym}
use Rattle.std.specs.Option.{option_copied}
use Rattle.uu_names.proofs.Basics.{pairs_by_recursion}
use Rattle.uu_core.specs.declared.command.Command.TheVariants.{Failed}
use Rattle.uu_tables.specs.declared.change.Change.TheVariants.{SetCall}
use Rattle.uu_tables.proofs.PlanLemmas.{accepts_with, refuses}
use Rattle.uu_tables.proofs.OrderLemmas.{before}
use Rattle.uu_tables.proofs.ReportLemmas.{failed_is_set, failed_is_refused}
use Rattle.uu_tables.proofs.plan.report.plan_failed.Goals as goal

pub returns-in-Ok : goal.returns-in-Ok
returns-in-Ok c s good found =
    let name = c.args.system.now in
    let at = c.args.at.now in
    let why = c.args.why.now in
    let columns = c.call_columns-call.result in
    let ordered = pairs_by_recursion (before (λ row. row.def.name)) s.systems good.by_name in
    let set = failed_is_set s name at why (option_copied c.args.row) c.in-Ok.call columns ordered found (rw c.in_ok-clone.ensures.cases at (sym c.failed_call.ensures.call ∙ c.in-Ok.is)) c.call_columns-call.ensures in
    accepts_with s (Failed name at why) (SetCall c.args.system columns ∷ []) _ set.0 c.one_change.ensures.reply c.one_change.ensures.changes set.1

pub returns-in-Err : goal.returns-in-Err
returns-in-Err c s good found =
    let name = c.args.system.now in
    let at = c.args.at.now in
    let why = c.args.why.now in
    let some = failed_is_refused s name at why (option_copied c.args.row) c.in-Err.refusal found (rw c.in_ok-clone.ensures.cases at (sym c.failed_call.ensures.call ∙ c.in-Err.is)) in
    refuses s (Failed name at why) _ c.in-Err.refusal some c.refused.ensures.reply c.refused.ensures.none
