use Rattle.std.proofs.Common.{◌∙◌, map, refl, sym, ap, is_some}
use Rattle.std.specs.Option.{option_copied}
use Rattle.uu_names.proofs.Basics.{pairs_by_recursion}
use Rattle.uu_core.specs.declared.command.Command.TheVariants.{Done}
use Rattle.uu_core.specs.State.{head_of}
use Rattle.uu_core.specs.Verdict.{done_reasons}
use Rattle.uu_core.specs.After.{done_call, done_call_of}
use Rattle.uu_tables.specs.Tables.{tables_of}
use Rattle.uu_tables.specs.Changes.{applied}
use Rattle.uu_tables.specs.Parts.{without_jobs}
use Rattle.uu_tables.proofs.PlanLemmas.{when_accepted, when_refused, accepts, refuses}
use Rattle.uu_tables.proofs.OrderLemmas.{before}
use Rattle.uu_tables.proofs.ReportLemmas.{call_made, done, done_is_found, is_known}
use Rattle.uu_tables.proofs.plan.report.plan_done.Goals as goal

pub returns-in_ok-remove_jobs-in-Ok : goal.returns-in_ok-remove_jobs-in-Ok
returns-in_ok-remove_jobs-in-Ok c s good row found =
    let name = c.args.system.now in
    let at = c.args.at.now in
    let numbers = c.args.jobs.now in
    let o = option_copied c.args.row in
    let heads = map head_of s.jobs in
    let call = sym (c.done_call.ensures.call heads found) ∙ c.in-Ok.is in
    let decided = when_accepted (done_reasons (is_some o) name numbers heads) (done_call_of o at) c.in-Ok.call call in
    let known = done_is_found o at c.in-Ok.call name numbers heads decided.0 decided.1 in
    let ordered = pairs_by_recursion (before (λ row. row.def.name)) s.systems good.by_name in
    accepts s (Done name at numbers) _ (rw (is_known s name o row) at decided.0) refl (c.in_ok-remove_jobs-in-Ok.ensures (tables_of s)
    ∙ ap (λ l. without_jobs numbers (applied l (tables_of s))) c.in_ok-changes-in-Ok.ensures.items
    ∙ ap (without_jobs numbers) (call_made s name c.call_columns-call.result c.in-Ok.call (done_call known.0 at) c.call_columns-call.ensures (sym known.2))
    ∙ done s name at numbers known.0 ordered (sym row ∙ known.1))

pub returns-in-Err : goal.returns-in-Err
returns-in-Err c s good row found =
    let name = c.args.system.now in
    let at = c.args.at.now in
    let numbers = c.args.jobs.now in
    let o = option_copied c.args.row in
    let heads = map head_of s.jobs in
    let call = sym (c.done_call.ensures.call heads found) ∙ c.in-Err.is in
    let some = when_refused (done_reasons (is_some o) name numbers heads) (done_call_of o at) c.in-Err.refusal call in
    refuses s (Done name at numbers) _ c.in-Err.refusal (rw (is_known s name o row) at some) c.refused.ensures.reply c.refused.ensures.none
