use Rattle.std.proofs.Common.{◌∙◌, ◌<◌, ◌≤◌, refl, sym, ap}
use Rattle.uu_core.specs.declared.command.Command.TheVariants.{Forget}
use Rattle.uu_core.specs.State.{link_of}
use Rattle.uu_core.specs.Verdict.{known_reasons}
use Rattle.uu_tables.specs.Tables.{tables_of}
use Rattle.uu_tables.specs.Changes.{applied}
use Rattle.uu_tables.proofs.PlanLemmas.{when_accepted, when_refused, accepts, refuses}
use Rattle.uu_tables.proofs.LinkLemmas.{forgets, forgets_nothing}
use Rattle.uu_tables.proofs.plan.link.plan_forget.Goals as goal

pub returns-in-Ok : goal.returns-in-Ok
returns-in-Ok c s good known before =
    let name = c.args.system.now in
    let below = c.args.below in
    let decided = when_accepted (known_reasons c.args.known) tt c.in-Ok.field-0 (sym c.decide_forget.ensures ∙ c.in-Ok.is) in
    let said : below ≤ (link_of s name).below = rw before at c.if-below-before.true in
    accepts s (Forget name below) _ (rw known at decided.0) c.unchanged.ensures.reply (rw c.unchanged.ensures.none (forgets_nothing s good name below said))

pub returns-in_ok-changes-in-Ok-2 : goal.returns-in_ok-changes-in-Ok-2
returns-in_ok-changes-in-Ok-2 c s good known before =
    let name = c.args.system.now in
    let below = c.args.below in
    let decided = when_accepted (known_reasons c.args.known) tt _ (sym c.decide_forget.ensures ∙ c.in-Ok-2.is) in
    let first : (link_of s name).below < below = rw before at c.if-below-before.false in
    accepts s (Forget name below) _ (rw known at decided.0) refl (ap (λ l. applied l (tables_of s)) c.in_ok-changes-in-Ok-2.ensures ∙ forgets s good name below first)

pub returns-in-Err : goal.returns-in-Err
returns-in-Err c s good known before =
    let name = c.args.system.now in
    let some = when_refused (known_reasons c.args.known) tt c.in-Err.refusal (sym c.decide_forget.ensures ∙ c.in-Err.is) in
    refuses s (Forget name c.args.below) _ c.in-Err.refusal (rw known at some) c.refused.ensures.reply c.refused.ensures.none
