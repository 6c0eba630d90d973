use Rattle.std.proofs.Common.{◌≡◌, ◌∙◌, sym, ap}
use Rattle.uu_core.specs.declared.command.Command.TheVariants.{Queue}
use Rattle.uu_core.specs.declared.command.Reply.TheVariants.{Number}
use Rattle.uu_core.specs.Verdict.{queue_reasons}
use Rattle.uu_tables.specs.Tables.{tables_of}
use Rattle.uu_tables.specs.Parts.{with_new_job}
use Rattle.uu_tables.proofs.PlanLemmas.{when_accepted, when_refused, accepts, refuses}
use Rattle.uu_tables.proofs.JobLemmas.{queued}
use Rattle.uu_tables.proofs.plan.queue.plan_queue.Goals as goal

pub returns-in_ok-changes-in-Ok : goal.returns-in_ok-changes-in-Ok
returns-in_ok-changes-in-Ok c s known next =
    let job = c.args.job.now in
    let decided = when_accepted (queue_reasons c.args.known c.args.next job) c.args.next c.in-Ok.number (sym c.decide_queue.ensures ∙ c.in-Ok.is) in
    let number : c.in-Ok.number ≡ s.next = sym decided.1 ∙ next in
    accepts s (Queue job) _ (rw (known, next) at decided.0) (ap Number number) (c.in_ok-changes-in-Ok.ensures (tables_of s) ∙ ap (λ n. with_new_job n job (tables_of s)) number ∙ queued s job)

pub returns-in-Err : goal.returns-in-Err
returns-in-Err c s known next =
    let job = c.args.job.now in
    let some = when_refused (queue_reasons c.args.known c.args.next job) c.args.next c.in-Err.refusal (sym c.decide_queue.ensures ∙ c.in-Err.is) in
    refuses s (Queue job) _ c.in-Err.refusal (rw (known, next) at some) c.refused.ensures.reply c.refused.ensures.none
