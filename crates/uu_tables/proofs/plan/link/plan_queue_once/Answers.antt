use Rattle.std.proofs.Common.{◌≡◌, ◌∙◌, None, Ok, sym, ap}
use Rattle.uu_core.specs.declared.command.Command.TheVariants.{QueueOnce}
use Rattle.uu_core.specs.declared.command.Reply.TheVariants.{Number}
use Rattle.uu_core.specs.declared.custody.HandIn.TheVariants.{First, Again}
use Rattle.uu_core.specs.Verdict.{once_reasons, taken_of}
use Rattle.uu_core.specs.After.{hand_in_of, hand_in, hand_in_number, with_job_once}
use Rattle.uu_tables.specs.Tables.{tables_of}
use Rattle.uu_tables.specs.Parts.{with_new_job, with_new_key}
use Rattle.uu_tables.proofs.PlanLemmas.{when_accepted, when_refused, accepts, refuses}
use Rattle.uu_tables.proofs.LinkLemmas.{first_is, keyed}
use Rattle.uu_tables.proofs.plan.link.plan_queue_once.Goals as goal

pub returns-in_ok-changes-in-Ok-First : goal.returns-in_ok-changes-in-Ok-First
returns-in_ok-changes-in-Ok-First c s good known next below taken =
    let key = c.args.key.now in
    let job = c.args.job.now in
    let number = c.in-Ok-First.number in
    let decided = when_accepted (once_reasons c.args.known c.args.next c.args.below c.args.taken key job) (hand_in_of c.args.taken key c.args.next) (First number) (sym (ap Ok (sym c.in-Ok-First.field-0-is) ∙ c.in-Ok-First.ensures)) in
    let first = first_is c.args.known c.args.next c.args.below c.args.taken key job number decided.1 decided.0 in
    let free : taken_of s key ≡ None = sym taken ∙ first.0 in
    let given : number ≡ s.next = sym first.1 ∙ next in
    let handed : hand_in s key ≡ First s.next = ap (λ o. hand_in_of o key s.next) free in
    accepts s (QueueOnce key job) _ (rw (known, next, below, taken) at decided.0) (ap Number (given ∙ ap hand_in_number (sym handed)))
    (c.in_ok-changes-in-Ok-First.ensures (tables_of s) ∙ ap (λ n. with_new_key key n (with_new_job n job (tables_of s))) given ∙ keyed s good key job free ∙ ap (λ h. tables_of (with_job_once h key job s)) (sym handed))

pub returns-in-Ok-Again : goal.returns-in-Ok-Again
returns-in-Ok-Again c s good known next below taken =
    let key = c.args.key.now in
    let job = c.args.job.now in
    let number = c.in-Ok-Again.number in
    let decided = when_accepted (once_reasons c.args.known c.args.next c.args.below c.args.taken key job) (hand_in_of c.args.taken key c.args.next) (Again number) (sym (ap Ok (sym c.in-Ok-Again.field-0-is) ∙ c.in-Ok-Again.ensures)) in
    let handed : hand_in s key ≡ Again number = rw (next, taken) at decided.1 in
    accepts s (QueueOnce key job) _ (rw (known, next, below, taken) at decided.0) (c.unchanged.ensures.reply ∙ ap (λ h. Number (hand_in_number h)) (sym handed))
    (rw c.unchanged.ensures.none (ap (λ h. tables_of (with_job_once h key job s)) (sym handed)))

pub returns-in-Err : goal.returns-in-Err
returns-in-Err c s good known next below taken =
    let key = c.args.key.now in
    let job = c.args.job.now in
    let some = when_refused (once_reasons c.args.known c.args.next c.args.below c.args.taken key job) (hand_in_of c.args.taken key c.args.next) c.in-Err.refusal (sym c.decide_queue_once.ensures ∙ c.in-Err.is) in
    refuses s (QueueOnce key job) _ c.in-Err.refusal (rw (known, next, below, taken) at some) c.refused.ensures.reply c.refused.ensures.none
