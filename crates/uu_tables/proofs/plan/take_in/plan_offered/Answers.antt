use Rattle.std.proofs.Common.{◌∙◌, Ok, ap, sym, refl}
use Rattle.uu_tables.proofs.TakeInLemmas.{queued, asked_again, turned_down}
use Rattle.uu_tables.proofs.plan.take_in.plan_offered.Goals as goal

pub returns-in_ok-changes-in-Ok-First : goal.returns-in_ok-changes-in-Ok-First
returns-in_ok-changes-in-Ok-First c = λ s now good it known taken.
    let d = c.in_ok-number.ensures.decided s now c.args.from.now it known taken in
    (queued now good c.args.from.now c.args.offered.now _ c.in-Ok-First.number (sym (c.in-Ok-First.is ∙ ap Ok c.in-Ok-First.field-0-is) ∙ d.0) refl c.in_ok-changes-in-Ok-First.ensures, d.1)

pub returns-in-Ok-Again : goal.returns-in-Ok-Again
returns-in-Ok-Again c = λ s now good it known taken.
    let d = c.in_ok-number.ensures.decided s now c.args.from.now it known taken in
    (asked_again now good c.args.from.now c.args.offered.now _ c.in-Ok-Again.number (sym (c.in-Ok-Again.is ∙ ap Ok c.in-Ok-Again.field-0-is) ∙ d.0) c.unchanged.ensures.reply c.unchanged.ensures.none, d.1)

pub returns-in-Err : goal.returns-in-Err
returns-in-Err c = λ s now good it known taken.
    let d = c.in_ok-number.ensures.decided s now c.args.from.now it known taken in
    (turned_down now good c.args.from.now c.args.offered.now _ c.in-Err.refusal (sym c.in-Err.is ∙ d.0) c.refused.ensures.reply c.refused.ensures.none, d.1)
