use Rattle.std.proofs.Common.{◌∙◌, ap}
use Rattle.uu_tables.specs.Changes.{applied, append}
use Rattle.uu_tables.proofs.PlanLemmas.{applied_append}
use Rattle.uu_adopt.proofs.renewal.BodyAdded.add_to.Goals as goal

pub returns : goal.returns
returns c t =
    let old = applied c.args.changes.now.items t in
    ap (λ l. applied l t) c.in_ok-push.ensures.items ∙ applied_append c.args.changes.now.items _ t ∙ (λ i. record old { bodies = append (record { job = c.args.self.now.job; bytes = c.as_slice.ensures i }) old.bodies })
