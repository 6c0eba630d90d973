use Rattle.std.proofs.Common.{◌∙◌, ap}
use Rattle.uu_tables.specs.Changes.{applied}
use Rattle.uu_tables.proofs.PlanLemmas.{applied_append}
use Rattle.uu_adopt.proofs.renewal.TakenColumnsAdded.add_to.Goals as goal

pub returns : goal.returns
returns c t = ap (λ l. applied l t) c.in_ok-push.ensures.items ∙ applied_append c.args.changes.now.items _ t
