use Rattle.std.proofs.Common.{◌∙◌, ap}
use Rattle.uu_core.specs.Verdict.{key_under}
use Rattle.uu_tables.specs.Changes.{applied}
use Rattle.uu_tables.specs.Parts.{with_new_key}
use Rattle.uu_tables.proofs.PlanLemmas.{applied_append}
use Rattle.uu_tables.proofs.plan.link.add_queued_once.Goals as goal

pub returns : goal.returns
returns c t =
    ap (λ l. applied l t) c.in_ok-push.ensures.items ∙ applied_append c.in_ok-changes.changes.items _ t ∙ ap (with_new_key (key_under c.args.from.now c.args.there c.args.mark) c.args.number) (c.in_ok-changes.ensures t)
