use Rattle.std.proofs.Common.{◌∙◌}
use Rattle.uu_tables.specs.Changes.{applied}
use Rattle.uu_adopt.specs.Renewal.{add_system}
use Rattle.uu_adopt.proofs.renewal.SystemColumnsAdded.add_to.Goals as goal

pub returns : goal.returns
returns c t = c.in_ok-add_system.ensures t ∙ (λ i. add_system (record { def = c.args.self.now.def; call = c.in_ok-call.ensures i }) (applied c.args.changes.now.items t))
