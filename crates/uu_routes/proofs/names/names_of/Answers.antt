use Rattle.uu_routes.proofs.Numbering.{names_same, names_strictly}
use Rattle.uu_routes.proofs.names.names_of.Goals as goal

pub returns-clause-same : goal.returns-clause-same
returns-clause-same c = names_same c.in_ok-mentioned.field-0.items c.in_ok-names.names.items c.dedup.new.self.items _ c.in_ok-mentioned.ensures c.in_ok-names.ensures.same c.dedup.ensures.filtered

pub returns-clause-order : goal.returns-clause-order
returns-clause-order c = names_strictly c.in_ok-names.names.items c.dedup.new.self.items c.in_ok-names.ensures.sorted c.dedup.ensures.filtered
