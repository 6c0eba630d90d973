use Rattle.uu_schema.proofs.Statements.{step_then, step_weaker}
use Rattle.uu_schema.proofs.tables.create_from_entries.Goals as goal

pub returns : goal.returns
returns g c = step_weaker (λ x y both none. both.second (both.first none)) (step_then c.in_ok-create_entries.ensures c.create_from_links.ensures)
