use Rattle.uu_schema.proofs.Statements.{step_then, step_weaker}
use Rattle.uu_schema.proofs.tables.create_tables.Goals as goal

pub returns : goal.returns
returns g c = step_weaker (λ x y both. both.second (both.first tt)) (step_then c.in_ok-create_from_spool.ensures c.insert_spool.ensures)
