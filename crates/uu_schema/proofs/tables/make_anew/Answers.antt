use Rattle.uu_schema.proofs.Statements.{step_then, step_weaker}
use Rattle.uu_schema.proofs.tables.make_anew.Goals as goal

pub returns : goal.returns
returns g c = step_weaker (λ x y both. both.second) (step_then c.in_ok-drop_tables.ensures c.create_tables.ensures)
