use Rattle.uu_schema.proofs.Statements.{step_then, step_weaker}
use Rattle.uu_schema.proofs.drops.drop_from_systems.Goals as goal

pub returns : goal.returns
returns g c = step_weaker (λ x y step. tt) (step_then c.in_ok-drop_systems.ensures c.drop_spool.ensures)
