use Rattle.uu_core.specs.State.{empty}
use Rattle.uu_tables.specs.Tables.{tables_of}
use Rattle.uu_schema.proofs.Begun.{begins_empty}
use Rattle.uu_schema.proofs.Statements.{step_then, step_weaker}
use Rattle.uu_statements.proofs.changes.rewrite.Goals as goal

pub returns : goal.returns
returns g c = step_weaker (λ x y both. both.second (tables_of empty) (begins_empty x both.mid both.first)) (step_then c.in_ok-make_anew.ensures c.write_all.ensures)
