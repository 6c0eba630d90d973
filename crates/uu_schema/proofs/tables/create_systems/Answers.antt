use Rattle.uu_schema.proofs.Statements.{executed}
use Rattle.uu_schema.proofs.Texts.{create_systems}
use Rattle.uu_schema.proofs.Meanings.{systems_made}
use Rattle.uu_schema.proofs.tables.create_systems.Goals as goal

pub returns : goal.returns
returns g c = executed create_systems _ c.execute.ensures.same_reference c.execute.ensures.ended c.execute.ensures.runs c.execute.ensures.survives (λ count. systems_made _ _ count)
