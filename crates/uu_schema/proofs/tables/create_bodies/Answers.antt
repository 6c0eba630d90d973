use Rattle.uu_schema.proofs.Statements.{executed}
use Rattle.uu_schema.proofs.Texts.{create_bodies}
use Rattle.uu_schema.proofs.Meanings.{bodies_made}
use Rattle.uu_schema.proofs.tables.create_bodies.Goals as goal

pub returns : goal.returns
returns g c = executed create_bodies _ c.execute.ensures.same_reference c.execute.ensures.ended c.execute.ensures.runs c.execute.ensures.survives (λ count. bodies_made _ _ count)
