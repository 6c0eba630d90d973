use Rattle.uu_schema.proofs.Statements.{executed}
use Rattle.uu_schema.proofs.Texts.{create_taken}
use Rattle.uu_schema.proofs.Meanings.{taken_made}
use Rattle.uu_schema.proofs.tables.create_taken.Goals as goal

pub returns : goal.returns
returns g c = executed create_taken _ c.execute.ensures.same_reference c.execute.ensures.ended c.execute.ensures.runs c.execute.ensures.survives (λ count. taken_made _ _ count)
