use Rattle.uu_schema.proofs.Statements.{executed}
use Rattle.uu_schema.proofs.Texts.{create_spool}
use Rattle.uu_schema.proofs.Meanings.{spool_made}
use Rattle.uu_schema.proofs.tables.create_spool.Goals as goal

pub returns : goal.returns
returns g c = executed create_spool _ c.execute.ensures.same_reference c.execute.ensures.ended c.execute.ensures.runs c.execute.ensures.survives (λ count. spool_made _ _ count)
