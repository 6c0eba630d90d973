use Rattle.uu_schema.proofs.Statements.{executed}
use Rattle.uu_schema.proofs.Texts.{insert_spool}
use Rattle.uu_schema.proofs.SpoolRow.{spool_begun}
use Rattle.uu_schema.proofs.tables.insert_spool.Goals as goal

pub returns : goal.returns
returns g c = executed insert_spool _ c.execute.ensures.same_reference c.execute.ensures.ended c.execute.ensures.runs c.execute.ensures.survives (λ count. spool_begun _ _ count)
