use Rattle.uu_schema.proofs.Statements.{executed}
use Rattle.uu_schema.proofs.Texts.{create_jobs}
use Rattle.uu_schema.proofs.Meanings.{jobs_made}
use Rattle.uu_schema.proofs.tables.create_jobs.Goals as goal

pub returns : goal.returns
returns g c = executed create_jobs _ c.execute.ensures.same_reference c.execute.ensures.ended c.execute.ensures.runs c.execute.ensures.survives (λ count. jobs_made _ _ count)
