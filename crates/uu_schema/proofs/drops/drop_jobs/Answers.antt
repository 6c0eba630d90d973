use Rattle.uu_schema.proofs.Statements.{executed}
use Rattle.uu_schema.proofs.Texts.{drop_jobs}
use Rattle.uu_schema.proofs.DropMeanings.{jobs_dropped}
use Rattle.uu_schema.proofs.drops.drop_jobs.Goals as goal

pub returns : goal.returns
returns g c = executed drop_jobs _ c.execute.ensures.same_reference c.execute.ensures.ended c.execute.ensures.runs c.execute.ensures.survives (λ count. jobs_dropped _ _ count)
