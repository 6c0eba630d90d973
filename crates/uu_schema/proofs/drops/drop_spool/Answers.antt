use Rattle.uu_schema.proofs.Statements.{executed}
use Rattle.uu_schema.proofs.Texts.{drop_spool}
use Rattle.uu_schema.proofs.DropMeanings.{spool_dropped}
use Rattle.uu_schema.proofs.drops.drop_spool.Goals as goal

pub returns : goal.returns
returns g c = executed drop_spool _ c.execute.ensures.same_reference c.execute.ensures.ended c.execute.ensures.runs c.execute.ensures.survives (λ count. spool_dropped _ _ count)
