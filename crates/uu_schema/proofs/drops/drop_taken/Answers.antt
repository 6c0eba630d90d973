use Rattle.uu_schema.proofs.Statements.{executed}
use Rattle.uu_schema.proofs.Texts.{drop_taken}
use Rattle.uu_schema.proofs.DropMeanings.{taken_dropped}
use Rattle.uu_schema.proofs.drops.drop_taken.Goals as goal

pub returns : goal.returns
returns g c = executed drop_taken _ c.execute.ensures.same_reference c.execute.ensures.ended c.execute.ensures.runs c.execute.ensures.survives (λ count. taken_dropped _ _ count)
