use Rattle.uu_schema.proofs.Statements.{executed}
use Rattle.uu_schema.proofs.Texts.{drop_success_waits}
use Rattle.uu_schema.proofs.DropMeanings.{success_waits_dropped}
use Rattle.uu_schema.proofs.drops.drop_success_waits.Goals as goal

pub returns : goal.returns
returns g c = executed drop_success_waits _ c.execute.ensures.same_reference c.execute.ensures.ended c.execute.ensures.runs c.execute.ensures.survives (λ count. success_waits_dropped _ _ count)
