use Rattle.uu_schema.proofs.Statements.{executed}
use Rattle.uu_schema.proofs.Texts.{drop_systems}
use Rattle.uu_schema.proofs.DropMeanings.{systems_dropped}
use Rattle.uu_schema.proofs.drops.drop_systems.Goals as goal

pub returns : goal.returns
returns g c = executed drop_systems _ c.execute.ensures.same_reference c.execute.ensures.ended c.execute.ensures.runs c.execute.ensures.survives (λ count. systems_dropped _ _ count)
