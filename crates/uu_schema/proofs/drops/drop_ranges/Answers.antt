use Rattle.uu_schema.proofs.Statements.{executed}
use Rattle.uu_schema.proofs.Texts.{drop_ranges}
use Rattle.uu_schema.proofs.DropMeanings.{ranges_dropped}
use Rattle.uu_schema.proofs.drops.drop_ranges.Goals as goal

pub returns : goal.returns
returns g c = executed drop_ranges _ c.execute.ensures.same_reference c.execute.ensures.ended c.execute.ensures.runs c.execute.ensures.survives (λ count. ranges_dropped _ _ count)
