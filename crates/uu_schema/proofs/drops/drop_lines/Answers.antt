use Rattle.uu_schema.proofs.Statements.{executed}
use Rattle.uu_schema.proofs.Texts.{drop_lines}
use Rattle.uu_schema.proofs.DropMeanings.{lines_dropped}
use Rattle.uu_schema.proofs.drops.drop_lines.Goals as goal

pub returns : goal.returns
returns g c = executed drop_lines _ c.execute.ensures.same_reference c.execute.ensures.ended c.execute.ensures.runs c.execute.ensures.survives (λ count. lines_dropped _ _ count)
