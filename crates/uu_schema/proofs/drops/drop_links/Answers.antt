use Rattle.uu_schema.proofs.Statements.{executed}
use Rattle.uu_schema.proofs.Texts.{drop_links}
use Rattle.uu_schema.proofs.DropMeanings.{links_dropped}
use Rattle.uu_schema.proofs.drops.drop_links.Goals as goal

pub returns : goal.returns
returns g c = executed drop_links _ c.execute.ensures.same_reference c.execute.ensures.ended c.execute.ensures.runs c.execute.ensures.survives (λ count. links_dropped _ _ count)
