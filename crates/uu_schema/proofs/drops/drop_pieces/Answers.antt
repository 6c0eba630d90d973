use Rattle.uu_schema.proofs.Statements.{executed}
use Rattle.uu_schema.proofs.Texts.{drop_pieces}
use Rattle.uu_schema.proofs.DropMeanings.{pieces_dropped}
use Rattle.uu_schema.proofs.drops.drop_pieces.Goals as goal

pub returns : goal.returns
returns g c = executed drop_pieces _ c.execute.ensures.same_reference c.execute.ensures.ended c.execute.ensures.runs c.execute.ensures.survives (λ count. pieces_dropped _ _ count)
