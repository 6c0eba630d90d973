use Rattle.uu_schema.proofs.Statements.{executed}
use Rattle.uu_schema.proofs.Texts.{drop_entries}
use Rattle.uu_schema.proofs.DropMeanings.{entries_dropped}
use Rattle.uu_schema.proofs.drops.drop_entries.Goals as goal

pub returns : goal.returns
returns g c = executed drop_entries _ c.execute.ensures.same_reference c.execute.ensures.ended c.execute.ensures.runs c.execute.ensures.survives (λ count. entries_dropped _ _ count)
