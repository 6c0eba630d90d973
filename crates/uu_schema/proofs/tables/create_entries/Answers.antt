use Rattle.uu_schema.proofs.Statements.{executed}
use Rattle.uu_schema.proofs.Texts.{create_entries}
use Rattle.uu_schema.proofs.Meanings.{entries_made}
use Rattle.uu_schema.proofs.tables.create_entries.Goals as goal

pub returns : goal.returns
returns g c = executed create_entries _ c.execute.ensures.same_reference c.execute.ensures.ended c.execute.ensures.runs c.execute.ensures.survives (λ count. entries_made _ _ count)
