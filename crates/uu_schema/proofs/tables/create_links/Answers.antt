use Rattle.uu_schema.proofs.Statements.{executed}
use Rattle.uu_schema.proofs.Texts.{create_links}
use Rattle.uu_schema.proofs.Meanings.{links_made}
use Rattle.uu_schema.proofs.tables.create_links.Goals as goal

pub returns : goal.returns
returns g c = executed create_links _ c.execute.ensures.same_reference c.execute.ensures.ended c.execute.ensures.runs c.execute.ensures.survives (λ count. links_made _ _ count)
