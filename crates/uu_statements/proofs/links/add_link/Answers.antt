use Rattle.uu_schema.proofs.Statements.{executed}
use Rattle.uu_statements.proofs.Texts.{insert_link}
use Rattle.uu_statements.proofs.Added.{link_added}
use Rattle.uu_tables.specs.Changes.{new_below}
use Rattle.uu_statements.proofs.links.add_link.Goals as goal

pub returns : goal.returns
returns g c =
    executed insert_link _ c.execute.ensures.same_reference c.execute.ensures.ended c.execute.ensures.runs c.execute.ensures.survives
    (λ count stands ran. link_added _ _ (new_below c.args.system.now c.args.below) count stands (rw (c.params-to_sql.ensures, c.params-to_sql-2.ensures, c.as_str.ensures.text) at ran))
