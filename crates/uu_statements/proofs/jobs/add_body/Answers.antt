use Rattle.uu_tables.specs.Changes.{new_body}
use Rattle.uu_schema.proofs.Statements.{executed}
use Rattle.uu_statements.proofs.Texts.{insert_body}
use Rattle.uu_statements.proofs.Added.{body_added}
use Rattle.uu_statements.proofs.jobs.add_body.Goals as goal

pub returns : goal.returns
returns g c =
    executed insert_body _ c.execute.ensures.same_reference c.execute.ensures.ended c.execute.ensures.runs c.execute.ensures.survives
    (λ count stands ran. body_added _ _ (new_body c.args.job c.args.bytes.now) count stands (rw (c.params-to_sql.ensures, c.params-to_sql-2.ensures) at ran))
