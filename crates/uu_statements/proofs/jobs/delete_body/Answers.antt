use Rattle.uu_schema.proofs.Statements.{executed}
use Rattle.uu_statements.proofs.Texts.{delete_body}
use Rattle.uu_statements.proofs.Removed.{body_gone}
use Rattle.uu_statements.proofs.jobs.delete_body.Goals as goal

pub returns : goal.returns
returns g c =
    executed delete_body _ c.execute.ensures.same_reference c.execute.ensures.ended c.execute.ensures.runs c.execute.ensures.survives
    (λ count stands ran. body_gone _ _ c.args.number count stands (rw (c.params-to_sql.ensures) at ran))
